-- What writing words leaves.
use Rattle.std.proofs.Common.{◌≡◌, ◌≢◌, ℕ, zero, suc, ◌+◌, ◌<◌, ◌≤◌, ◌⊎◌, inl, inr, List, [], ◌∷◌, length, take, drop, set, Option, Some, None, refl, ap, sym, ◌∙◌, arith, leb, true}
use Rattle.std.specs.List.{slice_get}
use Rattle.std.proofs.lemmas.Bool.{le-leb, leb-true, cases_eq, cases_lt}
use Rattle.std.proofs.lemmas.Option.{slice_get_past}
use Rattle.capnp_model.specs.Segments.{Segments, Place, after, word_at, words_at}
use Rattle.capnp_model.specs.Coverage.{Grows}
use Rattle.capnp_model.proofs.lemmas.Chaining.{bind_some, provided_some, some_is}
use Rattle.capnp_model_writes.specs.Writes.{spliced, spliced_in, with_words}
use Rattle.capnp_model_writes.specs.Changes.{absent}
use Rattle.capnp_model_writes.proofs.lemmas.Spans.{held, held_in, Whether, it_is, it_is_not, whether, there, still_there}
use Rattle.capnp_model_writes.proofs.lemmas.Growing.{get_none}

pub spliced_length : (k : ℕ) (vs xs : List ℕ) → length (spliced k vs xs) ≡ length xs
unfolding spliced
spliced_length zero vs [] = refl
spliced_length (suc k) vs [] = refl
spliced_length zero [] (x ∷ xs) = refl
spliced_length zero (v ∷ vs) (x ∷ xs) = let e = spliced_length zero vs xs in omega (arith, e)
spliced_length (suc k) vs (x ∷ xs) = let e = spliced_length k vs xs in omega (arith, e)

-- behind and in front of what is written all is as it was
pub spliced_nothing : (k : ℕ) (xs : List ℕ) → spliced k [] xs ≡ xs
unfolding spliced
spliced_nothing zero [] = refl
spliced_nothing (suc k) [] = refl
spliced_nothing zero (x ∷ xs) = refl
spliced_nothing (suc k) (x ∷ xs) = ap (λ (ys : List ℕ). x ∷ ys) (spliced_nothing k xs)

pub spliced_front : (k j : ℕ) (vs xs : List ℕ) → j < k → slice_get (spliced k vs xs) j ≡ slice_get xs j
unfolding spliced
spliced_front zero j vs xs l = absurd (omega (arith, l))
spliced_front (suc k) j vs [] l = refl
spliced_front (suc k) zero vs (x ∷ xs) l = refl
spliced_front (suc k) (suc j) vs (x ∷ xs) l = spliced_front k j vs xs (omega (arith, l))

pub spliced_back : (k j : ℕ) (vs xs : List ℕ) → k + length vs ≤ j → slice_get (spliced k vs xs) j ≡ slice_get xs j
unfolding spliced
spliced_back zero j vs [] l = refl
spliced_back (suc k) j vs [] l = refl
spliced_back zero j [] (x ∷ xs) l = refl
spliced_back zero zero (v ∷ vs) (x ∷ xs) l = absurd (omega (arith, l))
spliced_back zero (suc j) (v ∷ vs) (x ∷ xs) l = spliced_back zero j vs xs (omega (arith, l))
spliced_back (suc k) zero vs (x ∷ xs) l = absurd (omega (arith, l))
spliced_back (suc k) (suc j) vs (x ∷ xs) l = spliced_back k j vs xs (omega (arith, l))

-- a part of what is written into
front_part : (i d : ℕ) (vs xs : List ℕ) → i + length vs ≤ d → take d (spliced i vs xs) ≡ spliced i vs (take d xs)
unfolding spliced
front_part zero zero vs [] l = refl
front_part (suc i) zero vs [] l = refl
front_part zero (suc d) vs [] l = refl
front_part (suc i) (suc d) vs [] l = refl
front_part zero zero [] (x ∷ xs) l = refl
front_part zero zero (v ∷ vs) (x ∷ xs) l = absurd (omega (arith, l))
front_part zero (suc d) [] (x ∷ xs) l = refl
front_part zero (suc d) (v ∷ vs) (x ∷ xs) l = ap (λ (ys : List ℕ). v ∷ ys) (front_part zero d vs xs (omega (arith, l)))
front_part (suc i) zero vs (x ∷ xs) l = absurd (omega (arith, l))
front_part (suc i) (suc d) vs (x ∷ xs) l = ap (λ (ys : List ℕ). x ∷ ys) (front_part i d vs xs (omega (arith, l)))

part_by : (p j i d : ℕ) (vs xs : List ℕ) → j ≡ p + i → i + length vs ≤ d → take d (drop p (spliced j vs xs)) ≡ spliced i vs (take d (drop p xs))
unfolding spliced
part_by zero j i d vs xs e l = let same : j ≡ i = omega (arith, e) in ap (λ (m : ℕ). take d (spliced m vs xs)) same ∙ front_part i d vs xs l
part_by (suc p) zero i d vs xs e l = absurd (omega (arith, e))
part_by (suc p) (suc j) i d vs [] e l = front_part i d vs [] l
part_by (suc p) (suc j) i d vs (x ∷ xs) e l = part_by p j i d vs xs (omega (arith, e)) l

pub spliced_part : (p i d : ℕ) (vs xs : List ℕ) → i + length vs ≤ d → take d (drop p (spliced (p + i) vs xs)) ≡ spliced i vs (take d (drop p xs))
spliced_part p i d vs xs l = part_by p (p + i) i d vs xs refl l

pub spliced_whole : (vs xs : List ℕ) → length vs ≡ length xs → spliced 0 vs xs ≡ vs
unfolding spliced
spliced_whole [] [] l = refl
spliced_whole [] (x ∷ xs) l = absurd (omega (arith, l))
spliced_whole (v ∷ vs) [] l = absurd (omega (arith, l))
spliced_whole (v ∷ vs) (x ∷ xs) l = ap (λ (ys : List ℕ). v ∷ ys) (spliced_whole vs xs (omega (arith, l)))

pub spliced_one : (k v : ℕ) (xs : List ℕ) → spliced k (v ∷ []) xs ≡ set xs k v
unfolding spliced
spliced_one zero v [] = refl
spliced_one (suc k) v [] = refl
spliced_one zero v (x ∷ []) = refl
spliced_one zero v (x ∷ (y ∷ xs)) = refl
spliced_one (suc k) v (x ∷ xs) = ap (λ (ys : List ℕ). x ∷ ys) (spliced_one k v xs)

-- ---- segments

here_in : (s : Segments) (i k : ℕ) (vs xs : List ℕ) → slice_get s i ≡ Some xs → slice_get (spliced_in s i k vs) i ≡ Some (spliced k vs xs)
here_in [] i k vs xs e = absurd cc
here_in (x ∷ s) zero k vs xs e = ap (λ (ys : List ℕ). Some (spliced k vs ys)) (some_is _ _ e)
here_in (x ∷ s) (suc i) k vs xs e = here_in s i k vs xs e

past_in : (s : Segments) (i k : ℕ) (vs : List ℕ) → slice_get s i ≡ None → slice_get (spliced_in s i k vs) i ≡ None
past_in [] i k vs e = e
past_in (x ∷ s) zero k vs e = absurd cc
past_in (x ∷ s) (suc i) k vs e = past_in s i k vs e

other_in : (s : Segments) (i j k : ℕ) (vs : List ℕ) → i ≢ j → slice_get (spliced_in s i k vs) j ≡ slice_get s j
other_in [] i j k vs ne = refl
other_in (x ∷ s) zero zero k vs ne = absurd (ne refl)
other_in (x ∷ s) zero (suc j) k vs ne = refl
other_in (x ∷ s) (suc i) zero k vs ne = refl
other_in (x ∷ s) (suc i) (suc j) k vs ne = other_in s i j k vs (λ (e : i ≡ j). ne (ap suc e))

-- u has other words in a span, and all else of s
pub record Rewrites (s u : Segments) (p : Place) (n : ℕ) : Type 0 where
  pub grows : Grows s u
  pub no_more : (q : Place) → absent s q ≡ absent u q
  pub others : (q : Place) (w : ℕ) → held p n q ≡ 0 → word_at s q ≡ Some w → word_at u q ≡ Some w

grows_by : (s : Segments) (p : Place) (vs : List ℕ) (i : ℕ) (xs : List ℕ) → (p.segment ≡ i) ⊎ (p.segment ≢ i) → slice_get s i ≡ Some xs → (ys : List ℕ) × (slice_get (with_words s p vs) i ≡ Some ys) × (length xs ≡ length ys)
unfolding with_words
grows_by s p vs i xs (inl is) e =
    let here : slice_get s p.segment ≡ Some xs = ap (slice_get s) is ∙ e in
    (spliced p.position vs xs, ap (slice_get (spliced_in s p.segment p.position vs)) (sym is) ∙ here_in s p.segment p.position vs xs here, sym (spliced_length p.position vs xs))
grows_by s p vs i xs (inr ne) e = (xs, other_in s p.segment i p.position vs ne ∙ e, refl)

same_length : (s : Segments) (p : Place) (vs : List ℕ) (i : ℕ) (xs : List ℕ) → slice_get s i ≡ Some xs → (ys : List ℕ) × (slice_get (with_words s p vs) i ≡ Some ys) × (length xs ≡ length ys)
same_length s p vs i xs e = grows_by s p vs i xs (cases_eq p.segment i) e

none_past : (s : Segments) (p : Place) (vs : List ℕ) (i : ℕ) → (p.segment ≡ i) ⊎ (p.segment ≢ i) → slice_get s i ≡ None → slice_get (with_words s p vs) i ≡ None
unfolding with_words
none_past s p vs i (inl is) e = ap (slice_get (spliced_in s p.segment p.position vs)) (sym is) ∙ past_in s p.segment p.position vs (ap (slice_get s) is ∙ e)
none_past s p vs i (inr ne) e = other_in s p.segment i p.position vs ne ∙ e

pub splice_grows : (s : Segments) (p : Place) (vs : List ℕ) → Grows s (with_words s p vs)
splice_grows s p vs i xs e = let a = same_length s p vs i xs e in (a.0, a.1, omega (arith, a.2))

none_by : (s : Segments) (p : Place) (vs : List ℕ) (q : Place) (o : Option (List ℕ)) → slice_get s q.segment ≡ o → word_at s q ≡ None → word_at (with_words s p vs) q ≡ None
none_by s p vs q None there e = let f = none_past s p vs q.segment (cases_eq p.segment q.segment) there in rw f refl
none_by s p vs q (Some xs) there e =
    let a = same_length s p vs q.segment xs there in
    let is : slice_get (with_words s p vs) q.segment ≡ Some a.0 = a.1 in
    let past : length xs ≤ q.position = get_none xs q.position (let f : word_at s q ≡ slice_get xs q.position = rw there refl in sym f ∙ e) in
    rw is (slice_get_past a.0 q.position (omega (arith, past, a.2)))

absent_same : (s : Segments) (p : Place) (vs : List ℕ) (q : Place) → Whether s q → absent s q ≡ absent (with_words s p vs) q
unfolding absent
absent_same s p vs q (it_is w e z) = let v = still_there s (with_words s p vs) q w (splice_grows s p vs) e in let is : word_at (with_words s p vs) q ≡ Some v.0 = v.1 in rw (e, is) refl
absent_same s p vs q (it_is_not e z) = let f = none_by s p vs q (slice_get s q.segment) refl e in rw (e, f) refl

beside_by : (s : Segments) (p : Place) (vs : List ℕ) (q : Place) (w : ℕ) → (p.segment ≡ q.segment) ⊎ (p.segment ≢ q.segment) → (q.position < p.position) ⊎ (p.position ≤ q.position) → held p (length vs) q ≡ 0 → word_at s q ≡ Some w → word_at (with_words s p vs) q ≡ Some w
unfolding with_words
beside_by s p vs q w (inr ne) side z e = let same = other_in s p.segment q.segment p.position vs ne in rw same e
beside_by s p vs q w (inl is) side z e =
    let x = bind_some (slice_get s q.segment) _ w e in
    let here : slice_get s p.segment ≡ Some x.0 = ap (slice_get s) is ∙ x.1 in
    let there : slice_get (spliced_in s p.segment p.position vs) q.segment ≡ Some (spliced p.position vs x.0) = ap (slice_get (spliced_in s p.segment p.position vs)) (sym is) ∙ here_in s p.segment p.position vs x.0 here in
    let same : slice_get (spliced p.position vs x.0) q.position ≡ slice_get x.0 q.position = elim side [ inl l ↦ spliced_front p.position q.position vs x.0 l | inr g ↦ spliced_back p.position q.position vs x.0 (elim (cases_lt q.position (p.position + length vs)) [ inl l ↦ absurd (let one = held_in p (length vs) q is g l in omega (arith, z, one)) | inr h ↦ h ]) ] in
    rw there (same ∙ x.2)

pub splice_rewrites : (s : Segments) (p : Place) (vs : List ℕ) → Rewrites s (with_words s p vs) p (length vs)
splice_rewrites s p vs =
    record {
      grows = splice_grows s p vs;
      no_more = λ q. absent_same s p vs q (whether s q);
      others = λ q w z e. beside_by s p vs q w (cases_eq p.segment q.segment) (cases_lt q.position p.position) z e;
    }

-- words that were there, with others among them
pub splice_words : (s : Segments) (p : Place) (i d : ℕ) (vs ws : List ℕ) → i + length vs ≤ d → words_at s p d ≡ Some ws → words_at (with_words s (after p i) vs) p d ≡ Some (spliced i vs ws)
unfolding with_words
splice_words s p i d vs ws l e =
    let x = bind_some (slice_get s p.segment) _ ws e in
    let here : slice_get (spliced_in s p.segment (p.position + i) vs) p.segment ≡ Some (spliced (p.position + i) vs x.0) = here_in s p.segment (p.position + i) vs x.0 x.1 in
    let g = provided_some _ _ _ x.2 in
    let fits = leb-true _ _ g.0 in
    let m : leb (p.position + d) (length (spliced (p.position + i) vs x.0)) ≡ true = le-leb _ _ (omega (arith, fits, spliced_length (p.position + i) vs x.0)) in
    rw (here, m) (ap (λ (ys : List ℕ). Some ys) (spliced_part p.position i d vs x.0 l ∙ ap (spliced i vs) g.1))
