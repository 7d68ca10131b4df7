-- What new words leave.
use Rattle.std.proofs.Common.{◌≡◌, ◌≢◌, ℕ, zero, suc, ◌+◌, ◌-◌, ◌<◌, ◌≤◌, ◌⊎◌, inl, inr, List, [], ◌∷◌, ◌++◌, length, take, drop, replicate, Some, None, refl, ap, sym, ◌∙◌, arith, leb, true}
use Rattle.std.specs.List.{slice_get}
use Rattle.std.proofs.lemmas.Bool.{le-leb, cases_eq, cases_lt}
use Rattle.std.proofs.lemmas.Option.{slice_get_past}
use Rattle.std.proofs.lemmas.List.{length-append, length-replicate, drop_at}
use Rattle.capnp_model.specs.Segments.{Segments, Place, place, word_at, words_at}
use Rattle.capnp_model.specs.Coverage.{Grows}
use Rattle.capnp_model.proofs.lemmas.Chaining.{bind_some, provided_some, some_is}
use Rattle.capnp_model_writes.specs.Writes.{with_zeros, segment_end}
use Rattle.capnp_model_writes.specs.Changes.{absent}
use Rattle.capnp_model_writes.proofs.lemmas.Spans.{held, held_in, held_segment, held_low, held_high, there}

-- u has what s has, and new zero words in a span
pub record Extends (s u : Segments) (p : Place) (n : ℕ) : Type 0 where
  pub grows : Grows s u
  pub kept : (q : Place) (w : ℕ) → word_at s q ≡ Some w → word_at u q ≡ Some w
  pub zeros : words_at u p n ≡ Some (replicate n 0)
  pub only : (q : Place) → absent s q ≡ absent u q + held p n q

front_stays : (xs ys : List ℕ) (k w : ℕ) → slice_get xs k ≡ Some w → slice_get (xs ++ ys) k ≡ Some w
front_stays [] ys k w e = absurd cc
front_stays (x ∷ xs) ys zero w e = e
front_stays (x ∷ xs) ys (suc k) w e = front_stays xs ys k w e

there_now : (s : Segments) (i n : ℕ) (xs : List ℕ) → slice_get s i ≡ Some xs → slice_get (with_zeros s i n) i ≡ Some (xs ++ replicate n 0)
unfolding with_zeros
there_now [] i n xs e = absurd cc
there_now (x ∷ s) zero n xs e = ap (λ (ys : List ℕ). Some (ys ++ replicate n 0)) (some_is _ _ e)
there_now (x ∷ s) (suc i) n xs e = there_now s i n xs e

new_now : (s : Segments) (i n : ℕ) → i ≡ length s → slice_get (with_zeros s i n) i ≡ Some (replicate n 0)
unfolding with_zeros
new_now [] zero n e = refl
new_now [] (suc i) n e = absurd (omega (arith, e))
new_now (x ∷ s) zero n e = absurd (omega (arith, e))
new_now (x ∷ s) (suc i) n e = new_now s i n (omega (arith, e))

other_now : (s : Segments) (i j n : ℕ) → i ≢ j → i ≤ length s → slice_get (with_zeros s i n) j ≡ slice_get s j
unfolding with_zeros
other_now [] zero zero n ne l = absurd (ne refl)
other_now [] zero (suc j) n ne l = refl
other_now [] (suc i) j n ne l = absurd (omega (arith, l))
other_now (x ∷ s) zero zero n ne l = absurd (ne refl)
other_now (x ∷ s) zero (suc j) n ne l = refl
other_now (x ∷ s) (suc i) zero n ne l = refl
other_now (x ∷ s) (suc i) (suc j) n ne l = other_now s i j n (λ (e : i ≡ j). ne (ap suc e)) (omega (arith, l))

end_there : (s : Segments) (i : ℕ) (xs : List ℕ) → slice_get s i ≡ Some xs → segment_end s i ≡ length xs
unfolding segment_end
end_there [] i xs e = absurd cc
end_there (x ∷ s) zero xs e = ap length (some_is _ _ e)
end_there (x ∷ s) (suc i) xs e = end_there s i xs e

end_past : (s : Segments) (i : ℕ) → length s ≤ i → segment_end s i ≡ 0
unfolding segment_end
end_past [] i l = refl
end_past (x ∷ s) zero l = absurd (omega (arith, l))
end_past (x ∷ s) (suc i) l = end_past s i (omega (arith, l))

get_lt : (s : Segments) (i : ℕ) → i < length s → (xs : List ℕ) × (slice_get s i ≡ Some xs)
get_lt [] i l = absurd (omega (arith, l))
get_lt (x ∷ s) zero l = (x, refl)
get_lt (x ∷ s) (suc i) l = get_lt s i (omega (arith, l))

pub get_none : (xs : List ℕ) (k : ℕ) → slice_get xs k ≡ None → length xs ≤ k
get_none [] k e = omega arith
get_none (x ∷ xs) zero e = absurd cc
get_none (x ∷ xs) (suc k) e = let r = get_none xs k e in omega (arith, r)

-- the segment that has the new words, what it had before, and the zeros behind
pub record Longer (s u : Segments) (i n : ℕ) : Type 0 where
  pub before : List ℕ
  pub now : slice_get u i ≡ Some (before ++ replicate n 0)
  pub ends : length before ≡ segment_end s i
  pub word : (k : ℕ) (q : Place) → q ≡ place i k → word_at s q ≡ slice_get before k

empty_word : (s : Segments) (i k : ℕ) (q : Place) → q ≡ place i k → length s ≤ i → word_at s q ≡ None
empty_word s i k q e l =
    let none : slice_get s i ≡ None = slice_get_past s i l in
    let f : word_at s (place i k) ≡ None = rw none refl in
    ap (word_at s) e ∙ f

full_word : (s : Segments) (i k : ℕ) (q : Place) (xs : List ℕ) → q ≡ place i k → slice_get s i ≡ Some xs → word_at s q ≡ slice_get xs k
full_word s i k q xs e is = let f : word_at s (place i k) ≡ slice_get xs k = rw is refl in ap (word_at s) e ∙ f

longer : (s : Segments) (i n : ℕ) → i ≤ length s → (i < length s) ⊎ (length s ≤ i) → Longer s (with_zeros s i n) i n
longer s i n l (inl lt) =
    let x = get_lt s i lt in
    record { before = x.0; now = there_now s i n x.0 x.1; ends = sym (end_there s i x.0 x.1); word = λ k q e. full_word s i k q x.0 e x.1 }
longer s i n l (inr ge) =
    let none : List ℕ = [] in
    record { before = []; now = new_now s i n (omega (arith, l, ge)); ends = sym (end_past s i ge); word = λ k q e. empty_word s i k q e ge }

grows_by : (s : Segments) (i n j : ℕ) (xs : List ℕ) → i ≤ length s → (i ≡ j) ⊎ (i ≢ j) → slice_get s j ≡ Some xs → (ys : List ℕ) × (slice_get (with_zeros s i n) j ≡ Some ys) × (length xs ≤ length ys)
grows_by s i n j xs l (inr ne) e = (xs, other_now s i j n ne l ∙ e, omega arith)
grows_by s i n j xs l (inl is) e =
    let here : slice_get s i ≡ Some xs = ap (slice_get s) is ∙ e in
    (xs ++ replicate n 0, ap (slice_get (with_zeros s i n)) (sym is) ∙ there_now s i n xs here, omega (arith, length-append xs (replicate n 0)))

kept_by : (s : Segments) (i n : ℕ) (q : Place) (w : ℕ) → i ≤ length s → (i ≡ q.segment) ⊎ (i ≢ q.segment) → word_at s q ≡ Some w → word_at (with_zeros s i n) q ≡ Some w
kept_by s i n q w l (inr ne) e = let same = other_now s i q.segment n ne l in rw same e
kept_by s i n q w l (inl is) e =
    let x = bind_some (slice_get s q.segment) _ w e in
    let here : slice_get s i ≡ Some x.0 = ap (slice_get s) is ∙ x.1 in
    let now : slice_get (with_zeros s i n) q.segment ≡ Some (x.0 ++ replicate n 0) = ap (slice_get (with_zeros s i n)) (sym is) ∙ there_now s i n x.0 here in
    rw now (front_stays x.0 (replicate n 0) q.position w x.2)

absent_none : (s : Segments) (q : Place) → word_at s q ≡ None → absent s q ≡ 1
unfolding absent
absent_none s q e = rw e refl

absent_alike : (s u : Segments) (q : Place) → word_at u q ≡ word_at s q → absent s q ≡ absent u q
unfolding absent
absent_alike s u q e = rw e refl

held_not_by : (p : Place) (n : ℕ) (q : Place) (a : ℕ) → a ≡ held p n q → ((0 < held p n q) → ⊥) → held p n q ≡ 0
held_not_by p n q zero e f = sym e
held_not_by p n q (suc a) e f = absurd (f (omega (arith, e)))

pub held_not : (p : Place) (n : ℕ) (q : Place) → ((0 < held p n q) → ⊥) → held p n q ≡ 0
held_not p n q f = held_not_by p n q (held p n q) refl f

some_word : (xs : List ℕ) (k : ℕ) → k < length xs → (w : ℕ) × (slice_get xs k ≡ Some w)
some_word [] k l = absurd (omega (arith, l))
some_word (x ∷ xs) zero l = (x, refl)
some_word (x ∷ xs) (suc k) l = some_word xs k (omega (arith, l))

only_in : (s u : Segments) (i n : ℕ) (q : Place) → Longer s u i n → i ≡ q.segment → (q.position < segment_end s i) ⊎ (segment_end s i ≤ q.position) → (q.position < segment_end s i + n) ⊎ (segment_end s i + n ≤ q.position) → absent s q ≡ absent u q + held (place i (segment_end s i)) n q
only_in s u i n q x is a b =
    let at : q ≡ place i q.position = ap (λ (j : ℕ). place j q.position) (sym is) in
    let then_ : word_at s q ≡ slice_get x.before q.position = x.word q.position q at in
    let now : word_at u q ≡ slice_get (x.before ++ replicate n 0) q.position = full_word u i q.position q _ at x.now in
    let long : length (x.before ++ replicate n 0) ≡ segment_end s i + n = length-append x.before (replicate n 0) ∙ omega (arith, x.ends, length-replicate {A = ℕ} n 0) in
    elim a [
      | inl l ↦ (
          let w = some_word x.before q.position (omega (arith, x.ends, l)) in
          let v = some_word (x.before ++ replicate n 0) q.position (omega (arith, long, l)) in
          let z = held_not (place i (segment_end s i)) n q (λ h. absurd (omega (arith, held_low (place i (segment_end s i)) n q h, l))) in
          omega (arith, there s q w.0 (then_ ∙ w.1), there u q v.0 (now ∙ v.1), z)
          )
      | inr g ↦ elim b [
        | inl h ↦ (
            let v = some_word (x.before ++ replicate n 0) q.position (omega (arith, long, h)) in
            let one = held_in (place i (segment_end s i)) n q is g h in
            omega (arith, absent_none s q (then_ ∙ slice_get_past x.before q.position (omega (arith, x.ends, g))), there u q v.0 (now ∙ v.1), one)
            )
        | inr k ↦ (
            let z = held_not (place i (segment_end s i)) n q (λ h. absurd (omega (arith, held_high (place i (segment_end s i)) n q h, k))) in
            omega (arith, absent_none s q (then_ ∙ slice_get_past x.before q.position (omega (arith, x.ends, g))), absent_none u q (now ∙ slice_get_past (x.before ++ replicate n 0) q.position (omega (arith, long, k))), z)
            )
      ]
    ]

only_by : (s : Segments) (i n : ℕ) (q : Place) → i ≤ length s → (i ≡ q.segment) ⊎ (i ≢ q.segment) → absent s q ≡ absent (with_zeros s i n) q + held (place i (segment_end s i)) n q
only_by s i n q l (inl is) = only_in s (with_zeros s i n) i n q (longer s i n l (cases_lt i (length s))) is (cases_lt q.position (segment_end s i)) (cases_lt q.position (segment_end s i + n))
only_by s i n q l (inr ne) =
    let same : word_at (with_zeros s i n) q ≡ word_at s q = (let e = other_now s i q.segment n ne l in rw e refl) in
    let z = held_not (place i (segment_end s i)) n q (λ h. ne (held_segment (place i (segment_end s i)) n q h)) in
    omega (arith, absent_alike s (with_zeros s i n) q same, z)

zeros_there : (s u : Segments) (i n : ℕ) → Longer s u i n → words_at u (place i (segment_end s i)) n ≡ Some (replicate n 0)
zeros_there s u i n x =
    let now : slice_get u i ≡ Some (x.before ++ replicate n 0) = x.now in
    let long : length (x.before ++ replicate n 0) ≡ segment_end s i + n = length-append x.before (replicate n 0) ∙ omega (arith, x.ends, length-replicate {A = ℕ} n 0) in
    let fits : leb (segment_end s i + n) (length (x.before ++ replicate n 0)) ≡ true = le-leb _ _ (omega (arith, long)) in
    let back : drop (segment_end s i) (x.before ++ replicate n 0) ≡ replicate n 0 = drop_at x.before (replicate n 0) (segment_end s i) x.ends in
    let all : take n (replicate n 0) ≡ replicate n 0 = take_all n 0 in
    rw (now, fits) (ap (λ (xs : List ℕ). Some xs) (ap (take n) back ∙ all))
  where
    take_all : (n v : ℕ) → take n (replicate n v) ≡ replicate n v
    take_all zero v = refl
    take_all (suc n) v = ap (λ (xs : List ℕ). v ∷ xs) (take_all n v)

pub zeros_extend : (s : Segments) (i n : ℕ) → i ≤ length s → Extends s (with_zeros s i n) (place i (segment_end s i)) n
zeros_extend s i n l =
    record {
      grows = λ j xs e. grows_by s i n j xs l (cases_eq i j) e;
      kept = λ q w e. kept_by s i n q w l (cases_eq i q.segment) e;
      zeros = zeros_there s (with_zeros s i n) i n (longer s i n l (cases_lt i (length s)));
      only = λ q. only_by s i n q l (cases_eq i q.segment);
    }

-- each of words that are all zero is zero
zeros_get : (n k w : ℕ) → slice_get (replicate n 0) k ≡ Some w → w ≡ 0
zeros_get zero k w e = absurd cc
zeros_get (suc n) zero w e = sym (some_is _ _ e)
zeros_get (suc n) (suc k) w e = zeros_get n k w e

get_front : (xs : List ℕ) (n m w : ℕ) → m < n → slice_get xs m ≡ Some w → slice_get (take n xs) m ≡ Some w
get_front [] n m w l e = absurd cc
get_front (x ∷ xs) zero m w l e = absurd (omega (arith, l))
get_front (x ∷ xs) (suc n) zero w l e = e
get_front (x ∷ xs) (suc n) (suc m) w l e = get_front xs n m w (omega (arith, l)) e

get_part : (xs : List ℕ) (k n m j w : ℕ) → j ≡ k + m → m < n → slice_get xs j ≡ Some w → slice_get (take n (drop k xs)) m ≡ Some w
get_part [] k n m j w h l e = absurd cc
get_part (x ∷ xs) zero n m j w h l e = let same : j ≡ m = omega (arith, h) in get_front (x ∷ xs) n m w l (ap (slice_get (x ∷ xs)) (sym same) ∙ e)
get_part (x ∷ xs) (suc k) n m zero w h l e = absurd (omega (arith, h))
get_part (x ∷ xs) (suc k) n m (suc j) w h l e = get_part xs k n m j w (omega (arith, h)) l e

pub word_held : (s : Segments) (p : Place) (n : ℕ) (q : Place) (w : ℕ) (ws : List ℕ) → words_at s p n ≡ Some ws → word_at s q ≡ Some w → 0 < held p n q → slice_get ws (q.position - p.position) ≡ Some w
word_held s p n q w ws e f l =
    let x = bind_some (slice_get s p.segment) _ ws e in
    let g = provided_some _ _ _ x.2 in
    let y = bind_some (slice_get s q.segment) _ w f in
    let same : y.0 ≡ x.0 = some_is _ _ (sym y.1 ∙ ap (slice_get s) (sym (held_segment p n q l)) ∙ x.1) in
    let is : slice_get x.0 q.position ≡ Some w = ap (λ (xs : List ℕ). slice_get xs q.position) (sym same) ∙ y.2 in
    ap (λ (xs : List ℕ). slice_get xs (q.position - p.position)) (sym g.1) ∙ get_part x.0 p.position n (q.position - p.position) q.position w (omega (arith, held_low p n q l)) (omega (arith, held_low p n q l, held_high p n q l)) is

pub zero_held : (s : Segments) (p : Place) (n : ℕ) (q : Place) (w : ℕ) → words_at s p n ≡ Some (replicate n 0) → word_at s q ≡ Some w → 0 < held p n q → w ≡ 0
zero_held s p n q w e f l = zeros_get n (q.position - p.position) w (word_held s p n q w (replicate n 0) e f l)
