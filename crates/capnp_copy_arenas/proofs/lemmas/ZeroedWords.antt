-- Words that become zero.
use Rattle.std.proofs.Common.{◌≡◌, ℕ, zero, suc, ◌+◌, ◌<◌, ◌≤◌, Bool, true, false, cond, List, [], ◌∷◌, length, map, replicate, Option, Some, None, unwrap_or, refl, ap, sym, ◌∙◌, subst, arith}
use Rattle.std.specs.List.{slice_get}
use Rattle.std.specs.Option.{is_some}
use Rattle.std.proofs.lemmas.List.{length-replicate}
use Rattle.capnp_model.specs.Segments.{Segments, Place, after, word_at, words_at}
use Rattle.capnp_model.proofs.lemmas.Chaining.{bind_some, some_is}
use Rattle.capnp_model.proofs.lemmas.Locality.{word_is}
use Rattle.capnp_model_writes.specs.Changes.{Changes}
use Rattle.capnp_model_writes.specs.Writes.{spliced, spliced_in, with_words}
use Rattle.capnp_model_writes.proofs.lemmas.Spans.{held, held_low, held_high, there, grows_same}
use Rattle.capnp_model_writes.proofs.lemmas.Rows.{after_none}
use Rattle.capnp_model_writes.proofs.lemmas.Splices.{Rewrites, splice_rewrites, splice_words, spliced_length, spliced_whole}
use Rattle.capnp_model_writes.proofs.lemmas.Growing.{zero_held, held_not}
use Rattle.capnp_model_writes.proofs.lemmas.Zeros.{held_none}
use Rattle.capnp_model.proofs.lemmas.ReadFits.{words_length}
use Rattle.capnp_copy_arenas.specs.Clearing.{nonzero_of, nonzero_words, zeroed_there}

-- ---- segments keep their lengths

pub spliced_sizes : (s : Segments) (i k : ℕ) (vs : List ℕ) → map length (spliced_in s i k vs) ≡ map length s
spliced_sizes [] i k vs = refl
spliced_sizes (xs ∷ s) zero k vs = ap (λ (n : ℕ). n ∷ map length s) (spliced_length k vs xs)
spliced_sizes (xs ∷ s) (suc i) k vs = ap (λ (ns : List ℕ). length xs ∷ ns) (spliced_sizes s i k vs)

pub written_sizes : (s : Segments) (p : Place) (vs : List ℕ) → map length (with_words s p vs) ≡ map length s
unfolding with_words
written_sizes s p vs = spliced_sizes s p.segment p.position vs

pub zeroed_sizes : (s : Segments) (p : Place) (n : ℕ) → map length (zeroed_there s p n) ≡ map length s
zeroed_sizes s p n = by_cases (is_some (words_at s p n))
  where
    by_cases : (b : Bool) → map length (cond b (with_words s p (replicate n 0)) s) ≡ map length s
    by_cases true = written_sizes s p (replicate n 0)
    by_cases false = refl

-- ---- and have no more nonzero words

one_more : (x : ℕ) (xs : List ℕ) → nonzero_of xs ≤ nonzero_of (x ∷ xs)
unfolding nonzero_of
one_more zero xs = omega arith
one_more (suc x) xs = omega arith

both_more : (x : ℕ) (xs ys : List ℕ) → nonzero_of xs ≤ nonzero_of ys → nonzero_of (x ∷ xs) ≤ nonzero_of (x ∷ ys)
unfolding nonzero_of
both_more zero xs ys l = l
both_more (suc x) xs ys l = omega (arith, l)

both_less : (x : ℕ) (xs ys : List ℕ) → nonzero_of xs < nonzero_of ys → nonzero_of (x ∷ xs) < nonzero_of (x ∷ ys)
unfolding nonzero_of
both_less zero xs ys l = l
both_less (suc x) xs ys l = omega (arith, l)

zeros_fewer : (k n : ℕ) (xs : List ℕ) → nonzero_of (spliced k (replicate n 0) xs) ≤ nonzero_of xs
unfolding spliced nonzero_of
zeros_fewer zero n [] = omega arith
zeros_fewer (suc k) n [] = omega arith
zeros_fewer zero zero (x ∷ xs) = omega arith
zeros_fewer zero (suc n) (x ∷ xs) = let a = zeros_fewer zero n xs in let b = one_more x xs in omega (arith, a, b)
zeros_fewer (suc k) n (x ∷ xs) = both_more x (spliced k (replicate n 0) xs) xs (zeros_fewer k n xs)

zero_fewer : (k w : ℕ) (xs : List ℕ) → slice_get xs k ≡ Some w → 0 < w → nonzero_of (spliced k (0 ∷ []) xs) < nonzero_of xs
unfolding spliced nonzero_of
zero_fewer k w [] e l = absurd cc
zero_fewer zero w (zero ∷ []) e l = absurd (let z : 0 ≡ w = some_is _ _ e in omega (arith, z, l))
zero_fewer zero w (zero ∷ (y ∷ xs)) e l = absurd (let z : 0 ≡ w = some_is _ _ e in omega (arith, z, l))
zero_fewer zero w (suc x ∷ []) e l = omega arith
zero_fewer zero w (suc x ∷ (y ∷ xs)) e l = omega arith
zero_fewer (suc k) w (x ∷ xs) e l = both_less x (spliced k (0 ∷ []) xs) xs (zero_fewer k w xs e l)

zeros_fewer_in : (s : Segments) (i k n : ℕ) → nonzero_words (spliced_in s i k (replicate n 0)) ≤ nonzero_words s
unfolding nonzero_words
zeros_fewer_in [] i k n = omega arith
zeros_fewer_in (xs ∷ s) zero k n = let a = zeros_fewer k n xs in omega (arith, a)
zeros_fewer_in (xs ∷ s) (suc i) k n = let a = zeros_fewer_in s i k n in omega (arith, a)

zero_fewer_in : (s : Segments) (i k w : ℕ) (xs : List ℕ) → slice_get s i ≡ Some xs → slice_get xs k ≡ Some w → 0 < w → nonzero_words (spliced_in s i k (0 ∷ [])) < nonzero_words s
unfolding nonzero_words
zero_fewer_in [] i k w xs e f l = absurd cc
zero_fewer_in (ys ∷ s) zero k w xs e f l =
    let is : ys ≡ xs = some_is _ _ e in
    let a = zero_fewer k w ys (ap (λ (zs : List ℕ). slice_get zs k) is ∙ f) l in
    omega (arith, a)
zero_fewer_in (ys ∷ s) (suc i) k w xs e f l = let a = zero_fewer_in s i k w xs e f l in omega (arith, a)

pub written_fewer : (s : Segments) (p : Place) (w : ℕ) → word_at s p ≡ Some w → 0 < w → nonzero_words (with_words s p (0 ∷ [])) < nonzero_words s
unfolding with_words
written_fewer s p w e l =
    let x = bind_some (slice_get s p.segment) _ w e in
    zero_fewer_in s p.segment p.position w x.0 x.1 x.2 l

pub zeroes_fewer : (s : Segments) (p : Place) (n : ℕ) → nonzero_words (with_words s p (replicate n 0)) ≤ nonzero_words s
unfolding with_words
zeroes_fewer s p n = zeros_fewer_in s p.segment p.position n

pub zeroed_fewer : (s : Segments) (p : Place) (n : ℕ) → nonzero_words (zeroed_there s p n) ≤ nonzero_words s
unfolding with_words
zeroed_fewer s p n = by_cases (is_some (words_at s p n))
  where
    by_cases : (b : Bool) → nonzero_words (cond b (with_words s p (replicate n 0)) s) ≤ nonzero_words s
    by_cases true = zeros_fewer_in s p.segment p.position n
    by_cases false = omega arith

-- ---- what took them takes nothing any more

written_zeros : (s : Segments) (p : Place) (n : ℕ) (ws : List ℕ) → words_at s p n ≡ Some ws → length ws ≡ n → words_at (with_words s p (replicate n 0)) p n ≡ Some (replicate n 0)
written_zeros s p n ws e long =
    let z : List ℕ = replicate n 0 in
    let l : 0 + length (replicate {A = ℕ} n 0) ≤ n = omega (arith, length-replicate {A = ℕ} n 0) in
    let now : words_at (with_words s (after p 0) (replicate n 0)) p n ≡ Some (spliced 0 (replicate n 0) ws) = splice_words s p 0 n (replicate n 0) ws l e in
    let all : spliced 0 (replicate n 0) ws ≡ replicate n 0 = spliced_whole (replicate n 0) ws (length-replicate {A = ℕ} n 0 ∙ sym long) in
    ap (λ (q : Place). words_at (with_words s q (replicate n 0)) p n) (sym (after_none p)) ∙ now ∙ ap (λ (vs : List ℕ). let o : Option (List ℕ) = Some vs in o) all

vanish_there : (s : Segments) (p : Place) (n : ℕ) (ws : List ℕ) → words_at s p n ≡ Some ws → Changes s (with_words s p (replicate n 0)) (held p n) (λ q. 0)
vanish_there s p n ws e =
    let u = with_words s p (replicate n 0) in
    let long : length ws ≡ n = words_length s p n ws e in
    let r0 : Rewrites s u p (length (replicate {A = ℕ} n 0)) = splice_rewrites s p (replicate n 0) in
    let r : Rewrites s u p n = subst (λ (m : ℕ). Rewrites s u p m) (length-replicate {A = ℕ} n 0) r0 in
    let zeros = written_zeros s p n ws e long in
    record {
      grows = r.grows;
      kept = λ q w f z. r.others q w z f;
      within = λ q. omega arith;
      cleared = λ q w f z l. zero_held u p n q w zeros f (let a = r.no_more q in let b = there u q w f in omega (arith, a, b, l));
    }

pub vanish : (s : Segments) (p : Place) (n : ℕ) → ((0 < n) → is_some (words_at s p n) ≡ true) → Changes s (zeroed_there s p n) (held p n) (λ q. 0)
vanish s p n h = by_cases (words_at s p n) refl n refl
  where
    by_cases : (o : Option (List ℕ)) → words_at s p n ≡ o → (m : ℕ) → m ≡ n → Changes s (cond (is_some o) (with_words s p (replicate n 0)) s) (held p n) (λ q. 0)
    by_cases (Some ws) e m same = vanish_there s p n ws e
    by_cases None e (suc m) same = absurd (let t = h (omega (arith, same)) in let f : is_some (words_at s p n) ≡ false = ap is_some e in cc)
    by_cases None e zero same =
        let z : (q : Place) → held p n q ≡ 0 = λ q. ap (λ (k : ℕ). held p k q) (sym same) ∙ held_none p q in
        record {
          grows = grows_same s;
          kept = λ q w f a. f;
          within = λ q. omega arith;
          cleared = λ q w f a l. absurd (let b = there s q w f in let c = z q in omega (arith, b, c, l));
        }

pub null_fewer : (s : Segments) (p : Place) → 0 < unwrap_or (word_at s p) 0 → nonzero_words (with_words s p (0 ∷ [])) < nonzero_words s
null_fewer s p l = by_cases (word_at s p) refl
  where
    by_cases : (o : Option ℕ) → word_at s p ≡ o → nonzero_words (with_words s p (0 ∷ [])) < nonzero_words s
    by_cases None e = absurd (let z : unwrap_or (word_at s p) 0 ≡ 0 = ap (λ (o : Option ℕ). unwrap_or o 0) e in omega (arith, z, l))
    by_cases (Some w) e = let z : unwrap_or (word_at s p) 0 ≡ w = ap (λ (o : Option ℕ). unwrap_or o 0) e in written_fewer s p w e (omega (arith, z, l))

pub null_there : (s : Segments) (p : Place) → 0 < unwrap_or (word_at s p) 0 → is_some (words_at s p 1) ≡ true
null_there s p l = by_cases (word_at s p) refl
  where
    by_cases : (o : Option ℕ) → word_at s p ≡ o → is_some (words_at s p 1) ≡ true
    by_cases None e = absurd (let z : unwrap_or (word_at s p) 0 ≡ 0 = ap (λ (o : Option ℕ). unwrap_or o 0) e in omega (arith, z, l))
    by_cases (Some w) e = ap is_some (word_is s p w e)
