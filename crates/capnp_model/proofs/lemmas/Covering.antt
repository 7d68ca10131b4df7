-- Segments that have the same words where a value covers them keep the value.
use Rattle.std.proofs.Common.{◌≡◌, ℕ, zero, suc, ◌+◌, ◌<◌, ◌≤◌, Bool, true, false, cond, leb, List, [], ◌∷◌, length, map, take, drop, Some, refl, ap, sym, ◌∙◌, arith}
use Rattle.std.specs.List.{slice_get, AllByRecursion}
use Rattle.std.proofs.lemmas.Bool.{le-leb, lt-ltb, leb-true, eq-eqb}
use Rattle.capnp_model.specs.Segments.{Segments, Place, place, word_at, words_at}
use Rattle.capnp_model.specs.Trees.{Tree}
use Rattle.capnp_model.specs.Traversal.{tree_at}
use Rattle.capnp_model.specs.Coverage.{Span, holds, times_held, covered, cover, Keeps, Grows}
use Rattle.capnp_model.proofs.lemmas.Chaining.{bind_some, provided_some, some_is}
use Rattle.capnp_model.proofs.lemmas.Locality.{tree_at_kept}

same_part : (n k : ℕ) (xs ys : List ℕ) → k + n ≤ length xs → length xs ≤ length ys → ((j w : ℕ) → k ≤ j → j < k + n → slice_get xs j ≡ Some w → slice_get ys j ≡ Some w) → take n (drop k ys) ≡ take n (drop k xs)
same_part zero zero xs ys l m h = refl
same_part (suc n) zero [] ys l m h = absurd (omega (arith, l))
same_part (suc n) zero (x ∷ xs) [] l m h = absurd (omega (arith, m))
same_part (suc n) zero (x ∷ xs) (y ∷ ys) l m h =
    let head : y ≡ x = some_is _ _ (h 0 x (omega arith) (omega arith) refl) in
    let tail : take n ys ≡ take n xs = same_part n zero xs ys (omega (arith, l)) (omega (arith, m)) (λ j w a b. h (suc j) w (omega arith) (omega (arith, b))) in
    rw (head, tail) refl
same_part n (suc k) [] ys l m h = absurd (omega (arith, l))
same_part n (suc k) (x ∷ xs) [] l m h = absurd (omega (arith, m))
same_part n (suc k) (x ∷ xs) (y ∷ ys) l m h = same_part n k xs ys (omega (arith, l)) (omega (arith, m)) (λ j w a b. h (suc j) w (omega (arith, a)) (omega (arith, b)))

module _ (s u : Segments) (l : Grows s u) where
  span_kept : (i k n : ℕ) → ((j w : ℕ) → k ≤ j → j < k + n → word_at s (place i j) ≡ Some w → word_at u (place i j) ≡ Some w) → (ws : List ℕ) → words_at s (place i k) n ≡ Some ws → words_at u (place i k) n ≡ Some ws
  span_kept i k n h ws e =
      let a = bind_some (slice_get s i) _ ws e in
      let b = l i a.0 a.1 in
      let g = provided_some _ _ _ a.2 in
      let here : slice_get s i ≡ Some a.0 = a.1 in
      let there : slice_get u i ≡ Some b.0 = b.1 in
      let in_a = leb-true _ _ g.0 in
      let in_b : leb (k + n) (length b.0) ≡ true = le-leb _ _ (omega (arith, b.2)) in
      let part : take n (drop k b.0) ≡ take n (drop k a.0) = same_part n k a.0 b.0 (omega arith) b.2 (λ j w c d f. word_of j w a.0 b.0 here there (h j w c d) f) in
      rw (there, in_b) (ap (λ (x : List ℕ). Some x) (part ∙ g.1))
    where
      word_of : (j w : ℕ) (xs ys : List ℕ) → slice_get s i ≡ Some xs → slice_get u i ≡ Some ys → (word_at s (place i j) ≡ Some w → word_at u (place i j) ≡ Some w) → slice_get xs j ≡ Some w → slice_get ys j ≡ Some w
      word_of j w xs ys here there f e =
          let a : word_at s (place i j) ≡ slice_get xs j = rw here refl in
          let b : word_at u (place i j) ≡ slice_get ys j = rw there refl in
          sym b ∙ f (a ∙ e)

  holds_it : (x : Span) (j : ℕ) → x.start.position ≤ j → j < x.start.position + x.words → holds x (place x.start.segment j) ≡ true
  holds_it x j a b = rw (eq-eqb x.start.segment x.start.segment refl, le-leb _ _ a, lt-ltb _ _ b) refl

  counts : (b : Bool) (m : ℕ) → b ≡ true → 0 < cond b 1 0 + m
  counts true m e = omega arith
  counts false m e = absurd cc

  pub all_kept : (xs : List Span) → ((q : Place) (w : ℕ) → 0 < times_held xs q → word_at s q ≡ Some w → word_at u q ≡ Some w) → AllByRecursion (Keeps s u) xs
  all_kept [] h = tt
  all_kept (x ∷ xs) h = (
    span_kept x.start.segment x.start.position x.words (λ j w a b. h (place x.start.segment j) w (counts (holds x (place x.start.segment j)) (times_held xs (place x.start.segment j)) (holds_it x j a b))),
    all_kept xs (λ q w lt. h q w (omega (arith, lt))),
  )

-- THE LAW: segments that grew and kept every covered word
pub tree_at_grown : (n : ℕ) (s u : Segments) (p : Place) (t : Tree) → Grows s u → ((q : Place) (w : ℕ) → 0 < cover n s p q → word_at s q ≡ Some w → word_at u q ≡ Some w) → tree_at n s p ≡ Some t → tree_at n u p ≡ Some t
tree_at_grown n s u p t l h e = tree_at_kept n s u p t (all_kept s u l (covered n s p) h) e

same_lengths : (s u : Segments) → map length s ≡ map length u → Grows s u
same_lengths [] u l i xs e = absurd cc
same_lengths (x ∷ s) [] l i xs e = absurd cc
same_lengths (x ∷ s) (y ∷ u) l zero xs e =
    let is : x ≡ xs = some_is _ _ e in
    let long : length x ≡ length y = cc in
    (y, refl, omega (arith, ap length is, long))
same_lengths (x ∷ s) (y ∷ u) l (suc i) xs e = let rest : map length s ≡ map length u = cc in same_lengths s u rest i xs e

-- and segments of the same lengths
pub tree_at_by_words : (n : ℕ) (s u : Segments) (p : Place) (t : Tree) → map length s ≡ map length u → ((q : Place) → 0 < cover n s p q → word_at u q ≡ word_at s q) → tree_at n s p ≡ Some t → tree_at n u p ≡ Some t
tree_at_by_words n s u p t l h e = tree_at_grown n s u p t (same_lengths s u l) (λ q w c f. h q c ∙ f) e
