-- Words that are copied one after the other.
use Rattle.std.proofs.Common.{◌≡◌, ℕ, zero, suc, ◌+◌, ◌-◌, ◌<◌, ◌≤◌, List, [], ◌∷◌, ◌++◌, length, take, drop, Option, Some, unwrap_or, refl, ap, sym, ◌∙◌, subst, arith}
use Rattle.std.proofs.lemmas.List.{length-take}
use Rattle.std.proofs.Math.Seq.{take-add}
use Rattle.capnp_model.specs.Segments.{Segments, Place, after, word_at, words_at}
use Rattle.capnp_model.specs.Coverage.{span, times_held}
use Rattle.capnp_model.proofs.lemmas.Locality.{word_was}
use Rattle.capnp_model_writes.specs.Writes.{with_words}
use Rattle.capnp_model_writes.proofs.lemmas.Spans.{held, held_is, held_split, words_front, words_back}
use Rattle.capnp_model_writes.proofs.lemmas.Splices.{Rewrites, splice_rewrites}
use Rattle.capnp_model_writes.proofs.lemmas.Writing.{rewrites_keep, held_part}
use Rattle.capnp_model.proofs.lemmas.ReadFits.{words_length}
use Rattle.capnp_copy_widening.specs.Moves.{CopiesWords}
use Rattle.capnp_copy_widening.proofs.lemmas.Standing.{written_then, written_none}

-- the first i are copied
pub CopiedSoFar : Segments → Segments → Place → Place → ℕ → ℕ → Type 0
CopiedSoFar s u from to n i = (ws : List ℕ) → words_at s from n ≡ Some ws → ((q : Place) → times_held (span from n ∷ (span to n ∷ [])) q ≤ 1) → u ≡ with_words s to (take i ws)

pub copied_none : (s : Segments) (from to : Place) (n : ℕ) → CopiedSoFar s s from to n 0
unfolding CopiedSoFar
copied_none s from to n ws e apart = sym (written_none s to)

pub copied_all : (s u : Segments) (from to : Place) (n : ℕ) → CopiedSoFar s u from to n n → CopiesWords s u from to n
unfolding CopiedSoFar
copied_all s u from to n h ws e apart = h ws e apart ∙ ap (with_words s to) (all_of n ws (words_length s from n ws e))
  where
    all_of : (n : ℕ) (ws : List ℕ) → length ws ≡ n → take n ws ≡ ws
    all_of zero [] l = refl
    all_of zero (w ∷ ws) l = absurd (omega (arith, l))
    all_of (suc n) [] l = absurd (omega (arith, l))
    all_of (suc n) (w ∷ ws) l = ap (λ (vs : List ℕ). w ∷ vs) (all_of n ws (omega (arith, l)))

-- the word at an index
word_of : (s : Segments) (from : Place) (n i : ℕ) (ws : List ℕ) → i < n → words_at s from n ≡ Some ws → words_at s (after from i) 1 ≡ Some (take 1 (drop i ws))
word_of s from n i ws l e =
    let sum : n ≡ i + (1 + (n - i - 1)) = omega (arith, l) in
    let all : words_at s from (i + (1 + (n - i - 1))) ≡ Some ws = subst (λ (k : ℕ). words_at s from k ≡ Some ws) sum e in
    words_front s (after from i) 1 (n - i - 1) _ (words_back s from i (1 + (n - i - 1)) ws all)

pub copied_next : (s u v : Segments) (from to : Place) (n i w : ℕ) → i < n → CopiedSoFar s u from to n i → w ≡ unwrap_or (word_at u (after from i)) 0 → v ≡ with_words u (after to i) (w ∷ []) → CopiedSoFar s v from to n (i + 1)
unfolding CopiedSoFar
copied_next s u v from to n i w l h is now ws e apart =
    let before : u ≡ with_words s to (take i ws) = h ws e apart in
    let long : length ws ≡ n = words_length s from n ws e in
    let front : length (take i ws) ≡ i = length-take i ws ∙ omega (arith, l, long) in
    let here = word_of s from n i ws l e in
    let r : Rewrites s (with_words s to (take i ws)) to i = subst (λ (m : ℕ). Rewrites s (with_words s to (take i ws)) to m) front (splice_rewrites s to (take i ws)) in
    let beside : (q : Place) → times_held (span (after from i) 1 ∷ []) q + held to i q ≤ 1 = λ q. (
    let a = held_part from i 1 n q (omega (arith, l)) in
    let sum : n ≡ i + (n - i) = omega (arith, l) in
    let b : held to n q ≡ held to (i + (n - i)) q = ap (λ (m : ℕ). held to m q) sum in
    omega (arith, apart q, held_is from n (span to n ∷ []) q, held_is to n [] q, held_is (after from i) 1 [] q, a, b, held_split to i (n - i) q)
    ) in
    let kept = (rewrites_keep s (with_words s to (take i ws)) to i (span (after from i) 1 ∷ []) r beside).0 (take 1 (drop i ws)) here in
    let one : take 1 (drop i ws) ≡ w ∷ [] = single (take 1 (drop i ws)) (words_length s (after from i) 1 (take 1 (drop i ws)) here) kept in
    let joined : take (i + 1) ws ≡ take i ws ++ (w ∷ []) = take-add i 1 ws ∙ ap (λ (vs : List ℕ). take i ws ++ vs) one in
    now ∙ ap (λ (x : Segments). with_words x (after to i) (w ∷ [])) before ∙ written_then s to i (take i ws) (w ∷ []) (sym front) ∙ ap (with_words s to) (sym joined)
  where
    single : (vs : List ℕ) → length vs ≡ 1 → words_at (with_words s to (take i ws)) (after from i) 1 ≡ Some vs → vs ≡ w ∷ []
    single [] f g = absurd (omega (arith, f))
    single (x ∷ []) f g =
        let there : word_at (with_words s to (take i ws)) (after from i) ≡ Some x = word_was (with_words s to (take i ws)) (after from i) x g in
        let here : word_at u (after from i) ≡ Some x = subst (λ (y : Segments). word_at y (after from i) ≡ Some x) (sym (h ws e apart)) there in
        let got : w ≡ x = is ∙ ap (λ (o : Option ℕ). unwrap_or o 0) here in
        ap (λ (y : ℕ). y ∷ []) (sym got)
    single (a ∷ (b ∷ vs)) f g = absurd (omega (arith, f))
