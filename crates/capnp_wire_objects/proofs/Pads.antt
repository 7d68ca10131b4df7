-- The words of a landing pad, one by one.
use Rattle.std.proofs.Common.{◌≡◌, ℕ, zero, suc, ◌+◌, true, leb, List, [], ◌∷◌, length, take, drop, Some, Result, Ok, ap, sym, ◌∙◌, arith}
use Rattle.std.specs.List.{slice_get}
use Rattle.std.proofs.lemmas.Bool.{le-leb}
use Rattle.std.proofs.lemmas.Option.{slice_get_within}
use Rattle.capnp_model.specs.Kinds.{Kind}
use Rattle.capnp_model.specs.Sections.{bits_at}
use Rattle.capnp_model.specs.Segments.{Segments, Place, place, after, word_at, words_at}
use Rattle.capnp_model.specs.Pointers.{Pointer, pointer_of, begins, described, Object}
use Rattle.capnp_model.proofs.lemmas.Chaining.{bind_some, some_is}
use Rattle.capnp_model.proofs.lemmas.Locality.{word_is}
use Rattle.capnp_wire_objects.specs.Named.{pad_object}

two_of_drop : (xs : List ℕ) (k a b : ℕ) → slice_get xs k ≡ Some a → slice_get xs (suc k) ≡ Some b → take 2 (drop k xs) ≡ a ∷ b ∷ []
two_of_drop [] k a b e f = absurd cc
two_of_drop (x ∷ []) zero a b e f = absurd cc
two_of_drop (x ∷ y ∷ xs) zero a b e f = cc
two_of_drop (x ∷ xs) (suc k) a b e f = two_of_drop xs k a b e f

two_words : (s : Segments) (p : Place) (a b : ℕ) → word_at s p ≡ Some a → word_at s (after p 1) ≡ Some b → words_at s p 2 ≡ Some (a ∷ b ∷ [])
two_words s p a b e f =
    let k = p.position in
    let x = bind_some (slice_get s p.segment) _ a e in
    let y = bind_some (slice_get s p.segment) _ b f in
    let same : x.0 ≡ y.0 = some_is _ _ (sym x.1 ∙ y.1) in
    let there : slice_get s p.segment ≡ Some x.0 = x.1 in
    let k1 : k + 1 ≡ suc k = omega arith in
    let second : slice_get x.0 (suc k) ≡ Some b = ap (λ (ws : List ℕ). slice_get ws (suc k)) same ∙ ap (slice_get y.0) (sym k1) ∙ y.2 in
    let lt = slice_get_within x.0 (suc k) b second in
    let fits : leb (k + 2) (length x.0) ≡ true = le-leb _ _ (omega arith) in
    rw (there, fits) (ap (λ (ws : List ℕ). Some ws) (two_of_drop x.0 k a b x.2 second))

pub short_pad : (s : Segments) (p : Place) (w : ℕ) (q : Pointer) (r : Result Object Kind) → Some w ≡ word_at s p → q ≡ pointer_of w → r ≡ described (begins (after p 1)) q → r ≡ pad_object s p 1
short_pad s p w q r e says h =
    let one = word_is s p w (sym e) in
    rw one (h ∙ ap (described (begins (after p 1))) says)

pub long_pad : (s : Segments) (p start : Place) (a b : ℕ) (q : Pointer) (r : Result Object Kind) → Some a ≡ word_at s p → Some b ≡ word_at s (after p 1)
    → start ≡ place (bits_at 32 32 a) (bits_at 3 29 a) → q ≡ pointer_of b → r ≡ described (λ _. Ok start) q → r ≡ pad_object s p 2
long_pad s p start a b q r e f at says h =
    let two = two_words s p a b (sym e) (sym f) in
    rw two (h ∙ ap (λ (x : Place). described (λ _. Ok x) q) at ∙ ap (λ (x : Pointer). described (λ _. Ok (place (bits_at 32 32 a) (bits_at 3 29 a))) x) says)
