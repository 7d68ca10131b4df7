-- The last byte of a list of bytes.
use Rattle.std.proofs.Common.{◌≡◌, ℕ, ◌+◌, ◌-◌, ◌*◌, ◌/◌, ◌%◌, ◌<◌, true, List, [], ◌∷◌, length, get_or, Option, Some, None, refl, ap, ◌∙◌, arith}
use Rattle.std.specs.Option.{is_some}
use Rattle.capnp_model.specs.Sections.{words_for, bits_at, section_of}
use Rattle.capnp_model.specs.Segments.{Segments, Place, after, word_at, words_at}
use Rattle.capnp_model.specs.Coverage.{span}
use Rattle.capnp_model.proofs.lemmas.WordBits.{bits_at-section_of}
use Rattle.capnp_wire.specs.Views.{section_in, section_at}
use Rattle.capnp_model_writes.proofs.lemmas.Spans.{held_in, held_is, not_there}
use Rattle.capnp_model_writes.proofs.lemmas.There.{words_there}
use Rattle.capnp_copy_arenas.proofs.lemmas.FieldLaws.{word_in}
use Rattle.capnp_copy_arenas.proofs.lemmas.RoomLaws.{some_of}
use Rattle.capnp_model.proofs.lemmas.ReadFits.{words_length}

pub last_byte : (s : Segments) (p : Place) (c word : ℕ) → 0 < c → is_some (words_at s p (words_for (8 * c))) ≡ true → word_at s (after p ((c - 1) / 8)) ≡ Some word → bits_at (8 * (c - 1)) 8 (section_at s p (words_for (8 * c))) ≡ bits_at (8 * ((c - 1) % 8)) 8 word
unfolding section_at
last_byte s p c word some there e =
    let x = some_of s p (words_for (8 * c)) there in
    let ws : List ℕ = x.0 in
    let i : ℕ = (c - 1) / 8 in
    let j : ℕ = 8 * ((c - 1) % 8) in
    let long : length ws ≡ words_for (8 * c) = words_length s p (words_for (8 * c)) ws x.1 in
    let l : i < words_for (8 * c) = omega (arith, some) in
    let is : get_or ws i 0 ≡ word = word_in s p (words_for (8 * c)) i word ws l x.1 e in
    let at : 8 * (c - 1) ≡ 64 * i + j = omega arith in
    ap (λ (o : Option (List ℕ)). bits_at (8 * (c - 1)) 8 (section_in o)) x.1
    ∙ ap (λ (k : ℕ). bits_at k 8 (section_of ws)) at
    ∙ bits_at-section_of ws i j 8 (omega (arith, long, l)) (omega arith)
    ∙ ap (λ (w : ℕ). bits_at j 8 w) is

pub last_is_there : (s : Segments) (p : Place) (c : ℕ) → 0 < c → is_some (words_at s p (words_for (8 * c))) ≡ true → word_at s (after p ((c - 1) / 8)) ≡ None → ⊥
last_is_there s p c some there e =
    let x = some_of s p (words_for (8 * c)) there in
    let all : ℕ = words_for (8 * c) in
    let one = held_in p all (after p ((c - 1) / 8)) refl (omega arith) (omega (arith, some)) in
    let y = words_there s (span p all ∷ []) (after p ((c - 1) / 8)) ((x.0, x.1), tt) (omega (arith, one, held_is p all [] (after p ((c - 1) / 8)))) in
    not_there s (after p ((c - 1) / 8)) y.0 y.1 e
