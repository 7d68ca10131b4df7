-- Bits of a data section that are read and written in one of its words.
use Rattle.std.proofs.Common.{◌≡◌, ℕ, zero, suc, ◌+◌, ◌*◌, ◌/◌, ◌%◌, ◌^◌, ◌<◌, ◌≤◌, List, [], ◌∷◌, length, get_or, set, replicate, refl, ap, sym, ◌∙◌, arith}
use Rattle.std.specs.Int.{from_le_bytes, to_le_bytes, w64}
use Rattle.std.proofs.Math.ListN.{length-map}
use Rattle.std.proofs.lemmas.Nat.{from_le_bytes-to_le_bytes_8}
use Rattle.std.proofs.lemmas.List.{map-set, get_or-map}
use Rattle.capnp_model.specs.Sections.{bits_at, with_bits, section_of}
use Rattle.capnp_model.proofs.lemmas.WordBits.{section_of-put, bits_at-section_of}
use Rattle.capnp_wire_canonical.specs.Writes.{words_view}

-- Words of zeros are a section of zeros.
pub zero_section : (n : ℕ) (word : List ℕ) → from_le_bytes w64 word ≡ 0 → section_of (words_view (replicate n word)) ≡ 0
zero_section zero word e = refl
zero_section (suc n) word e =
    ap (λ (k : ℕ). k * 2 ^ 64 + from_le_bytes w64 word % 2 ^ 64) (zero_section n word e) ∙ ap (λ (x : ℕ). 0 * 2 ^ 64 + x % 2 ^ 64) e

-- The word in which a bit lies, and where it lies there.
whole : (at : ℕ) → 64 * (at / 64) + at % 64 ≡ at
whole at = omega arith

-- Bits of one word are those of the section.
pub bits_got : (slice : List (List ℕ)) (at width word : ℕ) → at / 64 < length slice → at % 64 + width ≤ 64 → word ≡ from_le_bytes w64 (get_or slice (at / 64) []) → bits_at (at % 64) width word ≡ bits_at at width (section_of (words_view slice))
bits_got slice at width word less one e =
    let ws = words_view slice in
    let less' : at / 64 < length ws = omega (arith, less, length-map slice (from_le_bytes w64)) in
    let value : word ≡ get_or ws (at / 64) 0 = e ∙ sym (get_or-map (from_le_bytes w64) slice (at / 64) [] 0 less) in
    ap (bits_at (at % 64) width) value ∙ sym (bits_at-section_of ws (at / 64) (at % 64) width less' one)
    ∙ ap (λ (k : ℕ). bits_at k width (section_of ws)) (whole at)

-- Bits that are set in one word are set in the section.
pub bits_put : (slice : List (List ℕ)) (at width value old word : ℕ) → at / 64 < length slice → at % 64 + width ≤ 64 → value < 2 ^ width → old ≡ from_le_bytes w64 (get_or slice (at / 64) []) → old < 2 ^ 64 → word ≡ with_bits (at % 64) width value old → word < 2 ^ 64
    → section_of (words_view (set slice (at / 64) (to_le_bytes w64 word))) ≡ with_bits at width value (section_of (words_view slice))
bits_put slice at width value old word less one fits e bound put small =
    let ws = words_view slice in
    let i : ℕ = at / 64 in
    let j : ℕ = at % 64 in
    let less' : i < length ws = omega (arith, less, length-map slice (from_le_bytes w64)) in
    let before : old ≡ get_or ws i 0 = e ∙ sym (get_or-map (from_le_bytes w64) slice i [] 0 less) in
    let now : from_le_bytes w64 (to_le_bytes w64 word) ≡ with_bits j width value (get_or ws i 0) =
    from_le_bytes-to_le_bytes_8 word small ∙ put ∙ ap (with_bits j width value) before in
    let low : get_or ws i 0 < 2 ^ 64 = omega (arith, before, bound) in
    ap section_of (map-set (from_le_bytes w64) slice i (to_le_bytes w64 word) ∙ ap (set ws i) now)
    ∙ section_of-put ws i j width value fits less' one low
    ∙ ap (λ (k : ℕ). with_bits k width value (section_of ws)) (whole at)
