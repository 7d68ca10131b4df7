-- Words that are written over a struct's data section.
use Rattle.std.proofs.Common.{◌≡◌, ℕ, suc, ◌+◌, ◌*◌, ◌<◌, ◌≤◌, List, [], ◌∷◌, ◌++◌, length, map, get_or, take, drop, Some, refl, ap, sym, ◌∙◌, subst, arith}
use Rattle.std.specs.Int.{from_le_bytes, w64}
use Rattle.std.specs.List.{flat_map}
use Rattle.std.proofs.lemmas.List.{take_at, drop_at}
use Rattle.capnp_model.specs.Bytes.{words_in_bytes}
use Rattle.capnp_model.specs.Sections.{with_bits, section_of}
use Rattle.capnp_model.specs.Segments.{Segments, Place, words_at, after}
use Rattle.capnp_model.specs.Pointers.{a_struct}
use Rattle.capnp_model.specs.Trees.{Trees, structure}
use Rattle.capnp_model.proofs.lemmas.ByteLists.{word_of_eight}
use Rattle.capnp_model.proofs.lemmas.ReadFits.{words_length}
use Rattle.capnp_model_writes.specs.Footprints.{OwnsObject}
use Rattle.capnp_model_writes.specs.Changes.{ReplacesObject}
use Rattle.capnp_model_writes.specs.Writes.{spliced, with_words}
use Rattle.capnp_model_writes.proofs.lemmas.Lift.{struct_parts}
use Rattle.capnp_model_writes.proofs.lemmas.Rows.{after_none}
use Rattle.capnp_model_writes.proofs.lemmas.Spans.{words_front}
use Rattle.capnp_model_writes.proofs.lemmas.Writing.{struct_words}
use Rattle.capnp_copy_arenas.proofs.ByteSets.{spliced_section}

-- Words of eight bytes each, one behind the other, are read as they are.
pub flat_words : (ws : List (List ℕ)) → ((i : ℕ) → i < length ws → length (get_or ws i []) ≡ 8) → words_in_bytes (length ws) (flat_map (λ w. w) ws) ≡ map (from_le_bytes w64) ws
flat_words [] h = refl
flat_words (w ∷ ws) h =
    let eight : length w ≡ 8 = h 0 (omega arith) in
    let rest : List ℕ = flat_map (λ v. v) ws in
    let first : from_le_bytes w64 (w ++ rest) ≡ from_le_bytes w64 w = sym (word_of_eight (w ++ rest)) ∙ ap (from_le_bytes w64) (take_at w rest 8 eight) in
    ap (λ (n : ℕ). n ∷ words_in_bytes (length ws) (drop 8 (w ++ rest))) first
    ∙ ap (λ (bytes : List ℕ). from_le_bytes w64 w ∷ words_in_bytes (length ws) bytes) (drop_at w rest 8 eight)
    ∙ ap (λ (v : List ℕ). from_le_bytes w64 w ∷ v) (flat_words ws (λ i l. h (suc i) (omega (arith, l))))

-- Words over the first ones of a struct's data are the first bits of its section.
pub set_words : (n : ℕ) (s : Segments) (p : Place) (d k section : ℕ) (kids : Trees) (vs : List ℕ) → length vs ≤ d → OwnsObject n s (a_struct p d k) (structure d section kids)
    → ReplacesObject n s (with_words s p vs) (a_struct p d k) (structure d (with_bits 0 (64 * length vs) (section_of vs) section) kids)
set_words n s p d k section kids vs few o =
    let x = (struct_parts n s p d k d section kids o.means).1 in
    let ws : List ℕ = take d x.words in
    let there : words_at s p d ≡ Some ws = words_front s p d k x.words x.there in
    let long : length ws ≡ d = words_length s p d ws there in
    let r = struct_words n s p d k 0 d section kids vs ws (omega (arith, few)) there o in
    let now : section_of (spliced 0 vs ws) ≡ with_bits 0 (64 * length vs) (section_of vs) section =
    spliced_section 0 vs ws (omega (arith, few, long)) ∙ ap (with_bits 0 (64 * length vs) (section_of vs)) x.section_is in
    subst (λ (q : Place). ReplacesObject n s (with_words s q vs) (a_struct p d k) (structure d (with_bits 0 (64 * length vs) (section_of vs) section) kids)) (after_none p)
    (subst (λ (m : ℕ). ReplacesObject n s (with_words s (after p 0) vs) (a_struct p d k) (structure d m kids)) now r)
