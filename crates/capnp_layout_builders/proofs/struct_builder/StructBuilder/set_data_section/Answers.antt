use Rattle.std.proofs.Common.{◌≡◌, ℕ, ◌*◌, ◌/◌, length, map, ap, sym, ◌∙◌, subst, rules, arith}
use Rattle.std.specs.Int.{from_le_bytes, w64}
use Rattle.std.proofs.lemmas.List.{length-map}
use Rattle.capnp_model.specs.Bytes.{words_in_bytes}
use Rattle.capnp_model.specs.Sections.{with_bits, section_of}
use Rattle.capnp_model.specs.Pointers.{a_struct}
use Rattle.capnp_model.specs.Segments.{Segments}
use Rattle.capnp_model.specs.Trees.{structure}
use Rattle.capnp_units.specs.Segments.{words_in}
use Rattle.capnp_wire_canonical.specs.Writes.{words_view}
use Rattle.capnp_wire_objects.specs.Places.{place_view}
use Rattle.capnp_model_writes.specs.Changes.{ReplacesObject}
use Rattle.capnp_model_writes.specs.Writes.{with_words}
use Rattle.capnp_copy_arenas.proofs.lemmas.SectionWords.{set_words}
use Rattle.capnp_copy_arenas.proofs.lemmas.ZeroedWords.{written_sizes}
use Rattle.capnp_layout_builders.proofs.struct_builder.StructBuilder.set_data_section.Goals as goal

pub returns-clause-sizes : goal.returns-clause-sizes
returns-clause-sizes g c =
    let o = c.args.self.now in
    let bytes = c.as_bytes.result.now in
    ap (λ (s : Segments). map length s) c.write_words.ensures.words ∙ written_sizes (words_in (g.A.ReaderArena.segments o.memory.now.arena)) (place_view o.place.start) (words_in_bytes (length bytes / 8) bytes)

pub returns-clause-sets : goal.returns-clause-sets
returns-clause-sets g c = λ n section kids owns.
    let o = c.args.self.now in
    let s = words_in (g.A.ReaderArena.segments o.memory.now.arena) in
    let p = place_view o.place.start in
    let d = o.place.data_words in
    let k = o.place.pointers in
    let words = c.args.section.now.words in
    let bytes = c.as_bytes.result.now in
    let vs = words_view words in
    let count : length words ≡ g.row.N = search rules in
    let half : length bytes / 8 ≡ g.row.N = omega (arith, c.as_bytes.ensures.len) in
    let same : words_in_bytes (length bytes / 8) bytes ≡ vs = ap (λ (m : ℕ). words_in_bytes m bytes) half ∙ c.as_bytes.ensures.words in
    let wide : length vs ≡ g.row.N = length-map words (from_le_bytes w64) ∙ count in
    let written = set_words n s p d k section kids vs (omega (arith, wide, c.requires.inside)) owns in
    let now : words_in (g.A.ReaderArena.segments c.write_words.new.self) ≡ with_words s p vs = c.write_words.ensures.words ∙ ap (with_words s p) same in
    subst (λ (u : Segments). ReplacesObject n s u (a_struct p d k) (structure d (with_bits 0 (64 * g.row.N) (section_of vs) section) kids)) (sym now)
    (subst (λ (m : ℕ). ReplacesObject n s (with_words s p vs) (a_struct p d k) (structure d (with_bits 0 (64 * m) (section_of vs) section) kids)) wide written)
