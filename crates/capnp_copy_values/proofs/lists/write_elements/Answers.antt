use Rattle.std.proofs.Common.{◌≡◌, ℕ, ◌*◌, length, map, refl, ap, ◌∙◌, arith}
use Rattle.capnp_model.specs.Sections.{words_for}
use Rattle.capnp_model.specs.Segments.{Segments, Place}
use Rattle.capnp_units.specs.Segments.{words_in}
use Rattle.capnp_units.specs.Sizes.{size_number, data_bits}
use Rattle.capnp_wire_objects.specs.Places.{place_view}
use Rattle.capnp_copy_arenas.specs.Blobs.{with_bytes}
use Rattle.capnp_copy_arenas.proofs.lemmas.Taken.{bytes_sizes}
use Rattle.capnp_copy_values.proofs.Listed.{written_elements}
use Rattle.capnp_copy_values.proofs.lists.write_elements.Goals as goal

pub returns-clause-fills : goal.returns-clause-fills
returns-clause-fills g c =
    let s : Segments = words_in (g.A.ReaderArena.segments c.args.arena.now) in
    let u : Segments = words_in (g.A.ReaderArena.segments c.write_bytes.new.arena) in
    let r : Place = place_view c.args.start in
    let k = words_for (data_bits (size_number c.args.size) * c.args.count) in
    let now : u ≡ with_bytes s r (words_for (data_bits (size_number c.args.size) * c.args.count)) c.args.bytes.now = c.write_bytes.ensures.words ∙ ap (λ (j : ℕ). with_bytes s r j c.args.bytes.now) c.words_of_elements-words.ensures.words in
    λ n. written_elements n s u r (size_number c.args.size) c.args.count (words_for (data_bits (size_number c.args.size) * c.args.count)) c.args.bytes.now c.requires.plain refl (λ i. let h = c.type_inv.bytes i in omega (arith, h)) c.requires.all.0 c.requires.all.1 c.requires.zeros now

pub returns-clause-sizes : goal.returns-clause-sizes
returns-clause-sizes g c =
    let s : Segments = words_in (g.A.ReaderArena.segments c.args.arena.now) in
    ap (λ (v : Segments). map length v) c.write_bytes.ensures.words ∙ bytes_sizes s (place_view c.args.start) _ _
