use Rattle.std.proofs.Common.{◌≡◌, ◌+◌, ◌*◌, ◌/◌, ℕ, ap, ◌∙◌, arith}
use Rattle.capnp_model.specs.Sections.{numbers_in, words_for}
use Rattle.capnp_units.specs.Segments.{words_in}
use Rattle.capnp_wire_objects.specs.Places.{place_view}
use Rattle.capnp_wire.specs.Views.{section_at}
use Rattle.capnp_copy_arenas.proofs.ByteSets.{front_bytes}
use Rattle.capnp_copy_arenas.proofs.bytes.get_bytes.Goals as goal

pub returns-clause-has : goal.returns-clause-has
returns-clause-has g c = λ n m section l o.
    let s = words_in (g.A.ReaderArena.segments c.args.arena.now) in
    let p = place_view c.args.blob.start in
    let count : ℕ = c.args.blob.count in
    let same : (count + 7) / 8 ≡ words_for (8 * count) = omega arith in
    let is = c.lend-bytes.ensures.section ∙ ap (λ (k : ℕ). section_at s p k) same in
    c.front_of.ensures ∙ ap (numbers_in 8 count) is ∙ front_bytes n s p count m section l o
