-- The first i are copied, and paid.
use Rattle.std.proofs.Common.{◌≡◌, ◌+◌, ◌*◌}
use Rattle.capnp_model.specs.Sections.{number_of, words_of}
use Rattle.capnp_units.specs.Segments.{words_in}
use Rattle.capnp_wire_objects.specs.Places.{place_view}
use Rattle.capnp_copy_arenas.specs.States.{state_in}
use Rattle.capnp_copy_values.proofs.Elements.{ElementsSoFar}
use Rattle.capnp_copy_values.proofs.FittingRows.{ElementsFit}
use Rattle.capnp_copy_values.proofs.lists.fill_structs.Given as goal

abbrev pub invariant-loop-i : goal.invariant-loop-i
invariant-loop-i g l =
    let from = words_in (g.B.ReaderArena.segments l.source) in
    let s = words_in (g.A.ReaderArena.segments l.fn.arena) in
    let u = words_in (g.A.ReaderArena.segments l.arena) in
    ElementsSoFar l.levels from (place_view l.list.start) (words_of (l.list.count * (l.list.data_words + l.list.pointers)) (number_of 8 l.bytes)) l.list.data_words l.list.pointers l.list.count l.i s u (place_view l.start) l.fn.limiter l.limiter × (g.A.BuilderArena.books l.arena ≡ g.A.BuilderArena.books l.fn.arena)
    × ElementsFit l.levels from (place_view l.list.start) (words_of (l.list.count * (l.list.data_words + l.list.pointers)) (number_of 8 l.bytes)) l.list.data_words l.list.pointers l.list.count l.i (state_in g.A.ReaderArena.segments g.A.BuilderArena.room g.A.BuilderArena.books l.fn.arena) (state_in g.A.ReaderArena.segments g.A.BuilderArena.room g.A.BuilderArena.books l.arena) l.start.segment
