-- A value takes a level less than what it stands in, and within a level each calls the next.
use Rattle.std.proofs.Common.{◌≡◌, ◌+◌, ◌*◌}
use Rattle.capnp_units.specs.Segments.{words_in}
use Rattle.capnp_wire_objects.specs.Places.{place_view}
use Rattle.capnp_wire_objects.specs.Inside.{words_there}
use Rattle.capnp_copy_values.proofs.Rows.{RowSoFar}
use Rattle.capnp_copy_values.proofs.Elements.{ElementsSoFar}
use Rattle.capnp_copy_values.proofs.FittingRows.{RowFits, ElementsFit}
use Rattle.capnp_copy_arenas.specs.States.{state_in}
use Rattle.capnp_copy_values.proofs.copy.+copy.Given as goal

abbrev pub decreases-copy_from : goal.decreases-copy_from
decreases-copy_from g l = 6 * l.levels

abbrev pub decreases-copy_object : goal.decreases-copy_object
decreases-copy_object g l = 6 * l.levels + 5

abbrev pub decreases-fill : goal.decreases-fill
decreases-fill g l = 6 * l.levels + 4

abbrev pub decreases-fill_elements : goal.decreases-fill_elements
decreases-fill_elements g l = 6 * l.levels + 3

abbrev pub decreases-fill_struct : goal.decreases-fill_struct
decreases-fill_struct g l = 6 * l.levels + 2

abbrev pub decreases-fill_row : goal.decreases-fill_row
decreases-fill_row g l = 6 * l.levels + 1

-- the first i are copied, and paid
abbrev pub invariant-fill_row-loop-i : goal.invariant-fill_row-loop-i
invariant-fill_row-loop-i g l =
    let from = words_in (g.B.ReaderArena.segments l.source) in
    let s = words_in (g.A.ReaderArena.segments l.fn.arena) in
    let u = words_in (g.A.ReaderArena.segments l.arena) in
    RowSoFar l.levels from (place_view l.first) l.count l.i s u (place_view l.start) l.data_words l.fn.limiter l.limiter × (g.A.BuilderArena.books l.arena ≡ g.A.BuilderArena.books l.fn.arena)
    × RowFits l.levels from (place_view l.first) l.count l.i (state_in g.A.ReaderArena.segments g.A.BuilderArena.room g.A.BuilderArena.books l.fn.arena) (state_in g.A.ReaderArena.segments g.A.BuilderArena.room g.A.BuilderArena.books l.arena) l.start.segment

abbrev pub invariant-fill_elements-loop-i : goal.invariant-fill_elements-loop-i
invariant-fill_elements-loop-i g l =
    let from = words_in (g.B.ReaderArena.segments l.source) in
    let s = words_in (g.A.ReaderArena.segments l.fn.arena) in
    let u = words_in (g.A.ReaderArena.segments l.arena) in
    let p = place_view l.rows.start in
    ElementsSoFar l.levels from p (words_there from p l.rows.words) l.rows.data_words l.rows.pointers l.rows.count l.i s u (place_view l.start) l.fn.limiter l.limiter × (g.A.BuilderArena.books l.arena ≡ g.A.BuilderArena.books l.fn.arena)
    × ElementsFit l.levels from p (words_there from p l.rows.words) l.rows.data_words l.rows.pointers l.rows.count l.i (state_in g.A.ReaderArena.segments g.A.BuilderArena.room g.A.BuilderArena.books l.fn.arena) (state_in g.A.ReaderArena.segments g.A.BuilderArena.room g.A.BuilderArena.books l.arena) l.start.segment
