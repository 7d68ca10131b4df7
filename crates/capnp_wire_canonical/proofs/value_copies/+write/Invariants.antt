-- A value takes a level less than what it stands in, and within a level each calls the next.
use Rattle.std.proofs.Common.{◌+◌, ◌*◌}
use Rattle.capnp_units.specs.Segments.{words_in}
use Rattle.capnp_wire_objects.specs.Places.{place_view}
use Rattle.capnp_wire_objects.specs.Inside.{words_there}
use Rattle.capnp_wire_canonical.proofs.Elements.{ElementsSoFar}
use Rattle.capnp_wire_canonical.proofs.Laying.{LaidSoFar}
use Rattle.capnp_wire_canonical.proofs.Pointers.{PointersSoFar}
use Rattle.capnp_wire_canonical.proofs.value_copies.+write.Given as goal

abbrev pub decreases-write_object : goal.decreases-write_object
decreases-write_object g l = 12 * l.levels + 11

abbrev pub decreases-write_struct : goal.decreases-write_struct
decreases-write_struct g l = 12 * l.levels + 10

abbrev pub decreases-write_structs : goal.decreases-write_structs
decreases-write_structs g l = 12 * l.levels + 10

abbrev pub decreases-write_elements : goal.decreases-write_elements
decreases-write_elements g l = 12 * l.levels + 9

abbrev pub decreases-write_element : goal.decreases-write_element
decreases-write_element g l = 12 * l.levels + 7

abbrev pub decreases-write_row : goal.decreases-write_row
decreases-write_row g l = 12 * l.levels + 6

abbrev pub decreases-write_at : goal.decreases-write_at
decreases-write_at g l = 12 * l.levels + 4

abbrev pub decreases-write_wide : goal.decreases-write_wide
decreases-write_wide g l = 12 * l.levels + 8

abbrev pub decreases-write_any : goal.decreases-write_any
decreases-write_any g l = 12 * l.levels

-- as many are written, and paid; the own words of the others are there
abbrev pub invariant-write_wide-loop-i : goal.invariant-write_wide-loop-i
invariant-write_wide-loop-i g l =
    let s = words_in (g.A.ReaderArena.segments l.arena) in
    let p = place_view l.start in
    LaidSoFar l.levels s p l.cut.data_words l.cut.pointers l.count l.at l.used l.fn.into l.fn.limiter (words_there s p l.words) l.i l.end l.into l.limiter

-- the first i are written, and paid
abbrev pub invariant-write_row-loop-i : goal.invariant-write_row-loop-i
invariant-write_row-loop-i g l =
    let s = words_in (g.A.ReaderArena.segments l.arena) in
    let p = place_view l.first in
    PointersSoFar l.levels s p l.count l.at l.i l.used l.fn.into l.fn.limiter l.end l.into l.limiter

abbrev pub invariant-write_elements-loop-i : goal.invariant-write_elements-loop-i
invariant-write_elements-loop-i g l =
    let s = words_in (g.A.ReaderArena.segments l.arena) in
    let p = place_view l.start in
    ElementsSoFar l.levels s p (words_there s p l.words) l.cut.data_words l.cut.pointers l.cut.kept_words l.cut.kept_pointers l.count l.at l.i l.used l.fn.into l.fn.limiter l.end l.into l.limiter
