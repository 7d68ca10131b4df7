-- A value takes a level less than what it stands in, and within a level each calls the next.
use Rattle.std.proofs.Common.{◌+◌, ◌*◌}
use Rattle.capnp_units.specs.Segments.{words_in}
use Rattle.capnp_wire_objects.specs.Places.{place_view}
use Rattle.capnp_wire_canonical.proofs.CheckedRows.{RowSoFar}
use Rattle.capnp_wire_canonical.proofs.CheckedElements.{ElementsSoFar}
use Rattle.capnp_wire_canonical.proofs.value_ends.+check.Given as goal

abbrev pub decreases-object_end : goal.decreases-object_end
decreases-object_end g l = 8 * l.levels + 7

abbrev pub decreases-struct_end : goal.decreases-struct_end
decreases-struct_end g l = 8 * l.levels + 6

abbrev pub decreases-struct_here : goal.decreases-struct_here
decreases-struct_here g l = 8 * l.levels + 5

abbrev pub decreases-pointers_end : goal.decreases-pointers_end
decreases-pointers_end g l = 8 * l.levels + 5

abbrev pub decreases-structs_end : goal.decreases-structs_end
decreases-structs_end g l = 8 * l.levels + 6

abbrev pub decreases-elements_end : goal.decreases-elements_end
decreases-elements_end g l = 8 * l.levels + 5

abbrev pub decreases-row_end : goal.decreases-row_end
decreases-row_end g l = 8 * l.levels + 4

abbrev pub decreases-item_end : goal.decreases-item_end
decreases-item_end g l = 8 * l.levels + 3

abbrev pub decreases-other_end : goal.decreases-other_end
decreases-other_end g l = 8 * l.levels + 2

abbrev pub decreases-value_end : goal.decreases-value_end
decreases-value_end g l = 8 * l.levels + 1

abbrev pub decreases-any_end : goal.decreases-any_end
decreases-any_end g l = 8 * l.levels

-- the first i stand, and are paid
abbrev pub invariant-row_end-loop-i : goal.invariant-row_end-loop-i
invariant-row_end-loop-i g l = RowSoFar l.levels (words_in (g.A.ReaderArena.segments l.arena)) (place_view l.first) l.count l.head l.fn.limiter l.i l.end l.limiter

abbrev pub invariant-elements_end-loop-i : goal.invariant-elements_end-loop-i
invariant-elements_end-loop-i g l = ElementsSoFar l.levels (words_in (g.A.ReaderArena.segments l.arena)) (place_view l.start) l.count l.size.data_words l.size.pointers l.head l.fn.limiter l.i l.end l.limiter
