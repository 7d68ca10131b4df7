-- A value takes a level less than what it stands in. Within a level a group is less deep than what it is in.
use Rattle.std.proofs.Common.{◌+◌, ◌*◌, length}
use Rattle.capnp_model.specs.Accepted.{schema_of}
use Rattle.capnp_model.specs.Traversal.{tree_at}
use Rattle.capnp_units.specs.Segments.{words_in}
use Rattle.capnp_records.specs.Sets.{nodes_of}
use Rattle.capnp_wire_objects.specs.Inside.{section_at, words_there}
use Rattle.capnp_wire_objects.specs.Places.{place_view}
use Rattle.capnp_values_queries.specs.Handles.{body_of_place}
use Rattle.capnp_values_queries.specs.Structs.{shape_of_struct, id_of}
use Rattle.capnp_values_queries.specs.Types.{ty_of}
use Rattle.capnp_relay_kinds.specs.Kinds.{first_pointer}
use Rattle.capnp_relay_kinds.proofs.Depths.{shape_depth, body_depth}
use Rattle.capnp_relay_kinds.proofs.Rows.{RowLeft, ElementsLeft}
use Rattle.capnp_relay_kinds.proofs.Fields.{FieldsLeft}
use Rattle.capnp_relay_kinds.proofs.walk.+walk.Given as goal

abbrev pub decreases-value_at : goal.decreases-value_at
decreases-value_at g l = (3 * length (nodes_of l.set.now) + 10) * l.levels + 2

abbrev pub decreases-struct_at : goal.decreases-struct_at
decreases-struct_at g l = (3 * length (nodes_of l.set.now) + 10) * l.levels + 1

abbrev pub decreases-list_at : goal.decreases-list_at
decreases-list_at g l = (3 * length (nodes_of l.set.now) + 10) * l.levels + 1

abbrev pub decreases-row_at : goal.decreases-row_at
decreases-row_at g l = (3 * length (nodes_of l.set.now) + 10) * l.levels + 3

abbrev pub decreases-elements_at : goal.decreases-elements_at
decreases-elements_at g l = (3 * length (nodes_of l.set.now) + 10) * l.levels + 3 * length (nodes_of l.set.now) + 8

abbrev pub decreases-fields_at : goal.decreases-fields_at
decreases-fields_at g l = (3 * length (nodes_of l.set.now) + 10) * l.levels + 3 * shape_depth (shape_of_struct l.schema) + 4

abbrev pub decreases-field_at : goal.decreases-field_at
decreases-field_at g l = (3 * length (nodes_of l.set.now) + 10) * l.levels + 3 * body_depth (body_of_place l.field) + 5

-- what is left of the elements decides
abbrev pub invariant-row_at-loop-i : goal.invariant-row_at-loop-i
invariant-row_at-loop-i g l =
    RowLeft (schema_of (nodes_of l.set)) (ty_of l.element) (tree_at l.levels (words_in (g.A.ReaderArena.segments l.arena))) (place_view l.first) l.count l.i

abbrev pub invariant-elements_at-loop-i : goal.invariant-elements_at-loop-i
invariant-elements_at-loop-i g l =
    let s = words_in (g.A.ReaderArena.segments l.arena) in
    let p = place_view l.list.start in
    ElementsLeft (schema_of (nodes_of l.set)) (id_of l.schema) (tree_at l.levels s) p (words_there s p l.list.words) l.list.data_words l.list.pointers l.list.count l.i

-- what is left of the fields decides
abbrev pub invariant-fields_at-loop-i : goal.invariant-fields_at-loop-i
invariant-fields_at-loop-i g l =
    let s = words_in (g.A.ReaderArena.segments l.arena) in
    FieldsLeft (schema_of (nodes_of l.set)) (tree_at l.levels s) (first_pointer l.sections) l.sections.pointers (shape_of_struct l.schema) (section_at s (place_view l.sections.start) l.sections.data_words) l.i
