-- The values that may still be printed in one another grow less on the way down; within a value each calls the next.
use Rattle.std.proofs.Common.{◌+◌, ◌-◌, ◌*◌}
use Rattle.capnp_model.specs.Accepted.{schema_of}
use Rattle.capnp_model.specs.Readings.{just_bits}
use Rattle.capnp_records.specs.Sets.{nodes_of}
use Rattle.capnp_values_queries.specs.Types.{ty_of}
use Rattle.capnp_values_queries.specs.Structs.{schema_around, fields_of_struct}
use Rattle.capnp_values.specs.Sources.{struct_seen, list_seen}
use Rattle.capnp_values.specs.Shown.{discriminant_shown}
use Rattle.capnp_model.specs.Printing.{as_it_is}
use Rattle.capnp_values_print.specs.Texts.{style_of, values_around}
use Rattle.capnp_values_print.specs.ShownReadings.{children_read, reading_within, levels_left}
use Rattle.capnp_values_print.specs.Printed.{null_printed}
use Rattle.capnp_values_print.specs.Parts.{fields_text, elements_text}
use Rattle.capnp_values_print.proofs.Loops.{Going, fields_after, Left, Rest}
use Rattle.capnp_values_print.proofs.values.+text.Given as goal

abbrev pub decreases-push_value : goal.decreases-push_value
decreases-push_value g l = 8 * (1024 - values_around l.indent) + 7

abbrev pub decreases-push_struct : goal.decreases-push_struct
decreases-push_struct g l = 8 * (1024 - values_around l.indent) + 6

abbrev pub decreases-push_fields : goal.decreases-push_fields
decreases-push_fields g l = 8 * (1024 - values_around l.indent) + 5

abbrev pub decreases-push_member : goal.decreases-push_member
decreases-push_member g l = 8 * (1024 - values_around l.indent) + 8

abbrev pub decreases-push_list : goal.decreases-push_list
decreases-push_list g l = 8 * (1024 - values_around l.indent) + 6

abbrev pub decreases-push_elements : goal.decreases-push_elements
decreases-push_elements g l = 8 * (1024 - values_around l.indent) + 5

-- the fields before are there, and the others follow
abbrev pub invariant-push_fields-loop-i : goal.invariant-push_fields-loop-i
invariant-push_fields-loop-i g l =
    let s = l.reader.schema in
    let v = struct_seen g.A.ReaderArena.segments l.reader.source in
    let style = style_of l.indent in
    Going (fields_text l.left style s v)
    (Left (schema_around s) as_it_is (null_printed (schema_around s) as_it_is l.left) style (discriminant_shown s v) (just_bits v.bits) v.section (children_read (reading_within (levels_left v.levels)) (schema_around s) v) (fields_after l.i (fields_of_struct s)) l.first)
    l.fn.out.items l.out.items

-- the elements before are there, and the others follow
abbrev pub invariant-push_elements-loop-i : goal.invariant-push_elements-loop-i
invariant-push_elements-loop-i g l =
    let s = schema_of (nodes_of l.list.set.now) in
    let v = list_seen g.A.ReaderArena.segments l.list.source in
    let style = style_of l.indent in
    Going (elements_text l.left style s (ty_of l.list.element_type) v)
    (Rest s as_it_is (null_printed s as_it_is l.left) style (reading_within (levels_left v.levels)) (ty_of l.list.element_type) v l.i (v.count - l.i))
    l.fn.out.items l.out.items
