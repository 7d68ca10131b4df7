-- A field of a group is less deep than the group.
use Rattle.std.proofs.Common.{◌≡◌, ◌+◌, ◌*◌}
use Rattle.capnp_model.specs.Groups.{fields_fault}
use Rattle.capnp_wire.specs.Views.{seen_struct}
use Rattle.capnp_values_queries.specs.Structs.{shape_of_struct, fields_of_struct}
use Rattle.capnp_calls.proofs.lemmas.ClearedGroups.{shape_depth, fields_depth}
use Rattle.capnp_calls_replies.specs.Faults.{OfRecord}
use Rattle.capnp_calls_replies.proofs.GroupFaults.{fault_from}
use Rattle.capnp_calls_replies.proofs.faults.+groups.Given as goal

abbrev pub decreases-entry_fault : goal.decreases-entry_fault
decreases-entry_fault g l = 3 * fields_depth (fields_of_struct l.field.parent) + 1

abbrev pub decreases-fields_fault : goal.decreases-fields_fault
decreases-fields_fault g l = 3 * fields_depth (fields_of_struct l.schema) + 2

abbrev pub decreases-group_fault : goal.decreases-group_fault
decreases-group_fault g l = 3 * shape_depth (shape_of_struct l.schema)

-- the first i fields have no fault
abbrev pub invariant-fields_fault-loop-i : goal.invariant-fields_fault-loop-i
invariant-fields_fault-loop-i g l =
    let fs = fields_of_struct l.schema in
    OfRecord l.schema (seen_struct g.A.ReaderArena.segments l.source) (λ r. fields_fault l.members fs r ≡ fault_from l.i l.members fs r)
