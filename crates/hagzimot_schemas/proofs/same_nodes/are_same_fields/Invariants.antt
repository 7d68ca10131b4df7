-- all are the same where those that are left are
use Rattle.std.proofs.Common.{◌≡◌, map, length}
use Rattle.capnp_records.specs.NodeViews.{field_of}
use Rattle.hagzimot_schemas.specs.SchemaForms.{bare_field}
use Rattle.hagzimot_schemas.proofs.same_nodes.are_same_fields.Given as goal

abbrev pub invariant-loop-told_left : goal.invariant-loop-told_left
invariant-loop-told_left l = map bare_field (map field_of l.told_left) ≡ map bare_field (map field_of l.read_left) → map bare_field (map field_of l.fn.told) ≡ map bare_field (map field_of l.fn.read)

abbrev pub decreases-loop-told_left : goal.decreases-loop-told_left
decreases-loop-told_left l = length l.told_left
