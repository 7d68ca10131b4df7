-- what is made and what is left make the whole
use Rattle.std.proofs.Common.{◌≡◌, ◌++◌, map, length}
use Rattle.capnp_records.specs.NodeViews.{field_of}
use Rattle.capnp_relay_bindings.specs.Plans.{retyped_fields}
use Rattle.capnp_relay_bindings.proofs.plans.fields_by.Given as goal

abbrev pub invariant-loop-left : goal.invariant-loop-left
invariant-loop-left l = map field_of l.made.items ++ retyped_fields (map field_of l.left) l.to ≡ retyped_fields (map field_of l.fn.fields) l.fn.plan

abbrev pub decreases-loop-left : goal.decreases-loop-left
decreases-loop-left l = length l.left
