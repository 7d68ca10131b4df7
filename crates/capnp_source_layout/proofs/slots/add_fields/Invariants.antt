-- what is left comes after what was added
use Rattle.std.proofs.Common.{◌≡◌, ◌++◌, length}
use Rattle.capnp_source_layout.specs.Slots.{field_slots}
use Rattle.capnp_source_layout.proofs.slots.add_fields.Given as goal

abbrev pub invariant-loop-left : goal.invariant-loop-left
invariant-loop-left l = l.slots.items ++ field_slots l.words l.left l.offsets_left ≡ l.fn.slots.items ++ field_slots l.words l.fn.steps l.fn.offsets

abbrev pub decreases-loop-left : goal.decreases-loop-left
decreases-loop-left l = length l.left
