-- what is left comes after what was added
use Rattle.std.proofs.Common.{◌≡◌, ◌++◌, length}
use Rattle.capnp_source_layout.specs.Slots.{discriminant_slots}
use Rattle.capnp_source_layout.proofs.slots.add_discriminants.Given as goal

abbrev pub invariant-loop-left : goal.invariant-loop-left
invariant-loop-left l = l.slots.items ++ discriminant_slots l.left l.discriminants_left ≡ l.fn.slots.items ++ discriminant_slots l.fn.scopes l.fn.discriminants

abbrev pub decreases-loop-left : goal.decreases-loop-left
decreases-loop-left l = length l.left
