-- those that are left decide
use Rattle.std.proofs.Common.{All, length}
use Rattle.capnp_source_layout.specs.Slots.{IsInside}
use Rattle.capnp_source_layout.proofs.checks.are_inside.Given as goal

abbrev pub invariant-loop-left : goal.invariant-loop-left
invariant-loop-left l = All (IsInside l.words l.pointers) l.left → All (IsInside l.words l.pointers) l.fn.slots

abbrev pub decreases-loop-left : goal.decreases-loop-left
decreases-loop-left l = length l.left
