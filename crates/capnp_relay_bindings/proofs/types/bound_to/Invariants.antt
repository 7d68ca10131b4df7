-- the binding is among those that are left, if it is there
use Rattle.std.proofs.Common.{◌≡◌, length}
use Rattle.capnp_relay_bindings.specs.Types.{bound_to}
use Rattle.capnp_relay_bindings.proofs.types.bound_to.Given as goal

abbrev pub invariant-loop-left : goal.invariant-loop-left
invariant-loop-left l = bound_to l.left l.fn.scope l.fn.index ≡ bound_to l.fn.bindings l.fn.scope l.fn.index

abbrev pub decreases-loop-left : goal.decreases-loop-left
decreases-loop-left l = length l.left
