-- the deepest of those that are left, or the most so far, is the deepest
use Rattle.std.proofs.Common.{◌≡◌, length}
use Rattle.capnp_relay_bindings.specs.Types.{deepest}
use Rattle.capnp_relay_bindings.proofs.types.depth_of.Given as goal

abbrev pub invariant-loop-left : goal.invariant-loop-left
invariant-loop-left l = deepest l.most l.left ≡ deepest 0 l.fn.bindings

abbrev pub decreases-loop-left : goal.decreases-loop-left
decreases-loop-left l = length l.left
