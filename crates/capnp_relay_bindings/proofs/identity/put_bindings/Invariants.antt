-- the key with those that are left behind it is the whole
use Rattle.std.proofs.Common.{◌≡◌, length}
use Rattle.capnp_relay_bindings.specs.Identity.{with_bindings}
use Rattle.capnp_relay_bindings.proofs.identity.put_bindings.Given as goal

abbrev pub invariant-loop-left : goal.invariant-loop-left
invariant-loop-left l = with_bindings l.key.items l.left ≡ with_bindings l.fn.key.items l.fn.bindings

abbrev pub decreases-loop-left : goal.decreases-loop-left
decreases-loop-left l = length l.left
