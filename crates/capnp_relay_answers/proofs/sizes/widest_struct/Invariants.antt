-- The widest struct of the nodes so far.
use Rattle.std.proofs.Common.{◌≡◌, ◌^◌, ◌<◌, take}
use Rattle.capnp_relay_answers.proofs.SizeSums.{widest_recorded}
use Rattle.capnp_relay_answers.proofs.sizes.widest_struct.Given as goal

abbrev pub invariant-loop-node : goal.invariant-loop-node
invariant-loop-node l = (l.most ≡ widest_recorded (take l.node-index l.nodes)) × (l.most < 2 ^ 17)
