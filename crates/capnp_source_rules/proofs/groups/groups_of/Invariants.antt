-- what is left comes after what was added
use Rattle.std.proofs.Common.{◌≡◌, ◌++◌, length}
use Rattle.capnp_source_rules.specs.Groups.{groups_of}
use Rattle.capnp_source_rules.proofs.groups.groups_of.Given as goal

abbrev pub invariant-loop-left : goal.invariant-loop-left
invariant-loop-left l = l.groups.items ++ groups_of l.left ≡ groups_of l.fn.nodes

abbrev pub decreases-loop-left : goal.decreases-loop-left
decreases-loop-left l = length l.left
