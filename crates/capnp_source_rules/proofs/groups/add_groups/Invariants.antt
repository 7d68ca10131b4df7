-- what is left comes after what was added
use Rattle.std.proofs.Common.{◌≡◌, ◌++◌, length}
use Rattle.capnp_source_rules.specs.Groups.{groups_in}
use Rattle.capnp_source_rules.proofs.groups.add_groups.Given as goal

abbrev pub invariant-loop-left : goal.invariant-loop-left
invariant-loop-left l = l.groups.items ++ groups_in l.left ≡ l.fn.groups.items ++ groups_in l.fn.fields

abbrev pub decreases-loop-left : goal.decreases-loop-left
decreases-loop-left l = length l.left
