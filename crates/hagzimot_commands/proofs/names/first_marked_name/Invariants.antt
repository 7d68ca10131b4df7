-- the first of what is left is the first of all
use Rattle.std.proofs.Common.{◌≡◌, length}
use Rattle.hagzimot_commands.specs.Names.{first_marked}
use Rattle.hagzimot_commands.proofs.names.first_marked_name.Given as goal

abbrev pub invariant-loop-left : goal.invariant-loop-left
invariant-loop-left l = first_marked l.left ≡ first_marked l.fn.nodes

abbrev pub decreases-loop-left : goal.decreases-loop-left
decreases-loop-left l = length l.left
