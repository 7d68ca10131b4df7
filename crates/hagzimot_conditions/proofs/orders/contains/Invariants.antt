use Rattle.std.proofs.Common.{length}
use Rattle.hagzimot_conditions.proofs.orders.contains.Given as goal

abbrev pub decreases-loop-left : goal.decreases-loop-left
decreases-loop-left l = length l.left
