-- the sum of what is left and the sum so far is that of all
use Rattle.std.proofs.Common.{◌≡◌, length}
use Rattle.hagzimot_outcomes.specs.Counts.{total_from}
use Rattle.hagzimot_outcomes.proofs.refused_calls.RefusedCalls.total.Given as goal

abbrev pub invariant-loop-left : goal.invariant-loop-left
invariant-loop-left l = total_from l.total l.left ≡ total_from l.fn.self.others l.fn.self.kinds.items

abbrev pub decreases-loop-left : goal.decreases-loop-left
decreases-loop-left l = length l.left
