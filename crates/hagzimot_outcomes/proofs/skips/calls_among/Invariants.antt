-- what is left comes behind what is told
use Rattle.std.proofs.Common.{◌≡◌, ◌++◌, length}
use Rattle.std.specs.Vec.Iter.{into_iter_items}
use Rattle.hagzimot_outcomes.specs.Skips.{all_calls}
use Rattle.hagzimot_outcomes.proofs.skips.calls_among.Given as goal

abbrev pub invariant-loop-rest : goal.invariant-loop-rest
invariant-loop-rest l = l.calls.items ++ all_calls l.bits l.rest (into_iter_items l.left) ≡ all_calls l.bits l.fn.probes l.fn.ran.items

abbrev pub decreases-loop-rest : goal.decreases-loop-rest
decreases-loop-rest l = length l.rest
