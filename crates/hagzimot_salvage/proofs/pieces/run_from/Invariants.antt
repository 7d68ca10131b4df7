use Rattle.std.proofs.Common.{◌-◌, length}
use Rattle.hagzimot_salvage.proofs.Adjacent.{RunsTo}
use Rattle.hagzimot_salvage.proofs.pieces.run_from.Given as goal

abbrev pub invariant-loop-len : goal.invariant-loop-len
invariant-loop-len l = RunsTo l.limit l.bytes l.at l.end l.count

abbrev pub decreases-loop-len : goal.decreases-loop-len
decreases-loop-len l = length l.bytes - l.end
