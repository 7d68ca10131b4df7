use Rattle.std.proofs.Common.{◌-◌, length}
use Rattle.hagzimot_salvage.proofs.Adjacent.{SettledTo}
use Rattle.hagzimot_salvage.proofs.pieces.settled_run.Given as goal

abbrev pub invariant-loop-len : goal.invariant-loop-len
invariant-loop-len l = SettledTo l.limits l.bytes l.at l.end l.number

abbrev pub decreases-loop-len : goal.decreases-loop-len
decreases-loop-len l = length l.bytes - l.end
