use Rattle.std.proofs.Common.{◌-◌, ◌≤◌, length}
use Rattle.hagzimot_salvage.specs.Pieces.{ArePieces}
use Rattle.hagzimot_salvage.proofs.pieces.cut.Given as goal

abbrev pub invariant-loop-at : goal.invariant-loop-at
invariant-loop-at l = record {
  inside : l.at ≤ length l.bytes;
  pieces : ArePieces l.limits l.bytes 0 l.pieces.items l.at;
}

abbrev pub decreases-loop-at : goal.decreases-loop-at
decreases-loop-at l = length l.bytes - l.at
