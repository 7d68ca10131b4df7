-- what is left is put behind what is there
use Rattle.std.proofs.Common.{◌≡◌, length}
use Rattle.hagzimot_schemas.specs.Interfaces.{with_pairs, IsKnown}
use Rattle.hagzimot_schemas.proofs.interfaces.Pairs.reach_all.Given as goal

abbrev pub invariant-loop-left : goal.invariant-loop-left
invariant-loop-left l = record {
  same : with_pairs l.self.pairs.items l.left ≡ with_pairs l.fn.self.pairs.items l.fn.pairs;
  known : IsKnown l.self;
}

abbrev pub decreases-loop-left : goal.decreases-loop-left
decreases-loop-left l = length l.left
