use Rattle.std.proofs.Common.{length}
use Rattle.bench.proofs.packing.whole_length.Given as goal

abbrev pub decreases-loop-size : goal.decreases-loop-size
decreases-loop-size l = length l.left
