-- the outer levels are left
use Rattle.std.proofs.Common.{length}
use Rattle.capnp_source_layout.proofs.levels.+join.Given as goal

abbrev pub decreases-join : goal.decreases-join
decreases-join l = length l.levels.now
