-- the outer levels are left
use Rattle.std.proofs.Common.{◌+◌, ◌*◌, length}
use Rattle.capnp_source_layout.proofs.levels.+widening.Given as goal

abbrev pub decreases-widen : goal.decreases-widen
decreases-widen l = 2 * length l.levels.now

abbrev pub decreases-widen_at : goal.decreases-widen_at
decreases-widen_at l = 2 * length l.outer.now + 1
