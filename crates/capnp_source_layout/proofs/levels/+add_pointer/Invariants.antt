-- the outer levels are left
use Rattle.std.proofs.Common.{length}
use Rattle.capnp_source_layout.proofs.levels.+add_pointer.Given as goal

abbrev pub decreases-add_pointer : goal.decreases-add_pointer
decreases-add_pointer l = length l.levels.now
