-- the outer levels are left
use Rattle.std.proofs.Common.{length}
use Rattle.capnp_source_layout.proofs.levels.+add_data.Given as goal

abbrev pub decreases-add_data : goal.decreases-add_data
decreases-add_data l = length l.levels.now
