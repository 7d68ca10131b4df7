-- the usages that are missing
use Rattle.std.proofs.Common.{◌-◌, vec_len}
use Rattle.capnp_source_layout.proofs.levels.cover.Given as goal

abbrev pub decreases-loop-usages : goal.decreases-loop-usages
decreases-loop-usages l = l.count - vec_len l.usages
