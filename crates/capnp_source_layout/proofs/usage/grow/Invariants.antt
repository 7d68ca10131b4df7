-- the holes that are missing
use Rattle.std.proofs.Common.{◌-◌, vec_len}
use Rattle.capnp_source_layout.proofs.usage.grow.Given as goal

abbrev pub decreases-loop-hole : goal.decreases-loop-hole
decreases-loop-hole l = l.size - vec_len l.holes
