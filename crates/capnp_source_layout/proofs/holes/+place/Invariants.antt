-- the larger sizes are left
use Rattle.std.proofs.Common.{◌-◌, length}
use Rattle.capnp_source_layout.proofs.holes.+place.Given as goal

abbrev pub decreases-place : goal.decreases-place
decreases-place l = length l.holes.now - l.size
