-- the times that are left
use Rattle.capnp_source_layout.proofs.usage.+widen_in_holes.Given as goal

abbrev pub decreases-widen_in_holes : goal.decreases-widen_in_holes
decreases-widen_in_holes l = l.times
