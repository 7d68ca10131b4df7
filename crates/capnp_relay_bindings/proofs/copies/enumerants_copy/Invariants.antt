-- the copies and what is left make the whole
use Rattle.std.proofs.Common.{◌≡◌, ◌++◌, map, length}
use Rattle.capnp_records.specs.NodeViews.{enumerant_of}
use Rattle.capnp_relay_bindings.proofs.copies.enumerants_copy.Given as goal

abbrev pub invariant-loop-left : goal.invariant-loop-left
invariant-loop-left l = map enumerant_of l.copies.items ++ map enumerant_of l.left ≡ map enumerant_of l.fn.enumerants

abbrev pub decreases-loop-left : goal.decreases-loop-left
decreases-loop-left l = length l.left
