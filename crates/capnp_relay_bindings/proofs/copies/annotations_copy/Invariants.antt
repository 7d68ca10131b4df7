-- the copies and what is left make the whole
use Rattle.std.proofs.Common.{◌≡◌, ◌++◌, map, length}
use Rattle.capnp_records.specs.NodeViews.{annotation_of}
use Rattle.capnp_relay_bindings.proofs.copies.annotations_copy.Given as goal

abbrev pub invariant-loop-left : goal.invariant-loop-left
invariant-loop-left l = map annotation_of l.copies.items ++ map annotation_of l.left ≡ map annotation_of l.fn.annotations

abbrev pub decreases-loop-left : goal.decreases-loop-left
decreases-loop-left l = length l.left
