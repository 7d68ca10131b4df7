use Rattle.std.proofs.Common.{◌≡◌, Some, map, length}
use Rattle.capnp_model.specs.Accepted.{meets_below}
use Rattle.capnp_records.specs.NodeViews.{node_of}
use Rattle.capnp_records.proofs.Below.{meets_in}
use Rattle.capnp_records.proofs.groups.meets_itself.Given as goal

-- the levels that are left decide
abbrev pub invariant-loop-left : goal.invariant-loop-left
invariant-loop-left l = meets_in (map node_of l.fn.nodes.records.now) l.fn.node.id l.left l.ids.items ≡ meets_below (map node_of l.fn.nodes.records.now) (length l.fn.nodes.records.now) l.fn.node.id (Some (node_of l.fn.node))

abbrev pub decreases-loop-left : goal.decreases-loop-left
decreases-loop-left l = l.left
