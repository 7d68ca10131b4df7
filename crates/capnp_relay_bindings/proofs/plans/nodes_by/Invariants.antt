-- what is made, with what is left behind it, is the whole
use Rattle.std.proofs.Common.{◌≡◌, map, length}
use Rattle.capnp_records.specs.NodeViews.{node_of}
use Rattle.capnp_relay_bindings.specs.Plans.{planned_onto, planned_nodes}
use Rattle.capnp_relay_bindings.proofs.plans.nodes_by.Given as goal

abbrev pub invariant-loop-left : goal.invariant-loop-left
invariant-loop-left l = planned_onto (map node_of l.fn.told) (map node_of l.nodes.items) l.left ≡ planned_nodes (map node_of l.fn.told) l.fn.plans

abbrev pub decreases-loop-left : goal.decreases-loop-left
decreases-loop-left l = length l.left
