-- The nodes whose parameters are bound.
use Rattle.std.specs.Prelude.{◌≡◌, ℕ, Some, List, slice_get}
use Rattle.capnp_relay_bindings.specs.declared.bound.BoundNode.{BoundNode}
use Rattle.capnp_relay_bindings.specs.declared.bound.BoundNodes.{BoundNodes}

-- The nodes, in the order in which they were found.
abbrev pub bound_nodes : BoundNodes → List BoundNode
bound_nodes b = b.nodes.items

-- The node is one of these, and has the id.
abbrev pub IsNodeIn : List BoundNode → ℕ → BoundNode → Type 0
IsNodeIn nodes id node = (node.id ≡ id) × ((i : ℕ) × (slice_get nodes i ≡ Some node))
