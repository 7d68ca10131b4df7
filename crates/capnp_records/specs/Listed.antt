-- The nodes that a check goes over.
use Rattle.std.specs.Prelude.{List, map}
use Rattle.capnp_model.specs.Schemas.{Node}
use Rattle.capnp_records.specs.NodeViews.{node_of}
use Rattle.capnp_records.specs.declared.nodes.Nodes.{Nodes}

-- The nodes, as the model has them.
abbrev pub listed : Nodes → List Node
listed nodes = map node_of nodes.records.now
