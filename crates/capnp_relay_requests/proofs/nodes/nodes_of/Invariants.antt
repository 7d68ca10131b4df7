use Rattle.std.proofs.Common.{◌≡◌, map, Ok}
use Rattle.capnp_records.specs.NodeViews.{node_of}
use Rattle.capnp_wire.specs.Views.{seen_list}
use Rattle.capnp_relay_requests.specs.Annotations.{context_view}
use Rattle.capnp_relay_requests.specs.Nodes.{nodes_among}
use Rattle.capnp_relay_requests.proofs.nodes.nodes_of.Given as goal

-- the first i are read
abbrev pub invariant-loop-i : goal.invariant-loop-i
invariant-loop-i g l = nodes_among (context_view l.fn.context) (seen_list g.A.ReaderArena.segments l.fn.list) l.i ≡ Ok (map node_of l.nodes.items)
