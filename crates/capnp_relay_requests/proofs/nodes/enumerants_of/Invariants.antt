use Rattle.std.proofs.Common.{◌≡◌, map, Ok}
use Rattle.capnp_records.specs.NodeViews.{enumerant_of}
use Rattle.capnp_wire.specs.Views.{seen_list}
use Rattle.capnp_relay_requests.specs.Annotations.{context_view}
use Rattle.capnp_relay_requests.specs.Nodes.{enumerants_among}
use Rattle.capnp_relay_requests.proofs.nodes.enumerants_of.Given as goal

-- the first ones are read
abbrev pub invariant-loop-index : goal.invariant-loop-index
invariant-loop-index g l = enumerants_among (context_view l.fn.context) l.fn.node (seen_list g.A.ReaderArena.segments l.fn.list) l.index ≡ Ok (map enumerant_of l.enumerants.items)
