use Rattle.std.proofs.Common.{◌≡◌, map, Ok}
use Rattle.capnp_records.specs.NodeViews.{annotation_of}
use Rattle.capnp_wire.specs.Views.{seen_list}
use Rattle.capnp_relay_requests.specs.Annotations.{context_view, annotations_among}
use Rattle.capnp_relay_requests.proofs.annotations.annotations_of.Given as goal

-- the first i are read
abbrev pub invariant-loop-i : goal.invariant-loop-i
invariant-loop-i g l = annotations_among (context_view l.fn.context) l.fn.spot (seen_list g.A.ReaderArena.segments l.fn.list) l.i ≡ Ok (map annotation_of l.annotations.items)
