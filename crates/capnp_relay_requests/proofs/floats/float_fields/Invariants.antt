use Rattle.std.proofs.Common.{◌≡◌, map}
use Rattle.capnp_wire.specs.Views.{seen_list}
use Rattle.capnp_relay_requests.specs.Floats.{floats_of_nodes, float_told}
use Rattle.capnp_relay_requests.proofs.floats.float_fields.Given as goal

-- those of the first i nodes are found
abbrev pub invariant-loop-i : goal.invariant-loop-i
invariant-loop-i g l = map float_told l.found.items ≡ floats_of_nodes (seen_list g.A.ReaderArena.segments l.fn.nodes) l.i
