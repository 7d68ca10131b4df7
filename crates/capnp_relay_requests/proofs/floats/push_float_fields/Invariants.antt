use Rattle.std.proofs.Common.{◌≡◌, ◌++◌, map}
use Rattle.capnp_wire.specs.Views.{seen_list}
use Rattle.capnp_relay_requests.specs.Floats.{floats_among, float_told}
use Rattle.capnp_relay_requests.proofs.floats.push_float_fields.Given as goal

-- those among the first fields are put behind the others
abbrev pub invariant-loop-index : goal.invariant-loop-index
invariant-loop-index g l = map float_told l.found.items ≡ map float_told l.fn.found.items ++ floats_among l.fn.node (seen_list g.A.ReaderArena.segments l.fn.fields) l.index
