use Rattle.capnp_values_queries.proofs.RawNodes as raw
use Rattle.capnp_values_queries.proofs.laws.struct_is_node.Goals as goal

pub returns : goal.returns
returns c = raw.struct_is_node
