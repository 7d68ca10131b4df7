use Rattle.capnp_records.specs.Sets.{has_struct}
use Rattle.capnp_records.proofs.FoundNodes.{node_found}
use Rattle.capnp_records.proofs.set.SchemaSet.struct_node.Goals as goal

pub returns : goal.returns
returns c = node_found has_struct c.args.self.now.nodes.items c.args.self.now.accepted c.args.raw.number c.args.raw.id c.index.result.now c.requires c.index.ensures
