use Rattle.capnp_model.specs.Accepted.{is_enum_node}
use Rattle.capnp_records.proofs.FoundNodes.{node_found}
use Rattle.capnp_records.proofs.set.SchemaSet.enum_node.Goals as goal

pub returns : goal.returns
returns c = node_found is_enum_node c.args.self.now.nodes.items c.args.self.now.accepted c.args.raw.number c.args.raw.id c.index.result.now c.requires c.index.ensures
