use Rattle.std.proofs.Common.{ap}
use Rattle.capnp_records.specs.NodeViews.{node_kind, struct_of}
use Rattle.capnp_records.specs.Sets.{has_struct, struct_of_kind}
use Rattle.capnp_records.proofs.FoundNodes.{struct_found_at}
use Rattle.capnp_records.proofs.set.SchemaSet.struct_record.Goals as goal

pub returns : goal.returns
returns c = struct_found_at has_struct c.args.self.now.nodes.items c.args.self.now.accepted c.args.raw.number c.args.raw.id c.index.result.now (struct_of c.in-Struct.record) c.requires c.index.ensures (ap (λ b. struct_of_kind (node_kind b)) c.in-Struct.is)
