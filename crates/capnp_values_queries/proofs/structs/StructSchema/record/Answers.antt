use Rattle.capnp_records.specs.NodeViews.{struct_of}
use Rattle.capnp_values_queries.specs.Structs.{nodes_around, id_of}
use Rattle.capnp_values_queries.proofs.lemmas.Records.{record_known}
use Rattle.capnp_values_queries.proofs.structs.StructSchema.record.Goals as goal

pub returns : goal.returns
returns c = record_known (nodes_around c.args.self.now) c.args.self.now.set.now.accepted (id_of c.args.self.now) (struct_of c.struct_record.result.now) c.struct_record.ensures
