use Rattle.std.proofs.Common.{map}
use Rattle.capnp_records.specs.NodeViews.{enumerant_of}
use Rattle.capnp_values_queries.specs.Enums.{nodes_of_enum, enum_id}
use Rattle.capnp_values_queries.proofs.EnumRecords.{enumerants_known}
use Rattle.capnp_values_queries.proofs.enums.EnumSchema.records.Goals as goal

pub returns : goal.returns
returns c = enumerants_known (nodes_of_enum c.args.self) c.args.self.set.now.accepted (enum_id c.args.self) (map enumerant_of c.enumerants.result.now) c.enumerants.ensures
