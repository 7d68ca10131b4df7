use Rattle.capnp_values_queries.specs.Structs.{nodes_around, id_of}
use Rattle.capnp_values_queries.proofs.Tabled.{tabled}
use Rattle.capnp_values_queries.proofs.structs.StructSchema.tables.Goals as goal

pub returns : goal.returns
returns c = tabled (nodes_around c.args.self) c.args.self.set.now.accepted c.args.self.raw.number (id_of c.args.self) c.args.self.known c.field_tables.result.now c.field_tables.ensures
