use Rattle.capnp_records.specs.Sets.{nodes_of}
use Rattle.capnp_records.proofs.FieldTables.{tables_at}
use Rattle.capnp_records.proofs.set.SchemaSet.field_tables.Goals as goal

pub returns : goal.returns
returns c = tables_at (nodes_of c.args.self.now) c.args.self.now.accepted c.args.self.now.tables.items c.args.self.now.members c.args.self.now.others c.args.self.now.by_name c.args.raw.number c.args.raw.id c.index.result.now c.requires c.index.ensures
