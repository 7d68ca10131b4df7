use Rattle.std.proofs.Common.{sym, ◌∙◌, ap}
use Rattle.capnp_records.specs.NodeViews.{struct_of}
use Rattle.capnp_records.specs.Sets.{struct_found}
use Rattle.capnp_calls_versions.specs.Holders.{held_nodes}
use Rattle.capnp_calls_versions.proofs.NodesFound.{struct_group, no_struct_group}
use Rattle.capnp_calls_versions.proofs.nodes.Nodes.is_group.Goals as goal

pub returns-in-Some : goal.returns-in-Some
returns-in-Some c = sym (struct_group (held_nodes c.args.self.now) c.args.id (struct_of c.struct_record.result.now) (ap (struct_found (held_nodes c.args.self.now)) (sym c.in-Some.ensures.id) ∙ c.struct_record.ensures))

pub returns-in-None : goal.returns-in-None
returns-in-None c = sym (no_struct_group (held_nodes c.args.self.now) c.args.id c.in-None.ensures.missing)
