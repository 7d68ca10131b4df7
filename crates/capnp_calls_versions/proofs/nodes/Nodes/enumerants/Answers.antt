use Rattle.std.proofs.Common.{map, sym, ◌∙◌, ap}
use Rattle.capnp_records.specs.NodeViews.{enumerant_of}
use Rattle.capnp_records.specs.Sets.{enumerants_found}
use Rattle.capnp_calls_versions.specs.Holders.{held_nodes}
use Rattle.capnp_calls_versions.proofs.NodesFound.{enum_names, no_enum_names}
use Rattle.capnp_calls_versions.proofs.nodes.Nodes.enumerants.Goals as goal

pub returns-in-Some : goal.returns-in-Some
returns-in-Some c = sym (enum_names (held_nodes c.args.self.now) c.args.id (map enumerant_of c.enumerants.result.now) (ap (enumerants_found (held_nodes c.args.self.now)) (sym c.in-Some.ensures.id) ∙ c.enumerants.ensures))

pub returns-in-None : goal.returns-in-None
returns-in-None c = sym (no_enum_names (held_nodes c.args.self.now) c.args.id c.in-None.ensures.missing)
