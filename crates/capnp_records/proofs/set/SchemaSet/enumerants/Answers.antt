use Rattle.std.proofs.Common.{map, ap, sym, ◌∙◌, Some}
use Rattle.capnp_model.specs.Accepted.{is_enum_node}
use Rattle.capnp_records.specs.NodeViews.{node_kind, enumerant_of}
use Rattle.capnp_records.specs.Sets.{enumerants_in}
use Rattle.capnp_records.proofs.FoundNodes.{enum_found_at}
use Rattle.capnp_records.proofs.set.SchemaSet.enumerants.Goals as goal

pub returns : goal.returns
returns c = enum_found_at is_enum_node c.args.self.now.nodes.items c.args.self.now.accepted c.args.raw.number c.args.raw.id c.index.result.now (map enumerant_of c.deref.result.now) c.requires c.index.ensures
    (ap (λ b. enumerants_in (node_kind b)) c.in-Enum.is ∙ ap (λ xs. Some (map enumerant_of xs)) (sym c.deref.ensures.value))
