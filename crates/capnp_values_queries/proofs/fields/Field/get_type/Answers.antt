use Rattle.std.proofs.Common.{◌≡◌, ap, sym, ◌∙◌, Some}
use Rattle.capnp_model.specs.Schemas.{struct}
use Rattle.capnp_records.specs.NodeViews.{field_of, kind_of_field}
use Rattle.capnp_values_queries.specs.Types.{ty_of}
use Rattle.capnp_values_queries.proofs.FieldRecords.{group_type}
use Rattle.capnp_values_queries.proofs.fields.Field.get_type.Goals as goal

pub returns-in-Group-clause-ty : goal.returns-in-Group-clause-ty
returns-in-Group-clause-ty c =
    group_type c.args.self.now.parent c.args.self.now.index (field_of c.get_proto.result.now) c.in-Group.node c.get_proto.ensures (ap kind_of_field c.in-Group.is)
    ∙ ap (λ i. Some (struct i)) (sym c.group_in.ensures.id) ∙ ap (λ t. Some (ty_of t)) (sym c.from.ensures)
