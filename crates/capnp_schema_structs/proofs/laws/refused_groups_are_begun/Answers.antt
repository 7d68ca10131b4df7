use Rattle.std.proofs.Common.{refl, sym, ap, ◌∙◌}
use Rattle.capnp_values_queries.specs.Fields.{union_in}
use Rattle.capnp_values_queries.specs.Structs.{schema_around, shape_of_struct}
use Rattle.capnp_schema_structs.specs.GroupWrites.{in_words}
use Rattle.capnp_schema_structs.specs.GroupSets.{entry_writes}
use Rattle.capnp_schema_structs.proofs.lemmas.FieldWrites.{group_writes_are}
use Rattle.capnp_schema_structs.proofs.laws.refused_groups_are_begun.Goals as goal

pub returns : goal.returns
returns c f e g from old front back is body same =
    let s = schema_around f.parent in
    let union = union_in (shape_of_struct f.parent) in
    (front, back, sym (ap (λ o. entry_writes s union o (in_words from)) is ∙ group_writes_are s union e g body from) ∙ same, refl)
