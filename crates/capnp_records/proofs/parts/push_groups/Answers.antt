use Rattle.std.proofs.Common.{◌≡◌, ℕ, List, [], ◌++◌, refl, sym, ◌∙◌, ap}
use Rattle.capnp_model.specs.Schemas.{Field}
use Rattle.capnp_model.specs.Accepted.{groups_of_field}
use Rattle.capnp_records.specs.NodeViews.{kind_of_field, field_of}
use Rattle.capnp_records.specs.declared.node.FieldBody.{FieldBody}
use Rattle.capnp_records.specs.declared.node.FieldBody.TheVariants as B
use Rattle.capnp_records.proofs.OneMore.{flat_one_more, none_more}
use Rattle.capnp_records.proofs.parts.push_groups.Goals as goal
use Rattle.capnp_records.proofs.parts.push_groups.Goals.{in-Group+in_ok-push, in_default}

-- a field that is no group gives none
no_group : (b : FieldBody) → ((node : ℕ) → b ≡ B.Group node → ⊥) → [] ≡ groups_of_field (kind_of_field b)
no_group (B.Slot offset ty default) other = refl
no_group (B.Group node) other = absurd (other node refl)

pub loop-field-preserved : goal.loop-field-preserved
loop-field-preserved c =
    let body = c.field-item.result.body in
    let now = c.loop-field.groups.items in
    let put : c.match-field.groups.items ≡ now ++ groups_of_field (kind_of_field body) = elim c.match-field.branch [
      | in-Group+in_ok-push w ↦ ap (λ v. v.items) w.groups-is ∙ w.in_ok-push.ensures.items ∙ ap (λ (b : FieldBody). now ++ groups_of_field (kind_of_field b)) (sym w.in-Group.is)
      | in_default w ↦ ap (λ v. v.items) w.groups-is ∙ none_more now ∙ ap (λ (gs : List ℕ). now ++ gs) (no_group body w.in_default.not-Group)
    ] in
    flat_one_more (λ (f : Field). groups_of_field f.kind) field_of c.args.groups.now.items now c.match-field.groups.items c.args.fields.now c.loop-field.field-index c.field-item.result
    c.loop-field-test.true c.field-item.is c.loop-field.invariant put
