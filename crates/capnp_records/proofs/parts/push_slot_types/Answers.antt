use Rattle.std.proofs.Common.{◌≡◌, ℕ, List, [], ◌++◌, Option, map, refl, sym, ◌∙◌, ap}
use Rattle.std.proofs.lemmas.List.{map_push}
use Rattle.capnp_model.specs.Schemas.{Field, TypeRecord as ModelType}
use Rattle.capnp_model.specs.Accepted.{slot_types}
use Rattle.capnp_records.specs.NodeViews.{type_record_of, kind_of_field, field_of}
use Rattle.capnp_records.specs.declared.node.TypeRecord.{TypeRecord}
use Rattle.capnp_records.specs.declared.node.Value.{Value}
use Rattle.capnp_records.specs.declared.node.FieldBody.{FieldBody}
use Rattle.capnp_records.specs.declared.node.FieldBody.TheVariants as B
use Rattle.capnp_records.proofs.OneMore.{flat_one_more, none_more}
use Rattle.capnp_records.proofs.parts.push_slot_types.Goals as goal
use Rattle.capnp_records.proofs.parts.push_slot_types.Goals.{in-Slot+in_ok-push, in_default}

-- a field that is no slot gives none
no_slot : (b : FieldBody) → ((offset : ℕ) (ty : TypeRecord) (default : Option Value) → b ≡ B.Slot offset ty default → ⊥) → [] ≡ slot_types (kind_of_field b)
no_slot (B.Slot offset ty default) other = absurd (other offset ty default refl)
no_slot (B.Group node) other = refl

pub loop-field-preserved : goal.loop-field-preserved
loop-field-preserved c =
    let body = c.field-item.result.body in
    let now : List ModelType = map type_record_of c.loop-field.types.items in
    let put : map type_record_of c.match-field.types.items ≡ now ++ slot_types (kind_of_field body) = elim c.match-field.branch [
      | in-Slot+in_ok-push w ↦
          ap (λ v. map type_record_of v.items) w.types-is ∙ ap (map type_record_of) w.in_ok-push.ensures.items ∙ map_push type_record_of c.loop-field.types.items w.in-Slot.ty
          ∙ ap (λ (b : FieldBody). now ++ slot_types (kind_of_field b)) (sym w.in-Slot.is)
      | in_default w ↦ ap (λ v. map type_record_of v.items) w.types-is ∙ none_more now ∙ ap (λ (ts : List ModelType). now ++ ts) (no_slot body w.in_default.not-Slot)
    ] in
    flat_one_more (λ (f : Field). slot_types f.kind) field_of (map type_record_of c.args.types.now.items) now (map type_record_of c.match-field.types.items) c.args.fields.now c.loop-field.field-index c.field-item.result
    c.loop-field-test.true c.field-item.is c.loop-field.invariant put
