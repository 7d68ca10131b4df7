-- Which fields enter their defaults.
use Rattle.std.proofs.Common.{◌≡◌, ◌&&◌, not, Bool, true, false, Option, Some, option_map, refl, ap, sym, ◌∙◌, slice_get}
use Rattle.capnp_model.specs.Schemas.{Field as FieldNode}
use Rattle.capnp_model.specs.Readings.{is_active}
use Rattle.capnp_model.specs.Accepted.{field_body}
use Rattle.capnp_values_queries.specs.Fields.{Entry, entry_in}
use Rattle.capnp_values_queries.specs.Structs.{schema_around, fields_recorded}
use Rattle.capnp_values_queries.specs.Handles.{IsFieldRecord}
use Rattle.capnp_values_queries.specs.declared.structs.StructSchema.{StructSchema}
use Rattle.capnp_values_queries.specs.declared.fields.Field.{Field}
use Rattle.capnp_wire.specs.Views.{StructView}
use Rattle.capnp_values.specs.Shown.{discriminant_shown, is_active_field, is_null_slot, has_field}
use Rattle.capnp_values_print.specs.Defaults.{enters}
use Rattle.capnp_values_print.specs.Parts.{IsActive, enters_there}

module _ (s : StructSchema) (v : StructView) (f : Field) (said : FieldNode) (parent : f.parent ≡ s) (is : IsFieldRecord f.parent f.index said) (live : IsActive s v f) where
  active : is_active said.member (discriminant_shown s v) ≡ true
  active = live (entry_in (schema_around f.parent) said) is.entry

  has_is : has_field v f ≡ not (is_null_slot v (Some (field_body (schema_around f.parent).shape_of said.kind)))
  has_is =
      ap (λ (o : Option Entry). is_active_field (discriminant_shown f.parent v) (option_map (λ x. x.member) o) && not (is_null_slot v (option_map (λ x. x.body) o))) is.entry
      ∙ ap (λ (z : StructSchema). is_active said.member (discriminant_shown z v) && not (is_null_slot v (Some (field_body (schema_around f.parent).shape_of said.kind)))) parent
      ∙ ap (λ a. a && not (is_null_slot v (Some (field_body (schema_around f.parent).shape_of said.kind)))) active

  first : (o : Option FieldNode) (x y : FieldNode) → o ≡ Some x → o ≡ Some y → x ≡ y
  first o x y p q = cc

  -- one without a default enters none
  pub by_record : (b : Bool) (other : FieldNode) → IsFieldRecord f.parent f.index other → b ≡ enters other.kind → b ≡ false → false ≡ enters_there v (schema_around f.parent) said.kind
  by_record b other its told none =
      let same : other ≡ said = first (slice_get (fields_recorded f.parent) f.index) other said its.recorded is.recorded in
      by (is_null_slot v (Some (field_body (schema_around f.parent).shape_of said.kind))) (enters said.kind) (sym none ∙ told ∙ ap (λ (x : FieldNode). enters x.kind) same)
    where
      by : (n e : Bool) → false ≡ e → false ≡ (n && e)
      by true e h = h
      by false e h = refl

  -- one with a default enters it where it is null
  pub by_presence : (has b : Bool) (other : FieldNode) → has_field v f ≡ has → IsFieldRecord f.parent f.index other → b ≡ enters other.kind → b ≡ true → not has ≡ enters_there v (schema_around f.parent) said.kind
  by_presence has b other h its told some =
      let same : other ≡ said = first (slice_get (fields_recorded f.parent) f.index) other said its.recorded is.recorded in
      by has (is_null_slot v (Some (field_body (schema_around f.parent).shape_of said.kind))) (enters said.kind) (sym h ∙ has_is) (sym some ∙ told ∙ ap (λ (x : FieldNode). enters x.kind) same)
    where
      by : (has n e : Bool) → has ≡ not n → true ≡ e → not has ≡ (n && e)
      by has true e h k = ap not h ∙ k
      by has false e h k = ap not h
