-- What is put into a slot for a value.
use Rattle.std.proofs.Common.{◌≡◌, ℕ, true, false, Bor, List, Option, Some, None, Result, refl, sym, ap, subst, ◌∙◌}
use Rattle.std.specs.Prelude.{⊤, IfErr, ◌&&◌, Bool, option_map}
use Rattle.capnp_model.specs.Kinds.{SettingDynamicCapabilitiesIsUnsupported}
use Rattle.capnp_model.specs.Schemas.{Ty, struct, Shape, Body, void_slot, plain_slot, pointer_slot, group_slot}
use Rattle.capnp_model.specs.Trees.{Tree}
use Rattle.capnp_model.specs.Calls.{refused_by, object}
use Rattle.capnp_model.specs.Edits.{Cell, Edit, mark, put_child, put_content}
use Rattle.capnp_units.specs.declared.errors.Error.{Error}
use Rattle.capnp_copy_arenas.specs.declared.fields.StructPlace.{StructPlace}
use Rattle.capnp_layout_builders.specs.Making.{ArenaState}
use Rattle.capnp_model.specs.Coverage.{Grows}
use Rattle.capnp_model.specs.Segments.{Segments}
use Rattle.capnp_wire.specs.Views.{StructView}
use Rattle.capnp_values_queries.specs.Fields.{Entry, union_in, shape_id, type_of_body}
use Rattle.capnp_values_queries.specs.declared.structs.StructSchema.{StructSchema}
use Rattle.capnp_values_queries.specs.Structs.{shape_of_struct}
use Rattle.capnp_values_queries.specs.Handles.{entry_of_field, body_of_place}
use Rattle.capnp_values_queries.specs.declared.fields.Field.{Field}
use Rattle.capnp_values_queries.specs.declared.introspect.«Type».{«Type» as CodeType}
use Rattle.capnp_values_queries.specs.declared.slots.FieldPlace.{FieldPlace}
use Rattle.capnp_values_queries.specs.declared.slots.FieldPlace.TheVariants as F
use Rattle.capnp_records.specs.declared.node.Value.{Value}
use Rattle.capnp_values.specs.declared.dynamic_value.Reader.{Reader}
use Rattle.capnp_model.proofs.lemmas.Tests.{same_some}
use Rattle.capnp_schema_structs.specs.Edits.{marked_in}
use Rattle.capnp_schema_structs.specs.Given.{flat_content, set_content, set_entry, set_edit}
use Rattle.capnp_schema_structs.specs.Puts.{HasCause, PutsContent}
use Rattle.capnp_schema_structs.specs.Sources.{SourceView, source_given, StandsIfRefused}
use Rattle.capnp_schema_structs.specs.Begun.{is_untyped}
use Rattle.capnp_schema_structs.specs.Values.{Given, made, copied, fields, is_capability, struct_given, group_refusal, sets_no_group, LeavesUnlessGroup, made_behind, given, value_given, IsPointerBody, IsPointerSlot, entry_edit, content_edit, PutsGiven}
use Rattle.capnp_schema_structs.proofs.lemmas.SetPointers.{marked_last}

-- ---- a copy behind a pointer

body_put : (b : Body) (i : ℕ) (t : Tree) (c : Cell) → IsPointerBody i b → put_content b (object t) c ≡ put_child i t c
body_put (void_slot j) i t c h = absurd h
body_put (plain_slot p at d) i t c h = absurd h
body_put (pointer_slot j ty d) i t c h = ap (λ k. put_child k t c) h
body_put (group_slot g) i t c h = absurd h

entry_put : (union : Option ℕ) (o : Option Entry) (i : ℕ) (t : Tree) (c : Cell) → IsPointerSlot i o → marked_in union o (put_child i t c) ≡ entry_edit union (object t) o c
entry_put union None i t c h = absurd h
entry_put union (Some e) i t c h = marked_last union (Some e) i t c ∙ sym (body_put e.body i t (mark union e.member c) h)

pub field_put : (f : Field) (i : ℕ) → IsPointerSlot i (entry_of_field f) → (t : Tree) (c : Cell) → marked_in (union_in (shape_of_struct f.parent)) (entry_of_field f) (put_child i t c) ≡ content_edit f (object t) c
field_put f i h t c = entry_put (union_in (shape_of_struct f.parent)) (entry_of_field f) i t c h

-- ---- what a body's place says

pub pointer_is : (o : Option Entry) (i : ℕ) (ty : Ty) (d : Option Tree) → option_map (λ e. e.body) o ≡ Some (pointer_slot i ty d) → IsPointerSlot i o
pointer_is None i ty d h = absurd (cc h)
pointer_is (Some e) i ty d h = subst (λ b. IsPointerBody i b) (sym (same_some h)) refl

pub none_given : {X Y : Type 0} (f : X → Y) (r : Option X) (o : Option Y) → option_map f r ≡ o → r ≡ None → o ≡ None
none_given f r o e h = sym e ∙ ap (option_map f) h

pub told : (a b truth : Bool) → a ≡ b → a ≡ truth → b ≡ truth
told a b truth e h = sym e ∙ h

module _ {A : Type 0} (bytes : A → List (List ℕ)) (v : Reader A) where
  given_is : (o : Option Entry) (b : Body) → option_map (λ e. e.body) o ≡ Some b → value_given bytes v o ≡ given bytes v b
  given_is None b h = absurd (cc h)
  given_is (Some e) b h = ap (given bytes v) (same_some h)

  set_is : (o : Option Entry) (b : Body) → option_map (λ e. e.body) o ≡ Some b → set_content v o ≡ flat_content v b
  set_is None b h = absurd (cc h)
  set_is (Some e) b h = ap (flat_content v) (same_some h)

  pub copy_given : (o : Option Entry) (i : ℕ) (ty : Ty) (d : Option Tree) (x : SourceView) → option_map (λ e. e.body) o ≡ Some (pointer_slot i ty d) → source_given bytes v ty ≡ Some x → value_given bytes v o ≡ copied x
  copy_given o i ty d x h e =
      given_is o (pointer_slot i ty d) h ∙ ap (λ (g : Option SourceView). elim g as (λ _. Given) [ Some y ↦ copied y | None ↦ made (made_behind (is_untyped ty && is_capability v) v (pointer_slot i ty d)) ]) e

  other_behind : (o : Option SourceView) (i : ℕ) (ty : Ty) (d : Option Tree) → source_given bytes v ty ≡ None → given bytes v (pointer_slot i ty d) ≡ made (made_behind (is_untyped ty && is_capability v) v (pointer_slot i ty d))
  other_behind o i ty d e = ap (λ (g : Option SourceView). elim g as (λ _. Given) [ Some y ↦ copied y | None ↦ made (made_behind (is_untyped ty && is_capability v) v (pointer_slot i ty d)) ]) e

  pub flat_behind : (o : Option Entry) (i : ℕ) (ty : Ty) (d : Option Tree) → option_map (λ e. e.body) o ≡ Some (pointer_slot i ty d) → source_given bytes v ty ≡ None → is_untyped ty && is_capability v ≡ false → value_given bytes v o ≡ made (set_content v o)
  flat_behind o i ty d h none other =
      given_is o (pointer_slot i ty d) h ∙ other_behind None i ty d none ∙ ap (λ (b : Bool). made (made_behind b v (pointer_slot i ty d))) other ∙ ap made (sym (set_is o (pointer_slot i ty d) h))

  pub capability_behind : (o : Option Entry) (i : ℕ) (ty : Ty) (d : Option Tree) → option_map (λ e. e.body) o ≡ Some (pointer_slot i ty d) → source_given bytes v ty ≡ None → is_untyped ty && is_capability v ≡ true → value_given bytes v o ≡ made (refused_by SettingDynamicCapabilitiesIsUnsupported)
  capability_behind o i ty d h none is_one =
      given_is o (pointer_slot i ty d) h ∙ other_behind None i ty d none ∙ ap (λ (b : Bool). made (made_behind b v (pointer_slot i ty d))) is_one

  made_elsewhere : (f : FieldPlace) → ((i : ℕ) (ty : CodeType) (d : Option (Bor Value)) → f ≡ F.Pointer i ty d → ⊥) → ((g : StructSchema) → f ≡ F.Group g → ⊥) → given bytes v (body_of_place f) ≡ made (flat_content v (body_of_place f))
  made_elsewhere (F.Void o) other slot = refl
  made_elsewhere (F.Plain ty o d) other slot = refl
  made_elsewhere (F.Pointer i ty d) other slot = absurd (other i ty d refl)
  made_elsewhere (F.Group g) other slot = absurd (slot g refl)

  pub flat_elsewhere : (o : Option Entry) (f : FieldPlace) → option_map (λ e. e.body) o ≡ Some (body_of_place f) → ((i : ℕ) (ty : CodeType) (d : Option (Bor Value)) → f ≡ F.Pointer i ty d → ⊥) → ((g : StructSchema) → f ≡ F.Group g → ⊥) → value_given bytes v o ≡ made (set_content v o)
  flat_elsewhere o f h other slot = given_is o (body_of_place f) h ∙ made_elsewhere f other slot ∙ ap made (sym (set_is o (body_of_place f) h))

  -- ---- groups

  abbrev by_struct : Option StructView → Given
  by_struct o = elim o as (λ _. Given) [ Some x ↦ fields x | None ↦ made (refused_by (group_refusal v)) ]

  pub fields_given : (o : Option Entry) (g : Shape) (x : StructView) → option_map (λ e. e.body) o ≡ Some (group_slot g) → struct_given bytes v (struct (shape_id g)) ≡ Some x → value_given bytes v o ≡ fields x
  fields_given o g x h e = given_is o (group_slot g) h ∙ ap by_struct e

  pub group_refused : (o : Option Entry) (g : Shape) → option_map (λ e. e.body) o ≡ Some (group_slot g) → struct_given bytes v (struct (shape_id g)) ≡ None → value_given bytes v o ≡ made (refused_by (group_refusal v))
  group_refused o g h e = given_is o (group_slot g) h ∙ ap by_struct e

  -- ---- what is put

  edit_same : (union : Option ℕ) (o : Option Entry) → set_entry union v o ≡ entry_edit union (set_content v o) o
  edit_same union None = refl
  edit_same union (Some e) = refl

  pub flat_puts : (old new : ArenaState) (p : StructPlace) (f : Field) (r : Result ⊤ Error) (told : Error → Type 0) → value_given bytes v (entry_of_field f) ≡ made (set_content v (entry_of_field f))
      → PutsContent old new p (set_edit f v) (set_content v (entry_of_field f)) r → IfErr r (HasCause (set_content v (entry_of_field f)) told) → PutsGiven told old new p f (value_given bytes v (entry_of_field f)) r
  flat_puts old new p f r told e h cause =
      let union = union_in (shape_of_struct f.parent) in
      let k = set_content v (entry_of_field f) in
      let put : PutsContent old new p (content_edit f k) k r = subst (λ (x : Edit). PutsContent old new p x k r) (edit_same union (entry_of_field f)) h in
      subst (λ (x : Given). PutsGiven told old new p f x r) (sym e) (put, cause)

  pub given_puts : (told : Error → Type 0) (old new : ArenaState) (p : StructPlace) (f : Field) (g : Given) (r : Result ⊤ Error) → value_given bytes v (entry_of_field f) ≡ g → PutsGiven told old new p f g r → PutsGiven told old new p f (value_given bytes v (entry_of_field f)) r
  given_puts told old new p f g r e h = subst (λ (x : Given). PutsGiven told old new p f x r) (sym e) h

-- the type of a group's field
pub group_type : (o : Option Entry) (b : Body) (t : Ty) → option_map (λ e. e.body) o ≡ Some b → option_map (λ e. type_of_body e.body) o ≡ Some t → t ≡ type_of_body b
group_type None b t h k = absurd (cc h)
group_type (Some e) b t h k = sym (same_some k) ∙ ap type_of_body (same_some h)

-- ---- what is there later

pub leaves_of : (g : Given) (s u : Segments) (r : Result ⊤ Error) → StandsIfRefused s u r → LeavesUnlessGroup g s u r
leaves_of g s u r h = record { grows = h.grows; stands = λ _. h.refused }

pub leaves_group : (g : Given) (x : StructView) (s u : Segments) (r : Result ⊤ Error) → g ≡ fields x → Grows s u → LeavesUnlessGroup g s u r
leaves_group g x s u r e h = record { grows = h; stands = λ (no : sets_no_group g ≡ true). absurd (cc (e, no)) }
