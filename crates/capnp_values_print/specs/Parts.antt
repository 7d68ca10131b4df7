-- The texts of the parts of structs and lists.
use Rattle.std.specs.Prelude.{ℕ, suc, ◌≡◌, Bool, true, false, ◌&&◌, Some, List, Result, Ok, Err}
use Rattle.capnp_model.specs.Trees.{null}
use Rattle.capnp_model.specs.Schemas.{Ty, FieldKind, Field as FieldNode, Schema}
use Rattle.capnp_model.specs.Readings.{is_active}
use Rattle.capnp_model.specs.Accepted.{field_body}
use Rattle.capnp_model.specs.Printing.{Style, as_type, as_body, as_it_is}
use Rattle.capnp_values_queries.specs.Fields.{Entry}
use Rattle.capnp_values_queries.specs.Structs.{schema_around, shape_of_struct, fields_of_struct}
use Rattle.capnp_values_queries.specs.Handles.{entry_of_field, IsFieldRecord}
use Rattle.capnp_values_queries.specs.declared.structs.StructSchema.{StructSchema}
use Rattle.capnp_values_queries.specs.declared.fields.Field.{Field}
use Rattle.capnp_wire.specs.Views.{StructView, ListView}
use Rattle.capnp_units.specs.declared.errors.Error.{Error}
use Rattle.capnp_units.specs.Errors.{kind_of}
use Rattle.capnp_values.specs.GoodDefaults.{KeepsDefault}
use Rattle.capnp_values.specs.Shown.{Shown, shown, kind_shown, discriminant_shown, is_null_slot}
use Rattle.capnp_values_print.specs.declared.fields.Opened.{Opened}
use Rattle.capnp_values_print.specs.ShownReadings.{record_read, elements_read, reading_within, levels_left}
use Rattle.capnp_values_print.specs.Printed.{Text, printed, items_printed, fields_printed, null_printed}
use Rattle.capnp_values_print.specs.Defaults.{enters}
use Rattle.capnp_values_print.specs.Members.{field_read}

-- The fields of a struct, each behind its mark and its name.
abbrev pub fields_text : ℕ → Style → StructSchema → StructView → Text
fields_text left style s v = let around = schema_around s in
    fields_printed around as_it_is (null_printed around as_it_is left) style true (fields_of_struct s) (record_read (reading_within (levels_left v.levels)) around (shape_of_struct s) v)

-- The value of a field.
abbrev pub member_text : ℕ → Style → StructSchema → StructView → Entry → Text
member_text left style s v e = let around = schema_around s in
    printed around as_it_is (null_printed around as_it_is left) style (as_body e.body) (field_read around v (discriminant_shown s v) e)

-- The elements of a list, each behind its mark.
abbrev pub elements_text : ℕ → Style → Schema → Ty → ListView → Text
elements_text left style s ty l =
    items_printed s as_it_is (null_printed s as_it_is left) style (as_type ty null) true (elements_read (reading_within (levels_left l.levels)) s ty l 0 l.count)

-- The field is no member, or its union's active one.
abbrev pub IsActive : StructSchema → StructView → Field → Type 0
IsActive s v f = (e : Entry) → entry_of_field f ≡ Some e → is_active e.member (discriminant_shown s v) ≡ true

-- The field lies behind a null pointer and has a default whose root isn't null.
abbrev pub enters_there : StructView → Schema → FieldKind → Bool
enters_there v s k = is_null_slot v (Some (field_body s.shape_of k)) && enters k

-- n defaults, and one more where one is entered.
abbrev pub defaults_entered : Bool → ℕ → ℕ
defaults_entered false n = n
defaults_entered true n = suc n

-- A field shows this, where n defaults may be entered on the way to it and m within: one that
-- stands for a null pointer is entered.
pub record ShowsMember (left : ℕ) (v : StructView) (f : Field) (x : Shown) (within : ℕ) : Type 0 where
  pub said : FieldNode
  pub is : IsFieldRecord f.parent f.index said
  pub default : KeepsDefault said.kind
  pub shows : kind_shown (schema_around f.parent) v said.kind ≡ Ok x
  pub counts : left ≡ defaults_entered (enters_there v (schema_around f.parent) said.kind) within

-- What a field shows is opened, or there is a fault in place of its text.
abbrev pub OpensMember : {A : Type 0} → (A → List (List ℕ)) → ℕ → StructSchema → StructView → Field → Result (Opened A) Error → Type 0
OpensMember bytes left s v f (Ok o) = ShowsMember left v f (shown bytes o.value) o.left
OpensMember bytes left s v f (Err err) = (e : Entry) → entry_of_field f ≡ Some e → (style : Style) → member_text left style s v e ≡ Err (kind_of err.kind)
