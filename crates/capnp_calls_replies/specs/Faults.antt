-- What groups are refused by that are set to structs. (Encoding, "Structs")
use Rattle.std.specs.Prelude.{◌≡◌, Bool, true, false, ◌&&◌, ◌||◌, if◌then◌else◌, Option, Some, None}
use Rattle.capnp_model.specs.Kinds.{Kind, CannotSetAnyPointerFieldToAPrimitiveValue, SettingDynamicCapabilitiesIsUnsupported, UnreadablePointer}
use Rattle.capnp_model.specs.Schemas.{Ty, void, plain, text, blob, untyped, interface, struct, list}
use Rattle.capnp_model.specs.Readings.{Reading, record_as, Record}
use Rattle.capnp_model.specs.Groups.{is_turn, body_fault}
use Rattle.capnp_wire.specs.Views.{StructView}
use Rattle.capnp_values_queries.specs.Fields.{Entry}
use Rattle.capnp_values_queries.specs.Structs.{schema_around, shape_of_struct}
use Rattle.capnp_values_queries.specs.Handles.{entry_of_field}
use Rattle.capnp_values_queries.specs.declared.structs.StructSchema.{StructSchema}
use Rattle.capnp_values_queries.specs.declared.fields.Field.{Field}
use Rattle.capnp_values.specs.Standing.{IsRecord}
use Rattle.capnp_values.specs.Records.{reading_at_index}

-- What is said of the record of a struct that stands where it is read.
abbrev pub OfRecord : StructSchema → StructView → (Record → Type 0) → Type 0
OfRecord root v says = (r : Record) → IsRecord (schema_around root) (shape_of_struct root) v (record_as r) → says r

-- What is said of a field of it, and of the reading that the record has of the field.
abbrev pub OfEntry : Field → StructView → (Entry → Reading → Type 0) → Type 0
OfEntry f v says = (e : Entry) (r : Record) → entry_of_field f ≡ Some e → IsRecord (schema_around f.parent) (shape_of_struct f.parent) v (record_as r) → says e (reading_at_index f.index r)

-- The fault of a field, where it is a member's turn or that of the others.
abbrev pub entry_fault : Bool → Entry → Reading → Option Kind
entry_fault members e x = elim (is_turn members e.member x) [ true ↦ body_fault members e.body x | false ↦ None ]

-- The kind, if it is refused.
abbrev pub refused_if : Bool → Kind → Option Kind
refused_if b kind = if b then Some kind else None

-- What a slot of a type is refused by, of a member or of another field, by whether its pointer is there and what is there can't be read.
abbrev pub refusal_of : Ty → Bool → Bool → Bool → Option Kind
refusal_of untyped members there bad = refused_if (members || there) CannotSetAnyPointerFieldToAPrimitiveValue
refusal_of interface members there bad = refused_if (members || there) SettingDynamicCapabilitiesIsUnsupported
refusal_of text members there bad = refused_if (there && bad) UnreadablePointer
refusal_of blob members there bad = refused_if (there && bad) UnreadablePointer
refusal_of (struct id) members there bad = refused_if (there && bad) UnreadablePointer
refusal_of (list ty) members there bad = refused_if (there && bad) UnreadablePointer
refusal_of void members there bad = None
refusal_of (plain p) members there bad = None
