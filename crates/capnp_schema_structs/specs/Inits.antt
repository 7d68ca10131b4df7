-- Structs that `init` puts into slots. (Encoding, "Structs")
use Rattle.std.specs.Prelude.{◌≡◌, ℕ, ◌+◌, Bool, true, false, Option, Some, None, Result}
use Rattle.capnp_model.specs.Kinds.{Kind, TypeMismatch, InitIsOnlyValidForStructAndAnyPointerFields}
use Rattle.capnp_model.specs.Segments.{Segments, after}
use Rattle.capnp_model.specs.Schemas.{Ty, void, plain, text, blob, untyped, interface, struct, list, Shape, Schema, Body, void_slot, plain_slot, pointer_slot, group_slot, words_of_shape, pointers_of_shape}
use Rattle.capnp_model.specs.Trees.{Trees, structure}
use Rattle.capnp_model.specs.Calls.{Content, refused_by, bits_of, object, empty_struct, init}
use Rattle.capnp_units.specs.declared.errors.Error.{Error}
use Rattle.capnp_wire_objects.specs.Places.{place_view}
use Rattle.capnp_model_writes.specs.Footprints.{OwnsObject}
use Rattle.capnp_wire_objects.specs.declared.place.Place as code
use Rattle.capnp_copy_arenas.specs.Structs.{object_of_struct}
use Rattle.capnp_copy_arenas.specs.Values.{LeadsTo}
use Rattle.capnp_copy_arenas.specs.declared.fields.StructPlace.{StructPlace}
use Rattle.capnp_layout_builders.specs.Making.{ArenaState, Makes, WordsRefused, Stays}
use Rattle.capnp_values_queries.specs.Fields.{Entry}
use Rattle.capnp_values_queries.specs.Structs.{schema_around, id_of}
use Rattle.capnp_values_queries.specs.Handles.{entry_of_field}
use Rattle.capnp_values_queries.specs.declared.structs.StructSchema.{StructSchema}
use Rattle.capnp_values_queries.specs.declared.fields.Field.{Field}
use Rattle.capnp_schema_structs.specs.Calls.{edit_of}
use Rattle.capnp_schema_structs.specs.Puts.{PutsContent}
use Rattle.capnp_schema_structs.specs.declared.init.Part.{Part}

-- The id of the struct that a type names, if it is a struct's.
abbrev pub struct_named : Ty → Option ℕ
struct_named void = None
struct_named (plain p) = None
struct_named text = None
struct_named blob = None
struct_named untyped = None
struct_named interface = None
struct_named (struct id) = Some id
struct_named (list ty) = None

-- Why no struct is made in a slot of another pointer's type; an untyped one may hold a struct, but names none.
abbrev pub no_struct : Ty → Kind
no_struct void = InitIsOnlyValidForStructAndAnyPointerFields
no_struct (plain p) = InitIsOnlyValidForStructAndAnyPointerFields
no_struct text = InitIsOnlyValidForStructAndAnyPointerFields
no_struct blob = InitIsOnlyValidForStructAndAnyPointerFields
no_struct untyped = TypeMismatch
no_struct interface = InitIsOnlyValidForStructAndAnyPointerFields
no_struct (struct id) = InitIsOnlyValidForStructAndAnyPointerFields
no_struct (list ty) = InitIsOnlyValidForStructAndAnyPointerFields

-- The field is no group.
abbrev pub is_slot : Option Entry → Bool
is_slot None = true
is_slot (Some e) = elim e.body [ void_slot j ↦ true | plain_slot p at d ↦ true | pointer_slot i ty d ↦ true | group_slot g ↦ false ]

-- What is put into a slot: a struct of zeros and nulls of its type's sizes. A group is cleared.
abbrev pub slot_init_content : Schema → Body → Content
slot_init_content s (void_slot j) = refused_by InitIsOnlyValidForStructAndAnyPointerFields
slot_init_content s (plain_slot p at d) = refused_by InitIsOnlyValidForStructAndAnyPointerFields
slot_init_content s (pointer_slot i ty d) = elim (struct_named ty) [ None ↦ refused_by (no_struct ty) | Some id ↦ object (empty_struct (s.shape_of id)) ]
slot_init_content s (group_slot g) = bits_of 0

-- The same of a field.
abbrev pub field_init_content : Schema → Option Entry → Content
field_init_content s None = refused_by TypeMismatch
field_init_content s (Some e) = slot_init_content s e.body

-- The pointer of this number of whatever struct was owned there leads to the object.
abbrev pub LeadsFrom : Segments → Segments → StructPlace → ℕ → StructPlace → Type 0
LeadsFrom s u p i o = (n section : ℕ) (kids : Trees) → OwnsObject n s (object_of_struct p) (structure p.data_words section kids) → LeadsTo u (after (after (place_view p.start) p.data_words) i) (object_of_struct o)

-- Where the struct of a slot lies, and of which schema it is: behind the slot's pointer, of the slot's type.
abbrev pub LiesBehind : Segments → Segments → StructPlace → Schema → Body → StructPlace → StructSchema → Type 0
LiesBehind s u p around (void_slot j) o g = ⊥
LiesBehind s u p around (plain_slot q at d) o g = ⊥
LiesBehind s u p around (pointer_slot i ty d) o g = (schema_around g ≡ around) × (Some (id_of g) ≡ struct_named ty) × LeadsFrom s u p i o
LiesBehind s u p around (group_slot h) o g = ⊥

-- The same of a field.
abbrev pub LiesIn : Segments → Segments → StructPlace → Schema → Option Entry → StructPlace → StructSchema → Type 0
LiesIn s u p around None o g = ⊥
LiesIn s u p around (Some e) o g = LiesBehind s u p around e.body o g

-- No such struct was made, and all stands as it was.
abbrev pub StructNotMade : ArenaState → ArenaState → code.Place → Shape → Error → Type 0
StructNotMade old new slot g e = WordsRefused old slot.segment (words_of_shape g + pointers_of_shape g) e × Stays old new

-- ---- in a field

-- A struct of zeros and nulls of a shape's sizes is made.
abbrev pub MakesEmptyStruct : ArenaState → ArenaState → code.Place → Shape → Type 0
MakesEmptyStruct old new slot g = Makes old new slot (empty_struct g) (words_of_shape g + pointers_of_shape g)

-- The pointer leads to the struct.
abbrev pub LeadsToStruct : Segments → code.Place → StructPlace → Type 0
LeadsToStruct u slot o = LeadsTo u (place_view slot) (object_of_struct o)

-- What is put into a slot that is begun with a struct.
abbrev pub begun_slot : Field → Content
begun_slot f = field_init_content (schema_around f.parent) (entry_of_field f)

-- Such a struct is put into a slot.
abbrev pub PutsNewStruct : {X : Type 0} → ArenaState → ArenaState → StructPlace → Field → Result X Error → Type 0
PutsNewStruct old new p f r = PutsContent old new p (edit_of f init) (begun_slot f) r

-- Where it lies, and of which schema it is.
abbrev pub LiesInField : Segments → Segments → StructPlace → Field → Part → Type 0
LiesInField s u p f part = LiesIn s u p (schema_around f.parent) (entry_of_field f) part.place part.schema
