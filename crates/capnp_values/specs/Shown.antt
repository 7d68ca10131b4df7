-- What dynamic readers show. (Encoding, "Value Encoding")
use Rattle.std.specs.Prelude.{ℕ, ◌≡◌, ◌*◌, ◌⊎◌, nat_lt, IsErrAnd, if◌then◌else◌, Bool, false, not, ◌&&◌, Option, Some, None, option_map, List, Result, Ok}
use Rattle.std.specs.Int.{w8, w16, w32, w64, cast_unsigned}
use Rattle.capnp_model.specs.Kinds.{Kind}
use Rattle.capnp_model.specs.Chains.{◌and_then◌}
use Rattle.capnp_model.specs.Schemas.{PlainType, bool, int, uint, «enum», width, Ty, void, plain, text, blob, untyped, interface, struct, list, Value as ModelValue, no_value, bits, text_bytes, blob_bytes, list_segment, struct_segment, untyped_value, interface_value, type_of, FieldKind, slot, group, Field as FieldNode, Shape, Schema, Body, void_slot, plain_slot, pointer_slot, group_slot}
use Rattle.capnp_model.specs.Readings.{just_bits, discriminant, is_active}
use Rattle.capnp_values_queries.specs.Fields.{union_in, place_of_member, place_of_name}
use Rattle.capnp_values_queries.specs.declared.structs.StructSchema.{StructSchema}
use Rattle.capnp_units.specs.Items.{items_from, items_left}
use Rattle.capnp_units.specs.declared.iter.ItemIter.{ItemIter}
use Rattle.capnp_units.specs.declared.errors.Error.{Error}
use Rattle.capnp_units.specs.declared.kinds.ErrorKind.TheVariants.{FieldNotFound}
use Rattle.capnp_wire_objects.specs.Places.{seen}
use Rattle.capnp_wire.specs.Views.{PointerView, StructView, ListView, pointer_field, element_as_struct, element_number, bit_of_bool}
use Rattle.capnp_wire.specs.Reads.{is_null_pointer, read_struct, read_blob, read_text, read_list}
use Rattle.capnp_values_queries.specs.Types.{ty_of}
use Rattle.capnp_values_queries.specs.Structs.{shape_of_struct, schema_around, fields_of_struct}
use Rattle.capnp_values_queries.specs.Enums.{nodes_of_enum, enum_id, enumerant_count}
use Rattle.capnp_values_queries.specs.Ordinals.{seen_enumerant}
use Rattle.capnp_values_queries.specs.declared.enums.EnumSchema.{EnumSchema}
use Rattle.capnp_values_queries.specs.declared.enumerants.Enumerant.{Enumerant}
use Rattle.capnp_values_queries.specs.Handles.{entry_of_field, IsFieldRecord, IsFieldAt}
use Rattle.capnp_values_queries.specs.declared.fields.Field.{Field}
use Rattle.capnp_records.specs.Sets.{nodes_of}
use Rattle.capnp_records.specs.declared.set.SchemaSet.{SchemaSet}
use Rattle.capnp_model.specs.Accepted.{schema_of, default_bits}
use Rattle.capnp_values.specs.ListSizes.{size_of}
use Rattle.capnp_values.specs.GoodDefaults.{KeepsDefault}
use Rattle.capnp_values.specs.Sources.{read_behind, default_pointer, masked_bits, pointer_seen, struct_seen, list_seen}
use Rattle.capnp_values.specs.declared.dynamic_list.Reader as dynamic
use Rattle.capnp_values.specs.declared.dynamic_struct.Reader.{Reader as DynamicStruct}
use Rattle.capnp_values.specs.declared.dynamic_value.Reader.{Reader}
use Rattle.capnp_values.specs.declared.dynamic_value.Reader.TheVariants as value

-- What a dynamic reader shows.
pub data Shown : Type 0 where
  -- a plain value by its bits, with its type; Void by 0
  a_number : Ty → ℕ → Shown
  -- a value of the enum of an id, which a schema explains
  an_enum : Schema → ℕ → ℕ → Shown
  a_text : List ℕ → Shown
  a_blob : List ℕ → Shown
  -- a struct or a group, by its shape, whose ids a schema explains
  a_struct : Schema → Shape → StructView → Shown
  -- a list, by the type of its elements, whose ids a schema explains
  a_list : Schema → Ty → ListView → Shown
  a_pointer : PointerView → Shown
  a_capability : Shown

-- The schema that the nodes of a set make.
abbrev pub schema_in : SchemaSet → Schema
schema_in set = schema_of (nodes_of set)

-- What the bits of a plain value show.
abbrev pub number_shown : Schema → PlainType → ℕ → Shown
number_shown s bool n = a_number (plain bool) n
number_shown s (int w) n = a_number (plain (int w)) n
number_shown s (uint w) n = a_number (plain (uint w)) n
number_shown s («enum» id) n = an_enum s id n

-- What a pointer shows under a type, else the kind of its fault; null shows the empty value.
abbrev pub shown_behind : Schema → Ty → PointerView → Result Shown Kind
shown_behind s void p = Ok (a_number void 0)
shown_behind s (plain q) p = Ok (a_number void 0)
shown_behind s text p = read_behind (read_text p.basis p.levels) p and_then λ bytes. Ok (a_text bytes)
shown_behind s blob p = read_behind (read_blob p.basis p.levels) p and_then λ bytes. Ok (a_blob bytes)
shown_behind s untyped p = Ok (a_pointer p)
shown_behind s interface p = Ok a_capability
shown_behind s (struct id) p = read_behind (read_struct p.basis p.levels) p and_then λ v. Ok (a_struct s (s.shape_of id) v)
shown_behind s (list ty) p = read_behind (read_list p.basis p.levels (size_of ty)) p and_then λ l. Ok (a_list s ty l)

-- What a struct or a list as a default shows; other types have none.
abbrev pub segment_opened : Schema → Ty → PointerView → List ℕ → Result Shown Kind
segment_opened s void p bytes = shown_behind s void p
segment_opened s (plain q) p bytes = shown_behind s (plain q) p
segment_opened s text p bytes = shown_behind s text p
segment_opened s blob p bytes = shown_behind s blob p
segment_opened s untyped p bytes = shown_behind s untyped p
segment_opened s interface p bytes = shown_behind s interface p
segment_opened s (struct id) p bytes = shown_behind s (struct id) (default_pointer bytes)
segment_opened s (list ty) p bytes = shown_behind s (list ty) (default_pointer bytes)

-- What a default shows in place of a null pointer.
abbrev pub default_opened : Schema → Ty → PointerView → ModelValue → Result Shown Kind
default_opened s ty p (text_bytes bytes) = Ok (a_text bytes)
default_opened s ty p (blob_bytes bytes) = Ok (a_blob bytes)
default_opened s ty p (list_segment bytes) = segment_opened s ty p bytes
default_opened s ty p (struct_segment bytes) = segment_opened s ty p bytes
default_opened s ty p no_value = shown_behind s ty p
default_opened s ty p (bits q n) = shown_behind s ty p
default_opened s ty p untyped_value = shown_behind s ty p
default_opened s ty p interface_value = shown_behind s ty p

-- What a pointer slot shows: a null one its default.
abbrev pub slot_opened : Schema → Ty → Option ModelValue → PointerView → Result Shown Kind
slot_opened s ty None p = shown_behind s ty p
slot_opened s ty (Some d) p = if is_null_pointer p then default_opened s ty p d else shown_behind s ty p

-- What a plain slot shows of a struct, by its offset and the bits of its default.
abbrev pub plain_shown : Schema → StructView → PlainType → ℕ → ℕ → Shown
plain_shown s v p offset default = number_shown s p (masked_bits v (width p * offset) (width p) default)

-- What a slot shows of a struct, by its offset, its type and its default. (Encoding, "Structs" and "Default Values")
abbrev pub slot_shown : Schema → StructView → ℕ → Ty → Option ModelValue → Result Shown Kind
slot_shown s v offset void d = Ok (a_number void 0)
slot_shown s v offset (plain p) d = Ok (plain_shown s v p offset (default_bits d))
slot_shown s v offset text d = slot_opened s text d (pointer_field v offset)
slot_shown s v offset blob d = slot_opened s blob d (pointer_field v offset)
slot_shown s v offset untyped d = slot_opened s untyped d (pointer_field v offset)
slot_shown s v offset interface d = slot_opened s interface d (pointer_field v offset)
slot_shown s v offset (struct id) d = slot_opened s (struct id) d (pointer_field v offset)
slot_shown s v offset (list ty) d = slot_opened s (list ty) d (pointer_field v offset)

-- The default that a field's node says.
abbrev pub default_said : FieldKind → Option ModelValue
default_said (slot offset ty d) = d
default_said (group id) = None

-- What a field shows of a struct, by what its node says of it; a group shows the same struct under its own shape.
abbrev pub kind_shown : Schema → StructView → FieldKind → Result Shown Kind
kind_shown s v (slot offset ty d) = slot_shown s v offset (type_of ty) d
kind_shown s v (group id) = Ok (a_struct s (s.shape_of id) v)

-- What an element of a list of the type shows.
abbrev pub element_shown : Schema → Ty → ListView → ℕ → Result Shown Kind
element_shown s void l i = Ok (a_number void 0)
element_shown s (plain p) l i = Ok (number_shown s p (element_number l i (width p)))
element_shown s (struct id) l i = Ok (a_struct s (s.shape_of id) (element_as_struct l i))
element_shown s text l i = shown_behind s text (pointer_field (element_as_struct l i) 0)
element_shown s blob l i = shown_behind s blob (pointer_field (element_as_struct l i) 0)
element_shown s untyped l i = shown_behind s untyped (pointer_field (element_as_struct l i) 0)
element_shown s interface l i = shown_behind s interface (pointer_field (element_as_struct l i) 0)
element_shown s (list ty) l i = shown_behind s (list ty) (pointer_field (element_as_struct l i) 0)

-- What a value shows.
abbrev pub shown : {A : Type 0} → (A → List (List ℕ)) → Reader A → Shown
shown bytes value.Void = a_number void 0
shown bytes (value.Bool b) = a_number (plain bool) (bit_of_bool b)
shown bytes (value.Int8 z) = a_number (plain (int 8)) (cast_unsigned w8 z)
shown bytes (value.Int16 z) = a_number (plain (int 16)) (cast_unsigned w16 z)
shown bytes (value.Int32 z) = a_number (plain (int 32)) (cast_unsigned w32 z)
shown bytes (value.Int64 z) = a_number (plain (int 64)) (cast_unsigned w64 z)
shown bytes (value.UInt8 n) = a_number (plain (uint 8)) n
shown bytes (value.UInt16 n) = a_number (plain (uint 16)) n
shown bytes (value.UInt32 n) = a_number (plain (uint 32)) n
shown bytes (value.UInt64 n) = a_number (plain (uint 64)) n
shown bytes (value.Enum e) = an_enum (schema_of (nodes_of_enum e.schema)) (enum_id e.schema) e.value
shown bytes (value.Text t) = a_text t.0.now
shown bytes (value.Data d) = a_blob d.now
shown bytes (value.Struct r) = a_struct (schema_around r.schema) (shape_of_struct r.schema) (struct_seen bytes r.source)
shown bytes (value.List l) = a_list (schema_of (nodes_of l.set.now)) (ty_of l.element_type) (list_seen bytes l.source)
shown bytes (value.AnyPointer p) = a_pointer (pointer_seen bytes p.source)
shown bytes (value.Capability c) = a_capability

-- What the element of a list at an index shows.
abbrev pub shown_at : {A : Type 0} → (A → List (List ℕ)) → dynamic.Reader A → ℕ → Result Shown Kind
shown_at bytes l i = element_shown (schema_of (nodes_of l.set.now)) (ty_of l.element_type) (list_seen bytes l.source) i

-- An iterator gives what the elements of a list show, in order.
abbrev pub GivesElements : {A I T : Type 0} {index : _} {bound : _} → (A → List (List ℕ)) → dynamic.Reader A → ItemIter I (dynamic.Reader A) T index bound → Type 0
GivesElements bytes l it = items_left (shown_at bytes) it ≡ items_from (shown_at bytes l) 0 (list_seen bytes l.source).count

-- What a get of a field answers: what the field shows of the struct, by its own record, whose default keeps the rules.
pub record ShowsField {A : Type 0} (bytes : A → List (List ℕ)) (v : StructView) (f : Field) (r : Result (Reader A) Error) : Type 0 where
  pub said : FieldNode
  pub is : IsFieldRecord f.parent f.index said
  pub default : KeepsDefault said.kind
  pub shows : seen (shown bytes) r ≡ kind_shown (schema_around f.parent) v said.kind

-- ---- whether a field is there

-- The discriminant of a struct under a schema, if that has a union; 0 where it isn't in the section.
abbrev pub discriminant_shown : StructSchema → StructView → Option ℕ
discriminant_shown s v = discriminant (union_in (shape_of_struct s)) (just_bits v.bits) v.section

-- A field of this member's value, if there is a field, is active.
abbrev pub is_active_field : Option ℕ → Option (Option ℕ) → Bool
is_active_field d None = false
is_active_field d (Some member) = is_active member d

-- The field lies behind a pointer, and that is null.
abbrev pub is_null_slot : StructView → Option Body → Bool
is_null_slot v None = false
is_null_slot v (Some (void_slot j)) = false
is_null_slot v (Some (plain_slot p at d)) = false
is_null_slot v (Some (pointer_slot i ty d)) = is_null_pointer (pointer_field v i)
is_null_slot v (Some (group_slot g)) = false

-- The field is no inactive member.
abbrev pub is_active_in : StructView → Field → Bool
is_active_in v f = is_active_field (discriminant_shown f.parent v) (option_map (λ e. e.member) (entry_of_field f))

-- The field lies behind a null pointer.
abbrev pub is_null_in : StructView → Field → Bool
is_null_in v f = is_null_slot v (option_map (λ e. e.body) (entry_of_field f))

-- The field is no inactive member, and no null pointer.
abbrev pub has_field : StructView → Field → Bool
has_field v f = is_active_in v f && not (is_null_in v f)

-- ---- the active member, and fields by name

-- The index of the union's active member, if there is one.
abbrev pub active_index : StructSchema → StructView → Option ℕ
active_index s v = elim (discriminant_shown s v) [ None ↦ None | Some d ↦ place_of_member d (fields_of_struct s) ]

-- The active member of a struct.
abbrev pub active_in : {A : Type 0} → (A → List (List ℕ)) → DynamicStruct A → Option ℕ
active_in bytes r = active_index r.schema (struct_seen bytes r.source)

-- What is told of a field is whether it is there.
abbrev pub TellsField : StructView → Field → Result Bool Error → Type 0
TellsField v f told = told ≡ Ok (has_field v f)

-- What is answered of the field of a name, or `FieldNotFound` where no field has it.
abbrev pub AnswersNamed : {X : Type 0} → StructSchema → List ℕ → (Field → Result X Error → Type 0) → Result X Error → Type 0
AnswersNamed s name answers r =
    let index = place_of_name name (fields_of_struct s) in
    ((f : Field) × IsFieldAt s index (Some f) × answers f r) ⊎ ((index ≡ None) × IsErrAnd r (λ e. e.kind ≡ FieldNotFound))

-- ---- enumerants

-- The enumerant of a value, if the enum has one of this number.
abbrev pub IsEnumerantAt : EnumSchema → ℕ → Option Enumerant → Type 0
IsEnumerantAt s value found = option_map seen_enumerant found ≡ (if nat_lt value (enumerant_count s) then Some (s, value) else None)
