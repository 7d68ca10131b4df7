-- What `set` puts into a slot for any value. (Encoding, "Structs", "Lists", "Blobs")
use Rattle.std.specs.Prelude.{◌≡◌, ⊤, ℕ, if◌then◌else◌, Bool, true, false, ◌&&◌, List, Option, Some, None, Result, OnErr, IfErr}
use Rattle.capnp_model.specs.Kinds.{Kind, TypeMismatch, NotAStruct, SettingDynamicCapabilitiesIsUnsupported}
use Rattle.capnp_model.specs.Schemas.{Ty, void, plain, text, blob, untyped, interface, struct, list, Body, void_slot, plain_slot, pointer_slot, group_slot}
use Rattle.capnp_model.specs.Trees.{Tree}
use Rattle.capnp_model.specs.Calls.{Content, refused_by, object}
use Rattle.capnp_model.specs.Coverage.{Grows}
use Rattle.capnp_model.specs.Edits.{Edit, mark, put_content}
use Rattle.capnp_model.specs.Segments.{Segments}
use Rattle.capnp_units.specs.Segments.{words_in}
use Rattle.capnp_units.specs.declared.errors.Error.{Error}
use Rattle.capnp_copy_arenas.specs.declared.fields.StructPlace.{StructPlace}
use Rattle.capnp_layout_builders.specs.Making.{ArenaState}
use Rattle.capnp_wire.specs.Views.{StructView}
use Rattle.capnp_copy_values.specs.Copies.{GrowsByZeros}
use Rattle.capnp_values_queries.specs.Fields.{Entry, union_in, shape_id}
use Rattle.capnp_values_queries.specs.Structs.{shape_of_struct, id_of}
use Rattle.capnp_values_queries.specs.Handles.{entry_of_field}
use Rattle.capnp_values_queries.specs.declared.fields.Field.{Field}
use Rattle.capnp_values.specs.Sources.{WithoutLimit, struct_seen}
use Rattle.capnp_values.specs.Variants.{is_struct_of}
use Rattle.capnp_values.specs.declared.dynamic_value.Reader.{Reader}
use Rattle.capnp_values.specs.declared.dynamic_value.Reader.TheVariants as value
use Rattle.capnp_schema_structs.specs.Begun.{is_untyped}
use Rattle.capnp_schema_structs.specs.Given.{flat_content}
use Rattle.capnp_schema_structs.specs.GroupSets.{SetsFields}
use Rattle.capnp_schema_structs.specs.Puts.{PutsContent, HasCause}
use Rattle.capnp_schema_structs.specs.Sources.{SourceView, source_given, PutsSource, EditsWithin}

-- What is put: content that is made, a copy, or the fields of a struct, to which a group is set.
pub data Given : Type 0 where
  made : Content → Given
  copied : SourceView → Given
  fields : StructView → Given

-- The value is a capability.
abbrev pub is_capability : {A : Type 0} → Reader A → Bool
is_capability value.Void = false
is_capability (value.Bool b) = false
is_capability (value.Int8 z) = false
is_capability (value.Int16 z) = false
is_capability (value.Int32 z) = false
is_capability (value.Int64 z) = false
is_capability (value.UInt8 n) = false
is_capability (value.UInt16 n) = false
is_capability (value.UInt32 n) = false
is_capability (value.UInt64 n) = false
is_capability (value.Enum e) = false
is_capability (value.Text t) = false
is_capability (value.Data d) = false
is_capability (value.Struct r) = false
is_capability (value.List l) = false
is_capability (value.AnyPointer p) = false
is_capability (value.Capability c) = true

-- The struct that a value is, if it is one of the schema of the type.
abbrev pub struct_given : {A : Type 0} → (A → List (List ℕ)) → Reader A → Ty → Option StructView
struct_given bytes value.Void ty = None
struct_given bytes (value.Bool b) ty = None
struct_given bytes (value.Int8 z) ty = None
struct_given bytes (value.Int16 z) ty = None
struct_given bytes (value.Int32 z) ty = None
struct_given bytes (value.Int64 z) ty = None
struct_given bytes (value.UInt8 n) ty = None
struct_given bytes (value.UInt16 n) ty = None
struct_given bytes (value.UInt32 n) ty = None
struct_given bytes (value.UInt64 n) ty = None
struct_given bytes (value.Enum e) ty = None
struct_given bytes (value.Text t) ty = None
struct_given bytes (value.Data d) ty = None
struct_given bytes (value.Struct r) ty = if is_struct_of (id_of r.schema) ty then Some (struct_seen bytes r.source) else None
struct_given bytes (value.List l) ty = None
struct_given bytes (value.AnyPointer p) ty = None
struct_given bytes (value.Capability c) ty = None

-- The type is a struct's.
abbrev pub IsStructType : Ty → Type 0
IsStructType void = ⊥
IsStructType (plain p) = ⊥
IsStructType text = ⊥
IsStructType blob = ⊥
IsStructType untyped = ⊥
IsStructType interface = ⊥
IsStructType (struct id) = Unit {0}
IsStructType (list ty) = ⊥

-- Why a group isn't set to a value: it is a struct of another schema, or no struct.
abbrev pub group_refusal : {A : Type 0} → Reader A → Kind
group_refusal value.Void = NotAStruct
group_refusal (value.Bool b) = NotAStruct
group_refusal (value.Int8 z) = NotAStruct
group_refusal (value.Int16 z) = NotAStruct
group_refusal (value.Int32 z) = NotAStruct
group_refusal (value.Int64 z) = NotAStruct
group_refusal (value.UInt8 n) = NotAStruct
group_refusal (value.UInt16 n) = NotAStruct
group_refusal (value.UInt32 n) = NotAStruct
group_refusal (value.UInt64 n) = NotAStruct
group_refusal (value.Enum e) = NotAStruct
group_refusal (value.Text t) = NotAStruct
group_refusal (value.Data d) = NotAStruct
group_refusal (value.Struct r) = TypeMismatch
group_refusal (value.List l) = NotAStruct
group_refusal (value.AnyPointer p) = NotAStruct
group_refusal (value.Capability c) = NotAStruct

-- What else is put into a slot behind a pointer: what a value without pointers makes. An untyped slot refuses a capability as one.
abbrev pub made_behind : {A : Type 0} → Bool → Reader A → Body → Content
made_behind true v b = refused_by SettingDynamicCapabilitiesIsUnsupported
made_behind false v b = flat_content v b

-- What is put into a group for a value: the fields of a struct of its schema.
abbrev pub given_group : {A : Type 0} → (A → List (List ℕ)) → Reader A → ℕ → Given
given_group bytes v id = elim (struct_given bytes v (struct id)) [ Some x ↦ fields x | None ↦ made (refused_by (group_refusal v)) ]

-- What is put into a field for a value: the copy of a struct or of a list, where the slot takes it; else what a value without pointers makes.
abbrev pub given : {A : Type 0} → (A → List (List ℕ)) → Reader A → Body → Given
given bytes v (void_slot j) = made (flat_content v (void_slot j))
given bytes v (plain_slot p at d) = made (flat_content v (plain_slot p at d))
given bytes v (pointer_slot i ty d) = elim (source_given bytes v ty) [ Some x ↦ copied x | None ↦ made (made_behind (is_untyped ty && is_capability v) v (pointer_slot i ty d)) ]
given bytes v (group_slot g) = given_group bytes v (shape_id g)

-- What is put into a field for a value, by the field's slot or group.
abbrev pub value_given : {A : Type 0} → (A → List (List ℕ)) → Reader A → Option Entry → Given
value_given bytes v None = made (refused_by TypeMismatch)
value_given bytes v (Some e) = given bytes v e.body

-- The field is the slot of the pointer of an index.
abbrev pub IsPointerBody : ℕ → Body → Type 0
IsPointerBody i (void_slot j) = ⊥
IsPointerBody i (plain_slot p at d) = ⊥
IsPointerBody i (pointer_slot j ty d) = j ≡ i
IsPointerBody i (group_slot g) = ⊥

abbrev pub IsPointerSlot : ℕ → Option Entry → Type 0
IsPointerSlot i None = ⊥
IsPointerSlot i (Some e) = IsPointerBody i e.body

-- The union is marked, and then content put into the field.
abbrev pub entry_edit : Option ℕ → Content → Option Entry → Edit
entry_edit union k None c = c
entry_edit union k (Some e) c = put_content e.body k (mark union e.member c)

abbrev pub content_edit : Field → Content → Edit
content_edit f k = entry_edit (union_in (shape_of_struct f.parent)) k (entry_of_field f)

-- The union is marked, and then a tree put into the field.
abbrev pub tree_edit : Field → Tree → Edit
tree_edit f t = content_edit f (object t)

-- What is returned, and what the struct becomes, by what is put. Content is put as `PutsContent`
-- says. A copy is the whole tree that is read, under no limit of words. Of the fields of a struct
-- come the model's writes of a group, or a beginning of them, and why a field isn't set. Where
-- memory lacks, `told` says of the error why.
abbrev pub PutsGiven : (Error → Type 0) → ArenaState → ArenaState → StructPlace → Field → Given → Result ⊤ Error → Type 0
PutsGiven told old new p f (made k) r = PutsContent old new p (content_edit f k) k r × IfErr r (HasCause k told)
PutsGiven told old new p f (copied x) r =
    let s = words_in old.segments in
    let u = words_in new.segments in
    WithoutLimit (PutsSource x s u (λ n t. EditsWithin n s u p (tree_edit f t))) r
PutsGiven told old new p f (fields v) r = SetsFields told v (words_in old.segments) (words_in new.segments) p f r

-- No group is set to the fields of a struct.
abbrev pub sets_no_group : Given → Bool
sets_no_group (made k) = true
sets_no_group (copied x) = true
sets_no_group (fields v) = false

-- Each segment of the message is there later too, and no shorter. After a refusal all words stand,
-- and new ones are zero, but where a group was to be set to a struct.
pub record LeavesUnlessGroup (given : Given) (s u : Segments) (r : Result ⊤ Error) : Type 0 where
  pub grows : Grows s u
  pub stands : sets_no_group given ≡ true → OnErr r (GrowsByZeros s u)
