-- Values that are built, by where they lie. (Encoding, "Structs", "Lists", "Blobs")
use Rattle.std.specs.Prelude.{◌≡◌, ◌<◌, ◌^◌, ℕ, ℤ, Bool, true, false, List, Option, Some, None}
use Rattle.std.specs.Borrow.{MutBor}
use Rattle.capnp_model.specs.Segments.{Segments}
use Rattle.capnp_model.specs.Accepted.{schema_of}
use Rattle.capnp_units.specs.Segments.{words_in}
use Rattle.capnp_copy_arenas.specs.Bytes.{HasBytes}
use Rattle.capnp_copy_arenas.specs.declared.bytes.BlobPlace.{BlobPlace}
use Rattle.capnp_copy_arenas.specs.declared.arena.Memory.{Memory}
use Rattle.capnp_records.specs.Sets.{nodes_of}
use Rattle.capnp_values_queries.specs.Structs.{shape_of_struct}
use Rattle.capnp_values_queries.specs.Types.{ty_of, is_type_of}
use Rattle.capnp_model.specs.Schemas.{Node}
use Rattle.capnp_wire.specs.Views.{PointerView, StructView, ListView}
use Rattle.capnp_values_queries.specs.declared.introspect.«Type».{«Type» as SchemaType}
use Rattle.capnp_values_queries.specs.declared.structs.StructSchema.{StructSchema}
use Rattle.capnp_values.specs.Sources.{pointer_seen, struct_seen, list_seen}
use Rattle.capnp_values.specs.declared.dynamic_value.Reader.{Reader}
use Rattle.capnp_values.specs.declared.dynamic_value.Reader.TheVariants as reader
use Rattle.capnp_schema_structs.specs.Edits.{IsThere, HoldsShape}
use Rattle.capnp_schema_structs.specs.Builders.{IsReady as IsStructReady, struct_view_of}
use Rattle.capnp_schema_lists.specs.Lists.{IsListThere}
use Rattle.capnp_schema_lists.specs.Elements.{Holds, HoldsStructs}
use Rattle.capnp_schema_lists.specs.Readers.{IsBytewise, list_of}
use Rattle.capnp_schema_lists.specs.Builders.{IsReadyList as IsListReady}
use Rattle.capnp_schema_values.specs.Untyped.{IsPointerThere, IsReadyPointer as IsPointerReady, pointer_view_of}
use Rattle.capnp_schema_values.specs.declared.placed.ListPart.{ListPart}
use Rattle.capnp_schema_values.specs.declared.placed.Placed.{Placed}
use Rattle.capnp_schema_values.specs.declared.placed.Placed.TheVariants as placed
use Rattle.capnp_schema_values.specs.declared.dynamic_value.Builder.{Builder}
use Rattle.capnp_schema_values.specs.declared.dynamic_value.Builder.TheVariants as value

-- The memory that a value holds; a plain one holds none.
abbrev pub memory_in : {A : Type 0} → Builder A → Option (MutBor (Memory A))
memory_in value.Void = None
memory_in (value.Bool x) = None
memory_in (value.Int8 x) = None
memory_in (value.Int16 x) = None
memory_in (value.Int32 x) = None
memory_in (value.Int64 x) = None
memory_in (value.UInt8 x) = None
memory_in (value.UInt16 x) = None
memory_in (value.UInt32 x) = None
memory_in (value.UInt64 x) = None
memory_in (value.Enum x) = None
memory_in (value.Text t) = Some t.memory
memory_in (value.Data d) = Some d.memory
memory_in (value.Struct b) = Some b.memory
memory_in (value.List l) = Some l.memory
memory_in (value.AnyPointer p) = Some p.memory
memory_in (value.Capability c) = None

-- The plain value itself, or where the value lies.
abbrev pub placed_of : {A : Type 0} → Builder A → Placed
placed_of value.Void = placed.Void
placed_of (value.Bool x) = placed.Bool x
placed_of (value.Int8 x) = placed.Int8 x
placed_of (value.Int16 x) = placed.Int16 x
placed_of (value.Int32 x) = placed.Int32 x
placed_of (value.Int64 x) = placed.Int64 x
placed_of (value.UInt8 x) = placed.UInt8 x
placed_of (value.UInt16 x) = placed.UInt16 x
placed_of (value.UInt32 x) = placed.UInt32 x
placed_of (value.UInt64 x) = placed.UInt64 x
placed_of (value.Enum x) = placed.Enum x
placed_of (value.Text t) = placed.Text t.place
placed_of (value.Data d) = placed.Data d.place
placed_of (value.Struct b) = placed.Struct (record { place = b.place; schema = b.schema })
placed_of (value.List l) = placed.List (record { place = l.place; set = l.set; element_type = l.element_type })
placed_of (value.AnyPointer p) = placed.AnyPointer p.place
placed_of (value.Capability c) = placed.Capability c

-- ---- what is there

-- The list is there, with elements of its type, which is of its set; those that are structs aren't bits.
pub record IsListPlaced (s : Segments) (l : ListPart) : Type 0 where
  pub there : IsListThere s l.place
  pub holds : Holds l.place (ty_of l.element_type)
  pub sizes : HoldsStructs (schema_of (nodes_of l.set.now)) l.place (ty_of l.element_type)
  pub known : is_type_of (nodes_of l.set.now) l.element_type ≡ true
  pub bytewise : IsBytewise l.place (ty_of l.element_type)

-- What a value lies at is there: a struct or a group as wide as its schema, a list with elements of
-- its type, a pointer's word. Texts and data are near.
abbrev pub IsPlaced : Segments → Placed → Type 0
IsPlaced s placed.Void = Unit {0}
IsPlaced s (placed.Bool x) = Unit {0}
IsPlaced s (placed.Int8 x) = Unit {0}
IsPlaced s (placed.Int16 x) = Unit {0}
IsPlaced s (placed.Int32 x) = Unit {0}
IsPlaced s (placed.Int64 x) = Unit {0}
IsPlaced s (placed.UInt8 x) = Unit {0}
IsPlaced s (placed.UInt16 x) = Unit {0}
IsPlaced s (placed.UInt32 x) = Unit {0}
IsPlaced s (placed.UInt64 x) = Unit {0}
IsPlaced s (placed.Enum x) = Unit {0}
IsPlaced s (placed.Text o) = o.start.position < 2 ^ 61
IsPlaced s (placed.Data o) = o.start.position < 2 ^ 61
IsPlaced s (placed.Struct part) = IsThere s part.place × HoldsShape part.place (shape_of_struct part.schema)
IsPlaced s (placed.List part) = IsListPlaced s part
IsPlaced s (placed.AnyPointer p) = IsPointerThere s p
IsPlaced s (placed.Capability c) = Unit {0}

-- The byte from which a text is written: the first where it was begun, else the one behind its last.
abbrev pub text_start : Bool → BlobPlace → ℕ
text_start true o = 0
text_start false o = o.count

-- A text is written from there on.
abbrev pub IsWrittenFrom : {A : Type 0} → Bool → Builder A → Type 0
IsWrittenFrom begun (value.Text t) = t.position ≡ text_start begun t.place
IsWrittenFrom begun _ = Unit {0}

-- A text is written from its first byte on.
abbrev pub IsAtStart : {A : Type 0} → Builder A → Type 0
IsAtStart v = IsWrittenFrom true v

-- A text is written from its end on.
abbrev pub IsAtEnd : {A : Type 0} → Builder A → Type 0
IsAtEnd v = IsWrittenFrom false v

module _ {A : Type 0} (bytes : A → List (List ℕ)) where
  -- What a value lies at is there, in the memory that it holds.
  abbrev pub IsReadyValue : Builder A → Type 0
  IsReadyValue value.Void = Unit {0}
  IsReadyValue (value.Bool x) = Unit {0}
  IsReadyValue (value.Int8 x) = Unit {0}
  IsReadyValue (value.Int16 x) = Unit {0}
  IsReadyValue (value.Int32 x) = Unit {0}
  IsReadyValue (value.Int64 x) = Unit {0}
  IsReadyValue (value.UInt8 x) = Unit {0}
  IsReadyValue (value.UInt16 x) = Unit {0}
  IsReadyValue (value.UInt32 x) = Unit {0}
  IsReadyValue (value.UInt64 x) = Unit {0}
  IsReadyValue (value.Enum x) = Unit {0}
  IsReadyValue (value.Text t) = t.place.start.position < 2 ^ 61
  IsReadyValue (value.Data d) = d.place.start.position < 2 ^ 61
  IsReadyValue (value.Struct b) = IsStructReady bytes b
  IsReadyValue (value.List l) = IsListReady bytes l × IsBytewise l.place (ty_of l.element_type)
  IsReadyValue (value.AnyPointer p) = IsPointerReady bytes p
  IsReadyValue (value.Capability c) = Unit {0}

-- ---- what it is read as

-- a text of such bytes, and data
abbrev pub ReadsAsText : {A : Type 0} → (List ℕ → Type 0) → Reader A → Type 0
ReadsAsText Are (reader.Text t) = Are t.0.now
ReadsAsText Are _ = ⊥

abbrev pub ReadsAsData : {A : Type 0} → (List ℕ → Type 0) → Reader A → Type 0
ReadsAsData Are (reader.Data d) = Are d.now
ReadsAsData Are _ = ⊥

-- the struct of a view, under a schema
abbrev pub ReadsAsStruct : {A : Type 0} → (A → List (List ℕ)) → StructView → StructSchema → Reader A → Type 0
ReadsAsStruct bytes v schema (reader.Struct r) = (struct_seen bytes r.source ≡ v) × (r.schema ≡ schema)
ReadsAsStruct bytes v schema _ = ⊥

-- the list of a view, of elements of a type of the nodes
abbrev pub ReadsAsList : {A : Type 0} → (A → List (List ℕ)) → ListView → List Node → SchemaType → Reader A → Type 0
ReadsAsList bytes v nodes ty (reader.List l) = (list_seen bytes l.source ≡ v) × (nodes_of l.set.now ≡ nodes) × (l.element_type ≡ ty)
ReadsAsList bytes v nodes ty _ = ⊥

-- the untyped pointer of a view
abbrev pub ReadsAsPointer : {A : Type 0} → (A → List (List ℕ)) → PointerView → Reader A → Type 0
ReadsAsPointer bytes v (reader.AnyPointer p) = pointer_seen bytes p.source ≡ v
ReadsAsPointer bytes v _ = ⊥

-- A value is read as what lies there: a plain one as itself.
abbrev pub ReadsAs : {A : Type 0} → (A → List (List ℕ)) → (A → ℤ) → Builder A → Reader A → Type 0
ReadsAs bytes nesting value.Void r = r ≡ reader.Void
ReadsAs bytes nesting (value.Bool x) r = r ≡ reader.Bool x
ReadsAs bytes nesting (value.Int8 x) r = r ≡ reader.Int8 x
ReadsAs bytes nesting (value.Int16 x) r = r ≡ reader.Int16 x
ReadsAs bytes nesting (value.Int32 x) r = r ≡ reader.Int32 x
ReadsAs bytes nesting (value.Int64 x) r = r ≡ reader.Int64 x
ReadsAs bytes nesting (value.UInt8 x) r = r ≡ reader.UInt8 x
ReadsAs bytes nesting (value.UInt16 x) r = r ≡ reader.UInt16 x
ReadsAs bytes nesting (value.UInt32 x) r = r ≡ reader.UInt32 x
ReadsAs bytes nesting (value.UInt64 x) r = r ≡ reader.UInt64 x
ReadsAs bytes nesting (value.Enum x) r = r ≡ reader.Enum x
ReadsAs bytes nesting (value.Text t) r = ReadsAsText (HasBytes (words_in (bytes t.memory.now.arena)) t.place) r
ReadsAs bytes nesting (value.Data d) r = ReadsAsData (HasBytes (words_in (bytes d.memory.now.arena)) d.place) r
ReadsAs bytes nesting (value.Struct b) r = ReadsAsStruct bytes (struct_view_of bytes nesting b) b.schema r
ReadsAs bytes nesting (value.List l) r = ReadsAsList bytes (list_of bytes nesting l) (nodes_of l.set.now) l.element_type r
ReadsAs bytes nesting (value.AnyPointer p) r = ReadsAsPointer bytes (pointer_view_of bytes nesting p) r
ReadsAs bytes nesting (value.Capability c) r = r ≡ reader.Capability c
