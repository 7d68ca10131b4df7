-- Why groups aren't set to structs. (Encoding, "Structs")
use Rattle.std.specs.Prelude.{◌≡◌, ◌⊎◌, ⊤, ℕ, Bool, true, false, List, Option, Some, None, MatchOption, Result, Ok, Err}
use Rattle.capnp_model.specs.Kinds.{Kind, NestingLimitExceeded, TypeMismatch, CannotSetAnyPointerFieldToAPrimitiveValue, SettingDynamicCapabilitiesIsUnsupported}
use Rattle.capnp_model.specs.Segments.{Segments, Place, after, root}
use Rattle.capnp_model.specs.Schemas.{Ty, void, plain, text, blob, untyped, interface, struct, list, shape, Fields, no_fields, field, Body, void_slot, plain_slot, pointer_slot, group_slot, Schema, default_or_null}
use Rattle.capnp_model.specs.Groups.{source_tree}
use Rattle.capnp_model.specs.Traversal.{tree_at}
use Rattle.capnp_model.specs.Trees.{Tree, null}
use Rattle.capnp_model.specs.Visits.{visits}
use Rattle.capnp_units.specs.Errors.{kind_of}
use Rattle.capnp_units.specs.Limits.{left_of}
use Rattle.capnp_units.specs.Segments.{words_in}
use Rattle.capnp_units.specs.declared.errors.Error.{Error}
use Rattle.capnp_units.specs.declared.limiter.ReadLimiter.{ReadLimiter}
use Rattle.capnp_wire_objects.specs.Walks.{Stopped}
use Rattle.capnp_wire.specs.Reads.{is_null_pointer}
use Rattle.capnp_wire.specs.Views.{StructView, pointer_field}
use Rattle.capnp_copy_values.specs.Copies.{Unplaced}
use Rattle.capnp_copy_values.specs.Defaults.{default_segments}
use Rattle.capnp_layout_builders.specs.Making.{ArenaState}
use Rattle.capnp_values_queries.specs.Fields.{Entry}
use Rattle.capnp_values_queries.specs.Structs.{schema_around, fields_of_struct}
use Rattle.capnp_values_queries.specs.Handles.{entry_of_field}
use Rattle.capnp_values_queries.specs.declared.structs.StructSchema.{StructSchema}
use Rattle.capnp_values_queries.specs.declared.fields.Field.{Field}
use Rattle.capnp_values.specs.Shown.{shown_behind}
use Rattle.capnp_schema_structs.specs.NewLists.{ObjectNotMade}
use Rattle.capnp_schema_structs.specs.Puts.{NewObjectRefused}

-- Slots of untyped pointers and of capabilities aren't set.
abbrev pub type_tested : Ty → Result ⊤ Kind
type_tested void = Ok tt
type_tested (plain p) = Ok tt
type_tested text = Ok tt
type_tested blob = Ok tt
type_tested untyped = Err CannotSetAnyPointerFieldToAPrimitiveValue
type_tested interface = Err SettingDynamicCapabilitiesIsUnsupported
type_tested (struct id) = Ok tt
type_tested (list ty) = Ok tt

-- ---- copies

-- The copy of a value that is read within n levels, under no limit of words, is stopped at what
-- can't be read. Or it finds no room in the message, whose words are these then; `told` says of the
-- error why it came.
pub record CopyRefused (told : Error → Type 0) (levels : ℕ) (from : Segments) (q : Place) (u : Segments) (e : Error) : Type 0 where
  pub old : ReadLimiter
  pub new : ReadLimiter
  pub unlimited : left_of old ≡ None
  pub why : Stopped (visits levels from q) old e new ⊎ (Unplaced from (visits levels from q) u old e new × told e)

-- That of a child of a struct that is read. None is followed where not even the struct's own level was left.
abbrev pub ChildRefused : (Error → Type 0) → StructView → ℕ → Segments → Error → Type 0
ChildRefused told v i u e = MatchOption v.levels (kind_of e.kind ≡ NestingLimitExceeded) (λ n. CopyRefused told n v.basis.segments (after v.first i) u e)

-- The copy of a value from words that hold it, at most 64 levels deep, finds no room for one of its
-- objects. The message's words are these then.
pub record CopyUnplaced (u : Segments) (t : Tree) (e : Error) : Type 0 where
  pub words : List (List ℕ)
  pub holds : tree_at 64 (default_segments words) root ≡ Some t
  pub old : ReadLimiter
  pub new : ReadLimiter
  pub unlimited : left_of old ≡ None
  pub why : Unplaced (default_segments words) (visits 64 (default_segments words) root) u old e new

-- ---- what null pointers count as

-- A value isn't put behind a pointer of a segment: there is no room for its object, or its copy
-- finds none. Null, which types without an empty value have, is refused.
abbrev pub NotPut : (Error → Type 0) → ArenaState → ArenaState → ℕ → Tree → Error → Type 0
NotPut told old new segment t e = ((t ≡ null) × (kind_of e.kind ≡ TypeMismatch)) ⊎ ((ObjectNotMade old new segment t e ⊎ CopyUnplaced (words_in new.segments) t e) × told e)

-- An object finds no room in a message of these words, with n free ones of each segment as the
-- arena tells then.
pub record ObjectUnplaced (u : Segments) (t : Tree) (e : Error) : Type 0 where
  pub state : ArenaState
  pub words : words_in state.segments ≡ u
  pub segment : ℕ
  pub why : NewObjectRefused state segment t e

-- A value finds no room in a message of these words, as one object or as a copy.
abbrev pub ValueUnplaced : Segments → Tree → Error → Type 0
ValueUnplaced u t e = ObjectUnplaced u t e ⊎ CopyUnplaced u t e

-- ---- pointers

-- A pointer of a struct that is read: which one, and the schema and type by which its value is read.
pub record PointerRead : Type 0 where
  pub holder : StructView
  pub at : ℕ
  pub around : Schema
  pub ty : Ty

-- The pointer that a field of a type is read from.
abbrev pub field_pointer : Field → StructView → ℕ → Ty → PointerRead
field_pointer f v i ty = record { holder = v; at = i; around = schema_around f.parent; ty = ty }

-- A pointer that isn't null: its type isn't set, or it can't be read as it, or its value isn't copied.
abbrev pub SomeRefused : (Error → Type 0) → PointerRead → Segments → Error → Type 0
SomeRefused told p u e = (type_tested p.ty ≡ Err (kind_of e.kind)) ⊎ ((shown_behind p.around p.ty (pointer_field p.holder p.at) ≡ Err (kind_of e.kind)) ⊎ ChildRefused told p.holder p.at u e)

-- A null one of an active member: its type isn't set, or what it counts as finds no room: its default, else the empty value.
abbrev pub NullRefused : (Error → Type 0) → Schema → Ty → Option Tree → Segments → Error → Type 0
NullRefused told s ty d u e = (type_tested ty ≡ Err (kind_of e.kind)) ⊎ (ValueUnplaced u (source_tree s ty (default_or_null d) null) e × told e)

-- A null one of an active member isn't set in its slot.
abbrev pub NullBodyRefused : (Error → Type 0) → Schema → Body → Segments → Error → Type 0
NullBodyRefused told s (void_slot j) u e = ⊥
NullBodyRefused told s (plain_slot p at d) u e = ⊥
NullBodyRefused told s (pointer_slot i ty d) u e = NullRefused told s ty d u e
NullBodyRefused told s (group_slot g) u e = ⊥

abbrev pub NullEntryRefused : (Error → Type 0) → Schema → Option Entry → Segments → Error → Type 0
NullEntryRefused told s None u e = ⊥
NullEntryRefused told s (Some x) u e = NullBodyRefused told s x.body u e

abbrev pub NullFieldRefused : (Error → Type 0) → Field → Segments → Error → Type 0
NullFieldRefused told f u e = NullEntryRefused told (schema_around f.parent) (entry_of_field f) u e

-- A pointer that is null or isn't.
abbrev pub PointerRefused : (Error → Type 0) → Bool → PointerRead → Option Tree → Segments → Error → Type 0
PointerRefused told true p d u e = NullRefused told p.around p.ty d u e
PointerRefused told false p d u e = SomeRefused told p u e

-- ---- fields

unfoldable mutual
  -- One of the fields, or of those of a group among them, isn't set to what it is in a struct that is read, for such a reason. The message has these words then.
  pub FieldsRefused : (Error → Type 0) → Schema → Fields → StructView → Segments → Error → Type 0
  FieldsRefused told s no_fields v u e = ⊥
  FieldsRefused told s (field n m b fs) v u e = BodyRefused told s b v u e ⊎ FieldsRefused told s fs v u e

  -- A field isn't set to what it is in a struct that is read, for such a reason.
  pub BodyRefused : (Error → Type 0) → Schema → Body → StructView → Segments → Error → Type 0
  BodyRefused told s (void_slot j) v u e = ⊥
  BodyRefused told s (plain_slot p at d) v u e = ⊥
  BodyRefused told s (pointer_slot i ty d) v u e = PointerRefused told (is_null_pointer (pointer_field v i)) (record { holder = v; at = i; around = s; ty = ty }) d u e
  BodyRefused told s (group_slot (shape nid w p un fs)) v u e = FieldsRefused told s fs v u e

abbrev pub EntryRefused : (Error → Type 0) → Schema → Option Entry → StructView → Segments → Error → Type 0
EntryRefused told s None v u e = ⊥
EntryRefused told s (Some x) v u e = BodyRefused told s x.body v u e

abbrev pub FieldRefused : (Error → Type 0) → Field → StructView → Segments → Error → Type 0
FieldRefused told f v u e = EntryRefused told (schema_around f.parent) (entry_of_field f) v u e

-- One of the fields of a struct or a group isn't.
abbrev pub OneRefused : (Error → Type 0) → StructSchema → StructView → Segments → Error → Type 0
OneRefused told g v u e = FieldsRefused told (schema_around g) (fields_of_struct g) v u e
