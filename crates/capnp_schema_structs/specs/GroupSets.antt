-- Groups that are set to structs. (Encoding, "Structs")
use Rattle.std.specs.Prelude.{◌≡◌, ◌≢◌, ⊤, ℕ, ◌+◌, ◌*◌, Bool, true, false, List, [], ◌++◌, Option, Some, None, option_map, IsSome, Result, Ok, Err, OnOk, IfErr}
use Rattle.capnp_model.specs.Segments.{Segments, Place, root}
use Rattle.capnp_model.specs.Trees.{Tree, null, child, Trees, structure}
use Rattle.capnp_model.specs.Traversal.{tree_at}
use Rattle.capnp_model.specs.Decoding.{decode}
use Rattle.capnp_model.specs.Schemas.{Ty, void, plain, text, blob, untyped, interface, struct, list, Value, list_segment, struct_segment, pointer_slot, Shape, Schema, default_or_null}
use Rattle.capnp_model.specs.Accepted.{default_tree}
use Rattle.capnp_model.specs.Printing.{fields_in}
use Rattle.capnp_model.specs.Readings.{Extent, whole_words, just_bits, discriminant}
use Rattle.capnp_model.specs.Groups.{source_tree}
use Rattle.capnp_model.specs.Edits.{Edit, mark, has_turn, after_writes}
use Rattle.capnp_units.specs.Segments.{words_in}
use Rattle.capnp_units.specs.declared.errors.Error.{Error}
use Rattle.capnp_wire_objects.specs.Places.{place_view}
use Rattle.capnp_wire_objects.specs.declared.place.Place as code
use Rattle.capnp_model_writes.specs.Footprints.{Owns, OwnsObject}
use Rattle.capnp_model_writes.specs.Changes.{Replaces, ReplacesObject}
use Rattle.capnp_wire.specs.Reads.{is_null_pointer}
use Rattle.capnp_wire.specs.Views.{StructView, pointer_field}
use Rattle.capnp_wire.specs.Laws.{reads_behind}
use Rattle.capnp_copy_arenas.specs.Structs.{object_of_struct}
use Rattle.capnp_copy_arenas.specs.declared.fields.StructPlace.{StructPlace}
use Rattle.capnp_copy_values.specs.Defaults.{default_segments}
use Rattle.capnp_values_queries.specs.Fields.{Entry, union_in}
use Rattle.capnp_values_queries.specs.Structs.{schema_around, shape_of_struct}
use Rattle.capnp_values_queries.specs.Handles.{entry_of_field}
use Rattle.capnp_values_queries.specs.declared.fields.Field.{Field}
use Rattle.capnp_layout_builders.specs.Making.{ArenaState}
use Rattle.capnp_schema_structs.specs.GroupWrites.{GroupSource, writes_of_fields, writes_of_body}
use Rattle.capnp_schema_structs.specs.GroupFaults.{StandsAt, IsFieldFaultless}
use Rattle.capnp_schema_structs.specs.GroupRefusals.{NotPut, FieldRefused}
use Rattle.capnp_schema_structs.specs.Sources.{StandsIfRefused}

-- The data section of a struct that is read goes so far.
abbrev pub ReachesTo : Extent → StructView → Type 0
ReachesTo (just_bits size) v = v.bits ≡ size
ReachesTo whole_words v = (words : ℕ) × (v.bits ≡ 64 * words)

-- A struct that is read has these data, which go so far, and these children, where they can be read.
-- Each has just its bits, so that there is one for every struct.
pub record IsSource (v : StructView) (from : GroupSource) : Type 0 where
  pub extent : ReachesTo from.extent v
  pub section : v.section ≡ from.section
  pub children : (levels i : ℕ) (t : Tree) → reads_behind (tree_at levels v.basis.segments) (pointer_field v i).place ≡ Some t → child from.kids i ≡ t

-- ---- what the struct becomes

-- Whatever data and children the struct has become what the edit makes of them, where some levels of pointers may be new, and nothing else changes.
abbrev pub EditsAny : Segments → Segments → StructPlace → Edit → Type 0
EditsAny s u p f =
    (n section : ℕ) (kids : Trees) → OwnsObject n s (object_of_struct p) (structure p.data_words section kids)
    → let c = f (record { section = section; kids = kids }) in (more : ℕ) × ReplacesObject (n + more) s u (object_of_struct p) (structure p.data_words c.section c.kids)

-- Whatever value is owned there becomes the tree, where some levels of pointers may be new, and nothing else changes.
abbrev pub PutsAny : Segments → Segments → Place → Tree → Type 0
PutsAny s u p v = (n : ℕ) (t : Tree) → Owns n s p t → (more : ℕ) × Replaces (n + more) s u p v

-- The writes are done, one after the other; or a beginning of them, where one is refused.
abbrev pub WritesAsFar : Segments → Segments → StructPlace → List Edit → Result ⊤ Error → Type 0
WritesAsFar s u p fs (Ok _) = EditsAny s u p (after_writes fs)
WritesAsFar s u p fs (Err _) = (front : List Edit) × (back : List Edit) × (fs ≡ front ++ back) × EditsAny s u p (after_writes front)

-- The same in an arena, by what tells its bytes.
module _ {A : Type 0} (bytes : A → List (List ℕ)) where
  abbrev pub WritesIn : A → A → StructPlace → List Edit → Result ⊤ Error → Type 0
  WritesIn old new = WritesAsFar (words_in (bytes old)) (words_in (bytes new))

  -- The writes that what is read asks for are done so.
  abbrev pub WritesRead : StructView → A → A → StructPlace → (GroupSource → List Edit) → Result ⊤ Error → Type 0
  WritesRead v old new p writes r = (from : GroupSource) → IsSource v from → WritesIn old new p (writes from) r

  -- The value becomes the tree, which isn't null.
  abbrev pub PutsChild : A → A → code.Place → Tree → Type 0
  PutsChild old new slot t = (t ≢ null) × PutsAny (words_in (bytes old)) (words_in (bytes new)) (place_view slot) t

-- ---- the writes

-- Whether it is the field's turn: first that of the member that is active in what is read, then of the fields that are no members.
abbrev pub entry_turn : Bool → Option ℕ → Option Entry → GroupSource → Bool
entry_turn members union None from = false
entry_turn members union (Some e) from = has_turn members e.member (discriminant union from.extent from.section)

-- The model's writes of a field, the first of which marks its union.
abbrev pub entry_writes : Schema → Option ℕ → Option Entry → GroupSource → List Edit
entry_writes s union None from = []
entry_writes s union (Some e) from = writes_of_body s e.body e.member (mark union e.member) from

abbrev pub copied_field : Field → GroupSource → List Edit
copied_field f from = entry_writes (schema_around f.parent) (union_in (shape_of_struct f.parent)) (entry_of_field f) from

-- The model's writes of a field in its turn, the first of which marks its union.
abbrev pub writes_if : Bool → List Edit → List Edit
writes_if true fs = fs
writes_if false fs = []

abbrev pub turn_writes : Schema → Bool → Option ℕ → Option Entry → GroupSource → List Edit
turn_writes s members union o from = writes_if (entry_turn members union o from) (entry_writes s union o from)

abbrev pub copied_turn : Field → Bool → GroupSource → List Edit
copied_turn f members from = turn_writes (schema_around f.parent) members (union_in (shape_of_struct f.parent)) (entry_of_field f) from

-- The writes of the fields of a group that have their turn.
abbrev pub copied_fields : Schema → Bool → Shape → GroupSource → List Edit
copied_fields s members g from = writes_of_fields s members (fields_in g) (union_in g) (discriminant (union_in g) from.extent from.section) from

-- Those of a group that is cleared: of its active member, and then of its other fields.
abbrev pub copied_group : Schema → Shape → GroupSource → List Edit
copied_group s g from = copied_fields s true g from ++ copied_fields s false g from

-- Where the model finds no fault in what is read, `told` alone says why it isn't set.
abbrev pub IsToldIfFaultless : (Error → Type 0) → StructView → (GroupSource → Type 0) → Result ⊤ Error → Type 0
IsToldIfFaultless told v Faultless r = (from : GroupSource) → StandsAt v from → IfErr r (λ e. Faultless from → told e)

-- Where it is a field's turn, what it reads as has no fault.
abbrev pub IsFaultlessInTurn : Field → Bool → GroupSource → Type 0
IsFaultlessInTurn f members from = entry_turn members (union_in (shape_of_struct f.parent)) (entry_of_field f) from ≡ true → IsFieldFaultless f from

-- The pointer of an index isn't null.
abbrev pub IsNotNull : StructView → ℕ → Type 0
IsNotNull v i = is_null_pointer (pointer_field v i) ≡ false

-- A field that is a group is set to the fields of a struct that is read: the model's writes of the
-- group (`writes_of_group`) are done. Or a beginning of them is, and then one of the fields isn't set.
-- Where memory lacks, `told` says why; that is the only reason where the model finds no fault in
-- what is read.
pub record SetsFields (told : Error → Type 0) (v : StructView) (s u : Segments) (p : StructPlace) (f : Field) (r : Result ⊤ Error) : Type 0 where
  pub writes : (from : GroupSource) → IsSource v from → WritesAsFar s u p (copied_field f from) r
  pub why : IfErr r (FieldRefused told f v u)
  pub cause : IsToldIfFaultless told v (IsFieldFaultless f) r

-- ---- pointers

-- The field is the slot of the pointer of an index, of a type.
abbrev pub IsPointerAt : ℕ → Ty → Option Entry → Type 0
IsPointerAt i ty o = (d : Option Tree) × (option_map (λ e. e.body) o ≡ Some (pointer_slot i ty d))

-- ---- null members

-- What a null pointer of an active member counts as, with the default that its node says.
abbrev pub null_tree : Schema → Ty → Option Value → Tree
null_tree s ty v = source_tree s ty (default_or_null (default_tree v)) null

-- A default that is a segment can be read.
abbrev pub IsReadable : Option Value → Type 0
IsReadable (Some (list_segment bs)) = IsSome (decode bs)
IsReadable (Some (struct_segment bs)) = IsSome (decode bs)
IsReadable _ = Unit {0}

-- The default that a node says of a pointer can be read, and has this value, if there is one.
pub record IsDefault (d : Option Tree) (said : Option Value) : Type 0 where
  pub readable : IsReadable said
  pub value : default_tree said ≡ d

-- A value is put in place of that of the pointer at a place, whatever this was. Where it isn't, all
-- words stand, and new ones are zero; where memory lacks, `told` says why.
pub record PutsValue (told : Error → Type 0) (old new : ArenaState) (slot : code.Place) (t : Tree) (r : Result ⊤ Error) : Type 0 where
  pub puts : OnOk r (PutsAny (words_in old.segments) (words_in new.segments) (place_view slot) t)
  pub stands : StandsIfRefused (words_in old.segments) (words_in new.segments) r
  pub why : IfErr r (NotPut told old new slot.segment t)
  pub books : new.books ≡ old.books

-- The words of a default hold this value, at most 64 levels deep.
abbrev pub HoldsDefault : List (List ℕ) → Tree → Type 0
HoldsDefault words d = tree_at 64 (default_segments words) root ≡ Some d

-- Whether a type is a list of structs.
abbrev pub is_struct_list : Ty → Bool
is_struct_list void = false
is_struct_list (plain p) = false
is_struct_list text = false
is_struct_list blob = false
is_struct_list untyped = false
is_struct_list interface = false
is_struct_list (struct id) = false
is_struct_list (list void) = false
is_struct_list (list (plain p)) = false
is_struct_list (list text) = false
is_struct_list (list blob) = false
is_struct_list (list untyped) = false
is_struct_list (list interface) = false
is_struct_list (list (struct id)) = true
is_struct_list (list (list ty)) = false
