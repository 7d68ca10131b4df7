-- Structs and lists that are copied into slots. (Encoding, "Structs", "Lists")
use Rattle.std.specs.Prelude.{◌≡◌, ⊤, ℕ, suc, ◌≤◌, Bool, true, false, if◌then◌else◌, List, Option, Some, None, MatchOption, Ok, Err, Result, OnErr}
use Rattle.capnp_model.specs.Chains.{◌>>=◌}
use Rattle.capnp_model.specs.Segments.{Segments, Place}
use Rattle.capnp_model.specs.Schemas.{Ty, void, plain, text, blob, untyped, interface, struct, list}
use Rattle.capnp_model.specs.Trees.{Tree, structure, Trees}
use Rattle.capnp_model.specs.Traversal.{tree_at, each}
use Rattle.capnp_model.specs.Coverage.{Grows, from_each}
use Rattle.capnp_model.specs.Visits.{Visit, visits}
use Rattle.capnp_model.specs.Edits.{Edit}
use Rattle.capnp_units.specs.declared.errors.Error.{Error}
use Rattle.capnp_units.specs.declared.limiter.ReadLimiter.{ReadLimiter}
use Rattle.capnp_wire_objects.specs.declared.object.Object as wire
use Rattle.capnp_wire_objects.specs.declared.object.Object.TheVariants as object
use Rattle.capnp_wire_objects.specs.Places.{place_view}
use Rattle.capnp_wire_objects.specs.Inside.{met_in}
use Rattle.capnp_wire_objects.specs.Walks.{Walked}
use Rattle.capnp_wire.specs.Views.{StructView, ListView}
use Rattle.capnp_model_writes.specs.Footprints.{OwnsObject}
use Rattle.capnp_model_writes.specs.Changes.{ReplacesObject}
use Rattle.capnp_copy_arenas.specs.Structs.{object_of_struct}
use Rattle.capnp_copy_arenas.specs.declared.fields.StructPlace.{StructPlace}
use Rattle.capnp_copy_values.specs.Copies.{CopyOf, copy_of, LimitedWords, limited_words, StructSource, GrowsByZeros, TakesObject, ObjectRefused}
use Rattle.capnp_copy_values.specs.Lists.{listed_object, listed_tree}
use Rattle.capnp_copy_values.specs.Objects.{copied_words}
use Rattle.capnp_copy_values.specs.declared.lists.ListSource.{ListSource}
use Rattle.capnp_layout_builders.specs.Copied.{Walk, Charged, WithoutLevels, IsSourceOf, IsListSourceOf, SetsStruct, SetsList}
use Rattle.capnp_values.specs.Sources.{struct_seen, list_seen}
use Rattle.capnp_values.specs.declared.dynamic_value.Reader.{Reader}
use Rattle.capnp_values.specs.declared.dynamic_value.Reader.TheVariants as value
use Rattle.capnp_schema_structs.specs.declared.values.Source.{Source}
use Rattle.capnp_schema_structs.specs.declared.values.Source.TheVariants as source

-- What is copied: a struct or a list that is read.
pub data SourceView : Type 0 where
  from_struct : StructView → SourceView
  from_list : ListView → SourceView

abbrev pub source_view : {A : Type 0} → (A → List (List ℕ)) → Source A → SourceView
source_view bytes (source.Struct r) = from_struct (struct_seen bytes r)
source_view bytes (source.List r) = from_list (list_seen bytes r)

-- A slot of the type takes structs.
abbrev pub takes_struct : Ty → Bool
takes_struct void = false
takes_struct (plain p) = false
takes_struct text = false
takes_struct blob = false
takes_struct untyped = true
takes_struct interface = false
takes_struct (struct id) = true
takes_struct (list ty) = false

-- A slot of the type takes lists.
abbrev pub takes_list : Ty → Bool
takes_list void = false
takes_list (plain p) = false
takes_list text = false
takes_list blob = false
takes_list untyped = true
takes_list interface = false
takes_list (struct id) = false
takes_list (list ty) = true

-- What of a value is copied into a slot of the type, if the slot takes it: a struct or a list of any schema.
abbrev pub source_given : {A : Type 0} → (A → List (List ℕ)) → Reader A → Ty → Option SourceView
source_given bytes value.Void ty = None
source_given bytes (value.Bool b) ty = None
source_given bytes (value.Int8 z) ty = None
source_given bytes (value.Int16 z) ty = None
source_given bytes (value.Int32 z) ty = None
source_given bytes (value.Int64 z) ty = None
source_given bytes (value.UInt8 n) ty = None
source_given bytes (value.UInt16 n) ty = None
source_given bytes (value.UInt32 n) ty = None
source_given bytes (value.UInt64 n) ty = None
source_given bytes (value.Enum e) ty = None
source_given bytes (value.Text t) ty = None
source_given bytes (value.Data d) ty = None
source_given bytes (value.Struct r) ty = if takes_struct ty then Some (from_struct (struct_seen bytes r.source)) else None
source_given bytes (value.List l) ty = if takes_list ty then Some (from_list (list_seen bytes l.source)) else None
source_given bytes (value.AnyPointer p) ty = None
source_given bytes (value.Capability c) ty = None

-- ---- at a pointer

-- A copy is put in place of the value of the pointer at p.
abbrev pub SetsSource : SourceView → Segments → Segments → Place → Walk
SetsSource (from_struct v) s u p old result new = SetsStruct v s u p old result new
SetsSource (from_list v) s u p old result new = SetsList v s u p old result new

-- ---- in what holds the pointer

-- What becomes of that, by the tree that is read and the levels that this has at most.
abbrev pub TreeEffect : Type 1
TreeEffect = ℕ → Tree → Type 0

-- What is written: the tree that is read of an object of this size, from each of whose pointers n levels may be followed.
pub record TreeWritten : Type 0 where
  pub levels : ℕ
  pub object : wire.Object
  pub tree : CopyOf Tree

-- The tree that is read was written, and the visits behind its object were made.
pub record TreePut (w : TreeWritten) (Writes : TreeEffect) (old new : LimitedWords) : Type 0 where
  pub value : Tree
  pub there_is : w.tree.there ≡ Some value
  pub walked : Walked w.tree.path old.limiter new.limiter
  pub grows : Grows old.segments new.segments
  pub takes : TakesObject (copied_words w.object) old.segments new.segments old.limiter new.limiter
  pub writes : Writes (suc w.levels) value

-- The tree is written; or it is refused as its copy is, and all words stand.
abbrev pub TreeGives : TreeWritten → TreeEffect → LimitedWords → Result ⊤ Error → LimitedWords → Type 0
TreeGives w Writes old (Ok _) new = TreePut w Writes old new
TreeGives w Writes old (Err e) new = ObjectRefused w.tree.from w.object w.tree.path old e new

-- The tree of a struct that is read by its parts; n levels may be followed from each of its
-- pointers.
abbrev pub TreeOfStruct : ℕ → Segments → StructSource → Segments → Segments → TreeEffect → Walk
TreeOfStruct levels from x s u Writes old result new =
    let there = each (tree_at levels from) (place_view x.first) x.pointers >>= λ ts. Some (structure x.data_words x.section ts) in
    let tree = copy_of from there (from_each (visits levels from) (place_view x.first) x.pointers) in
    TreeGives (record { levels = levels; object = object.Struct x.first x.data_words x.pointers; tree = tree }) Writes (limited_words s old) result (limited_words u new)

-- The tree of a list that is read by its parts; n levels may be followed from each of its pointers.
abbrev pub TreeOfList : ℕ → Segments → ListSource → List ℕ → Segments → Segments → TreeEffect → Walk
TreeOfList levels from x bytes s u Writes old result new =
    let tree = copy_of from (listed_tree (tree_at levels from) x bytes) (met_in (visits levels from) (listed_object x)) in
    TreeGives (record { levels = levels; object = listed_object x; tree = tree }) Writes (limited_words s old) result (limited_words u new)

-- The whole tree of what is read is written so. It is refused as `SetsSource` is.
abbrev pub PutsSource : SourceView → Segments → Segments → TreeEffect → Walk
PutsSource (from_struct v) s u Writes old result new =
    MatchOption v.levels (WithoutLevels s u old result new) (λ n.
    Charged v.basis.paid (λ l r m. (x : StructSource) × IsSourceOf v x × TreeOfStruct n v.basis.segments x s u Writes l r m) old result new)
PutsSource (from_list v) s u Writes old result new =
    MatchOption v.levels (WithoutLevels s u old result new) (λ n.
    Charged v.basis.paid (λ l r m. (x : ListSource) × (bytes : List ℕ) × IsListSourceOf v x bytes × TreeOfList n v.basis.segments x bytes s u Writes l r m) old result new)

-- Whatever data and children the struct has become what the edit makes of them, whose new value has
-- n levels at most, and nothing else changes.
abbrev pub EditsWithin : ℕ → Segments → Segments → StructPlace → Edit → Type 0
EditsWithin levels s u p f =
    (n section : ℕ) (kids : Trees) → levels ≤ n → OwnsObject n s (object_of_struct p) (structure p.data_words section kids)
    → let c = f (record { section = section; kids = kids }) in ReplacesObject n s u (object_of_struct p) (structure p.data_words c.section c.kids)

-- ---- what stands

-- Each segment of the message is there later too, and no shorter; after a refusal all words stand, and new ones are zero.
pub record StandsIfRefused {X : Type 0} (s u : Segments) (r : Result X Error) : Type 0 where
  pub grows : Grows s u
  pub refused : OnErr r (GrowsByZeros s u)
