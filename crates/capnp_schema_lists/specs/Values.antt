-- What `set` puts into an element for any value. (Encoding, "Lists", "Structs", "Blobs")
use Rattle.std.specs.Prelude.{◌≡◌, ⊤, ℕ, ◌≤◌, min, Bool, true, false, ◌&&◌, List, Option, Some, None, MatchOption, Result, Err, OnErr, IfErr}
use Rattle.capnp_model.specs.Kinds.{ListCapabilityNotSupported}
use Rattle.capnp_model.specs.Segments.{Segments}
use Rattle.capnp_model.specs.Schemas.{Ty, void, plain, text, blob, untyped, interface, struct, list}
use Rattle.capnp_model.specs.Trees.{Tree, Trees, resized}
use Rattle.capnp_model.specs.Traversal.{tree_at, each}
use Rattle.capnp_model.specs.Coverage.{Grows}
use Rattle.capnp_model.specs.Calls.{Content, refused_by}
use Rattle.capnp_model.specs.Edits.{Edit, put_child, edit_list}
use Rattle.capnp_units.specs.Segments.{words_in}
use Rattle.capnp_units.specs.Sizes.{size_number}
use Rattle.capnp_units.specs.declared.errors.Error.{Error}
use Rattle.capnp_units.specs.declared.kinds.ErrorKind.TheVariants.{NestingLimitExceeded}
use Rattle.capnp_units.specs.declared.limiter.ReadLimiter.{ReadLimiter}
use Rattle.capnp_wire_objects.specs.Places.{place_view}
use Rattle.capnp_wire.specs.Views.{StructView}
use Rattle.capnp_model_writes.specs.Children.{with_first}
use Rattle.capnp_model_writes.specs.Footprints.{OwnsObject}
use Rattle.capnp_model_writes.specs.Changes.{ReplacesObject}
use Rattle.capnp_copy_arenas.specs.Lists.{object_of_list}
use Rattle.capnp_copy_arenas.specs.declared.init.ListPlace.{ListPlace}
use Rattle.capnp_copy_values.specs.Copies.{copy_source, copy_of_row, limited_words, StructSource, CopyGives, GrowsByZeros}
use Rattle.capnp_copy_values.specs.Contents.{fitting}
use Rattle.capnp_layout_builders.specs.Making.{ArenaState}
use Rattle.capnp_layout_builders.specs.Copied.{Walk, Charged, IsSourceOf}
use Rattle.capnp_values.specs.Sources.{WithoutLimit}
use Rattle.capnp_values.specs.declared.dynamic_value.Reader.{Reader}
use Rattle.capnp_values.specs.declared.dynamic_value.Reader.TheVariants as value
use Rattle.capnp_schema_structs.specs.Puts.{HasCause}
use Rattle.capnp_schema_structs.specs.Sources.{SourceView, source_given, PutsSource}
use Rattle.capnp_schema_structs.specs.Values.{is_capability, struct_given}
use Rattle.capnp_schema_lists.specs.Lists.{IsListOf}
use Rattle.capnp_schema_lists.specs.Elements.{flat_element}
use Rattle.capnp_schema_lists.specs.Puts.{ElementEdit, PutsElementContent}

-- What is put: content that is made, a copy behind the element's pointer, or the content of a struct that the element takes over.
pub data GivenElement : Type 0 where
  made : Content → GivenElement
  copied : SourceView → GivenElement
  taken : StructView → GivenElement

-- The list that is copied into an element of the type: any, into one of lists.
abbrev pub list_given : {A : Type 0} → (A → List (List ℕ)) → Reader A → Ty → Option SourceView
list_given bytes v void = None
list_given bytes v (plain p) = None
list_given bytes v text = None
list_given bytes v blob = None
list_given bytes v untyped = None
list_given bytes v interface = None
list_given bytes v (struct id) = None
list_given bytes v (list ty) = source_given bytes v (list ty)

-- The elements are capabilities.
abbrev pub are_capabilities : Ty → Bool
are_capabilities void = false
are_capabilities (plain p) = false
are_capabilities text = false
are_capabilities blob = false
are_capabilities untyped = false
are_capabilities interface = true
are_capabilities (struct id) = false
are_capabilities (list ty) = false

-- What else is put into an element: what a value without pointers makes. A capability refuses one.
abbrev pub made_element : {A : Type 0} → Bool → Reader A → Ty → Content
made_element true v ty = refused_by ListCapabilityNotSupported
made_element false v ty = flat_element v ty

-- What is put into an element of a type for a value.
abbrev pub element_given : {A : Type 0} → (A → List (List ℕ)) → Reader A → Ty → GivenElement
element_given bytes v ty =
    elim (struct_given bytes v ty) [
      | Some x ↦ taken x
      | None ↦ elim (list_given bytes v ty) [ Some x ↦ copied x | None ↦ made (made_element (are_capabilities ty && is_capability v) v ty) ]
    ]

-- ---- what the element becomes

-- Whatever elements the list has: the one at an index becomes what the edit makes of it, whose new
-- values have n levels at most, and nothing else changes.
abbrev pub ElementWithin : ℕ → Segments → Segments → ListPlace → (ℕ → ℕ → Edit) → ℕ → Type 0
ElementWithin levels s u o f i = (n : ℕ) (t : Tree) → levels ≤ n → IsListOf o t → OwnsObject n s (object_of_list o) t → ReplacesObject n s u (object_of_list o) (edit_list f i t)

-- Its section becomes what fits of this one, its children these, with nulls behind them or cut.
abbrev pub fitted_edit : ℕ → Trees → ℕ → ℕ → Edit
fitted_edit section ts words pointers c = record { section = fitting words section; kids = resized pointers ts }

-- Its section becomes what fits of this one, its first n children these, and the others stay.
abbrev pub part_edit : ℕ → ℕ → Trees → ℕ → ℕ → Edit
part_edit section first read words pointers c = record { section = fitting words section; kids = with_first first read c.kids }

-- A beginning of the content was taken over: of the pointers the first n that were read.
pub record ElementTakesPart (levels : ℕ) (from : Segments) (x : StructSource) (s u : Segments) (o : ListPlace) (i : ℕ) : Type 0 where
  pub count : ℕ
  pub few : count ≤ min x.pointers o.pointers
  pub read : Trees
  pub read_is : each (tree_at levels from) (place_view x.first) count ≡ Some read
  pub left : ElementWithin levels s u o (part_edit x.section count read) i

-- The content of a struct that is read by its parts is taken over, as far as it fits; n levels may
-- be followed from each of its pointers.
abbrev pub TakesFields : ℕ → Segments → StructSource → Segments → Segments → ListPlace → ℕ → Walk
TakesFields levels from x s u o i old result new =
    let k = min x.pointers o.pointers in
    CopyGives (copy_of_row (copy_source levels from (place_view x.first)) k) (λ ts. ElementWithin levels s u o (fitted_edit x.section ts) i) (ElementTakesPart levels from x s u o i) (limited_words s old) result (limited_words u new)

-- Its section becomes what fits of this one, and its children stay.
abbrev pub data_edit : ℕ → ℕ → ℕ → Edit
data_edit section words pointers c = record { section = fitting words section; kids = c.kids }

-- Nothing has levels: it is refused, but what fits of the data is taken over before.
pub record ElementTakesData (v : StructView) (s u : Segments) (o : ListPlace) (i : ℕ) (old : ReadLimiter) (result : Result ⊤ Error) (new : ReadLimiter) : Type 0 where
  pub refused : result ≡ Err (record { kind = NestingLimitExceeded })
  pub unread : new ≡ old
  pub grows : Grows s u
  pub left : ElementWithin 0 s u o (data_edit v.section) i

-- The content of a struct that is read is taken over, as far as it fits. It is refused as
-- `TakesOver` of the builders is.
abbrev pub TakesStruct : StructView → Segments → Segments → ListPlace → ℕ → Walk
TakesStruct v s u o i old result new =
    MatchOption v.levels (ElementTakesData v s u o i old result new) (λ n.
    Charged v.basis.paid (λ l r m. (x : StructSource) × IsSourceOf v x × TakesFields n v.basis.segments x s u o i l r m) old result new)

-- What is returned, and what the element becomes, by what is put; copies are made under no limit of
-- words. Where memory lacks, `told` says of the error why.
abbrev pub PutsElementGiven : (Error → Type 0) → ArenaState → ArenaState → ElementEdit → GivenElement → Result ⊤ Error → Type 0
PutsElementGiven told old new x (made k) r = PutsElementContent old new x k r × IfErr r (HasCause k told)
PutsElementGiven told old new x (copied v) r =
    let s = words_in old.segments in
    let u = words_in new.segments in
    WithoutLimit (PutsSource v s u (λ n t. ElementWithin n s u x.place (λ words pointers. put_child 0 t) x.at)) r
PutsElementGiven told old new x (taken v) r = WithoutLimit (TakesStruct v (words_in old.segments) (words_in new.segments) x.place x.at) r

-- ---- what is there later too

-- Each segment of the message is there later too, and no shorter. All words stand after a refusal,
-- unless a struct was to be taken over, and new ones are zero.
pub record LeavesUnlessTaken (source : Option StructView) (s u : Segments) (r : Result ⊤ Error) : Type 0 where
  pub grows : Grows s u
  pub stands : source ≡ None → OnErr r (GrowsByZeros s u)

-- ---- lists of structs

-- Elements of a struct's type are structs.
abbrev pub AreStructs : ListPlace → Ty → Type 0
AreStructs o void = Unit {0}
AreStructs o (plain p) = Unit {0}
AreStructs o text = Unit {0}
AreStructs o blob = Unit {0}
AreStructs o untyped = Unit {0}
AreStructs o interface = Unit {0}
AreStructs o (struct id) = size_number o.size ≡ 7
AreStructs o (list ty) = Unit {0}

-- The type is a list's.
abbrev pub IsListType : Ty → Type 0
IsListType void = ⊥
IsListType (plain p) = ⊥
IsListType text = ⊥
IsListType blob = ⊥
IsListType untyped = ⊥
IsListType interface = ⊥
IsListType (struct id) = ⊥
IsListType (list ty) = Unit {0}
