-- Values of any kind in elements.
use Rattle.std.proofs.Common.{◌≡◌, ℕ, ◌+◌, ◌<◌, ◌≤◌, Bool, true, false, List, Option, Some, None, Result, Ok, Err, refl, sym, ap, subst, ◌∙◌, arith}
use Rattle.std.specs.Prelude.{⊤, ◌&&◌, min, OnOk, OnErr}
use Rattle.capnp_model.specs.Kinds.{ListCapabilityNotSupported}
use Rattle.capnp_model.specs.Segments.{Segments}
use Rattle.capnp_model.specs.Schemas.{Schema, Ty, void, plain, text, blob, untyped, interface, struct, list}
use Rattle.capnp_model.specs.Trees.{Tree, Trees, child}
use Rattle.capnp_model.specs.Traversal.{tree_at, each}
use Rattle.capnp_model.specs.Coverage.{Grows, from_each}
use Rattle.capnp_model.specs.Visits.{visits}
use Rattle.capnp_model.specs.Calls.{refused_by}
use Rattle.capnp_model.specs.Edits.{put_child}
use Rattle.capnp_units.specs.Sizes.{size_number}
use Rattle.capnp_units.specs.declared.errors.Error.{Error}
use Rattle.capnp_units.specs.declared.limiter.ReadLimiter.{ReadLimiter}
use Rattle.capnp_wire_objects.specs.declared.place.Place as code
use Rattle.capnp_wire_objects.specs.Places.{place_view}
use Rattle.capnp_wire.specs.Views.{StructView}
use Rattle.capnp_copy_arenas.specs.declared.fields.StructPlace.{StructPlace}
use Rattle.capnp_copy_arenas.specs.declared.init.ListPlace.{ListPlace}
use Rattle.capnp_copy_arenas.proofs.lemmas.RoomLaws.{sizes_grow}
use Rattle.capnp_copy_values.specs.Copies.{GrowsByZeros, BecomesCopy, StructSource, CopyGives, copy_of, copy_source, limited_words}
use Rattle.capnp_copy_values.specs.Contents.{TakesContent, TakesPart as TakesPartOf, CopiesContent}
use Rattle.capnp_layout_builders.specs.Making.{ArenaState}
use Rattle.capnp_layout_builders.specs.Copied.{TakesDataAlone, TakesOver}
use Rattle.capnp_values.specs.Sources.{WithoutLimit}
use Rattle.capnp_values.specs.declared.dynamic_value.Reader.{Reader}
use Rattle.capnp_schema_structs.specs.Sources.{SourceView, SetsSource, PutsSource}
use Rattle.capnp_schema_structs.specs.Values.{is_capability, struct_given, IsStructType}
use Rattle.capnp_schema_structs.proofs.lemmas.Sources.{walk_map, walk_to, source_put, source_refused}
use Rattle.capnp_schema_lists.specs.Elements.{Holds, HoldsStructs, flat_element, element_edit}
use Rattle.capnp_schema_lists.specs.Lists.{IsListThere, HasPointer}
use Rattle.capnp_schema_lists.specs.Parts.{cell_in}
use Rattle.capnp_schema_lists.specs.Places.{IsStructAt, IsElementPointer}
use Rattle.capnp_schema_lists.specs.Values.{GivenElement, made, copied, taken, list_given, are_capabilities, made_element, element_given, ElementWithin, fitted_edit, part_edit, data_edit, ElementTakesData, ElementTakesPart, TakesFields, TakesStruct, LeavesUnlessTaken, PutsElementGiven, AreStructs, IsListType}
use Rattle.capnp_schema_lists.proofs.Parts.{struct_part}
use Rattle.capnp_schema_lists.proofs.Pointers.{pointer_parts}

-- ---- copies behind pointers

module _ (s u : Segments) (o : ListPlace) (i : ℕ) (q : code.Place) (has : HasPointer o) (l : i < o.count) (at : IsElementPointer o i q) (there : IsListThere s o) where
  element_put : (levels : ℕ) (v : Tree) → BecomesCopy levels s u (place_view q) v → ElementWithin levels s u o (λ words pointers. put_child 0 v) i
  element_put levels v becomes n t deep is own =
      let x = pointer_parts s o i q has l at n t there is own in
      x.lifts n u (λ w. v) (omega arith) (becomes n (child (cell_in t i).kids 0) deep x.owns)

  pub copy_put : (x : SourceView) (r : Result ⊤ Error) → WithoutLimit (SetsSource x s u (place_view q)) r → WithoutLimit (PutsSource x s u (λ n t. ElementWithin n s u o (λ words pointers. put_child 0 t) i)) r
  copy_put x (Ok y) h = source_put s u u (place_view q) refl (λ n t. ElementWithin n s u o (λ words pointers. put_child 0 t) i) (λ n t b. element_put n t b) x y h
  copy_put x (Err e) h = source_refused x s u (place_view q) (λ n t. ElementWithin n s u o (λ words pointers. put_child 0 t) i) e h

-- ---- content of structs

module _ (s u : Segments) (o : ListPlace) (i : ℕ) (p : StructPlace) (l : i < o.count) (at : IsStructAt o i p) where
  content_put : (levels section : ℕ) (ts : Trees) → TakesContent levels s u p section ts → ElementWithin levels s u o (fitted_edit section ts) i
  content_put levels section ts h n t deep is own =
      let x = struct_part s o i p l at n t is own in
      let c = cell_in t i in
      x.lifts n u (fitted_edit section ts) (omega arith) (h n c.section c.kids deep x.owns)

  part_put : (levels : ℕ) (from : Segments) (x : StructSource) → TakesPartOf (copy_source levels from x) s u p → ElementTakesPart levels from x s u o i
  part_put levels from x h =
      record {
        count = h.copied;
        few = subst (λ k. h.copied ≤ min x.pointers k) at.pointers h.few;
        read = h.read;
        read_is = h.read_is;
        left = λ n t deep is own.
            (let y = struct_part s o i p l at n t is own in
            let c = cell_in t i in
            y.lifts n u (part_edit x.section h.copied h.read) (omega arith) (h.left n c.section c.kids deep y.owns));
      }

  gives : (levels : ℕ) (from : Segments) (x : StructSource) (old : ReadLimiter) (r : Result ⊤ Error) (new : ReadLimiter) → CopiesContent (copy_source levels from x) p (limited_words s old) r (limited_words u new)
      → CopyGives (copy_of from (each (tree_at levels from) (place_view x.first) (min x.pointers p.pointers)) (from_each (visits levels from) (place_view x.first) (min x.pointers p.pointers))) (λ ts. ElementWithin levels s u o (fitted_edit x.section ts) i) (ElementTakesPart levels from x s u o i) (limited_words s old) r (limited_words u new)
  gives levels from x old (Ok y) new h = record { value = h.value; there_is = h.there_is; walked = h.walked; grows = h.grows; takes = h.takes; made = content_put levels x.section h.value h.made }
  gives levels from x old (Err e) new h = record { left = part_put levels from x h.left; takes = h.takes; why = h.why }

  struct_taken : (levels : ℕ) (from : Segments) (x : StructSource) (old : ReadLimiter) (r : Result ⊤ Error) (new : ReadLimiter) → CopiesContent (copy_source levels from x) p (limited_words s old) r (limited_words u new) → TakesFields levels from x s u o i old r new
  struct_taken levels from x old r new h =
      subst (λ (k : ℕ). CopyGives (copy_of from (each (tree_at levels from) (place_view x.first) (min x.pointers k)) (from_each (visits levels from) (place_view x.first) (min x.pointers k))) (λ ts. ElementWithin levels s u o (fitted_edit x.section ts) i) (ElementTakesPart levels from x s u o i) (limited_words s old) r (limited_words u new))
      at.pointers (gives levels from x old r new h)

  data_put : (v : StructView) (old : ReadLimiter) (r : Result ⊤ Error) (new : ReadLimiter) → TakesDataAlone v s u p old r new → ElementTakesData v s u o i old r new
  data_put v old r new h =
      record {
        refused = h.refused;
        unread = h.unread;
        grows = sizes_grow s u h.sizes;
        left = λ n t deep is own.
            (let x = struct_part s o i p l at n t is own in
            let c = cell_in t i in
            x.lifts n u (data_edit v.section) (omega arith) (h.section n c.section c.kids x.owns));
      }

  pub content_taken : (v : StructView) (r : Result ⊤ Error) → WithoutLimit (TakesOver v s u p) r → WithoutLimit (TakesStruct v s u o i) r
  content_taken v r h = (h.0, h.1, h.2, walk_map v.levels v.basis.paid _ _ h.0 r h.1 (data_put v h.0 r h.1) (λ n a b w. (w.0, w.1, struct_taken n v.basis.segments w.0 a r b w.2)) h.3)

  -- ---- what is there later too

  struct_grows : (levels : ℕ) (from : Segments) (x : StructSource) (old : ReadLimiter) (r : Result ⊤ Error) (new : ReadLimiter) → CopiesContent (copy_source levels from x) p (limited_words s old) r (limited_words u new) → Grows s u
  struct_grows levels from x old (Ok y) new h = h.grows
  struct_grows levels from x old (Err e) new h = h.left.grows

  data_grows : (v : StructView) (old : ReadLimiter) (r : Result ⊤ Error) (new : ReadLimiter) → TakesDataAlone v s u p old r new → Grows s u
  data_grows v old r new h = sizes_grow s u h.sizes

  pub content_grows : (v : StructView) (r : Result ⊤ Error) → WithoutLimit (TakesOver v s u p) r → Grows s u
  content_grows v r h = walk_to v.levels v.basis.paid _ h.0 r h.1 (data_grows v h.0 r h.1) (λ k a b w. struct_grows k v.basis.segments w.0 a r b w.2) h.3

-- ---- the elements' type

pub pointers_of : (o : ListPlace) (ty : Ty) → IsListType ty → Holds o ty → HasPointer o
pointers_of o void is h = absurd is
pointers_of o (plain p) is h = absurd is
pointers_of o text is h = absurd is
pointers_of o blob is h = absurd is
pointers_of o untyped is h = absurd is
pointers_of o interface is h = absurd is
pointers_of o (struct id) is h = absurd is
pointers_of o (list ty) is h = h

pub structs_of : (o : ListPlace) (ty : Ty) → IsStructType ty → AreStructs o ty → size_number o.size ≡ 7
structs_of o void is h = absurd is
structs_of o (plain p) is h = absurd is
structs_of o text is h = absurd is
structs_of o blob is h = absurd is
structs_of o untyped is h = absurd is
structs_of o interface is h = absurd is
structs_of o (struct id) is h = h
structs_of o (list ty) is h = absurd is

-- ---- what is given

module _ {A : Type 0} (bytes : A → List (List ℕ)) (v : Reader A) (ty : Ty) where
  abbrev unless_taken : Option SourceView → GivenElement
  unless_taken o = elim o [ Some x ↦ copied x | None ↦ made (made_element (are_capabilities ty && is_capability v) v ty) ]

  abbrev by_struct : Option StructView → GivenElement
  by_struct o = elim o [ Some x ↦ taken x | None ↦ unless_taken (list_given bytes v ty) ]

  pub given_struct : (x : StructView) → struct_given bytes v ty ≡ Some x → element_given bytes v ty ≡ taken x
  given_struct x e = ap by_struct e

  pub given_list : (x : SourceView) → struct_given bytes v ty ≡ None → list_given bytes v ty ≡ Some x → element_given bytes v ty ≡ copied x
  given_list x other e = ap by_struct other ∙ ap unless_taken e

  given_else : struct_given bytes v ty ≡ None → list_given bytes v ty ≡ None → element_given bytes v ty ≡ made (made_element (are_capabilities ty && is_capability v) v ty)
  given_else other none = ap by_struct other ∙ ap unless_taken none

  pub given_refused : struct_given bytes v ty ≡ None → list_given bytes v ty ≡ None → are_capabilities ty && is_capability v ≡ true → element_given bytes v ty ≡ made (refused_by ListCapabilityNotSupported)
  given_refused other none is_one = given_else other none ∙ ap (λ (b : Bool). made (made_element b v ty)) is_one

  pub given_flat : struct_given bytes v ty ≡ None → list_given bytes v ty ≡ None → are_capabilities ty && is_capability v ≡ false → element_given bytes v ty ≡ made (flat_element v ty)
  given_flat other none not = given_else other none ∙ ap (λ (b : Bool). made (made_element b v ty)) not

  pub puts : (told : Error → Type 0) (old new : ArenaState) (o : ListPlace) (i : ℕ) (g : GivenElement) (r : Result ⊤ Error) → element_given bytes v ty ≡ g → PutsElementGiven told old new (record { place = o; at = i; edit = element_edit v ty }) g r → PutsElementGiven told old new (record { place = o; at = i; edit = element_edit v ty }) (element_given bytes v ty) r
  puts told old new o i g r e h = subst (λ (x : GivenElement). PutsElementGiven told old new (record { place = o; at = i; edit = element_edit v ty }) x r) (sym e) h

pub leaves : (source : Option StructView) (s u : Segments) (r : Result ⊤ Error) → Grows s u → OnErr r (GrowsByZeros s u) → LeavesUnlessTaken source s u r
leaves source s u r g h = record { grows = g; stands = λ _. h }

pub leaves_part : (source : Option StructView) (x : StructView) (s u : Segments) (r : Result ⊤ Error) → source ≡ Some x → Grows s u → LeavesUnlessTaken source s u r
leaves_part source x s u r e g = record { grows = g; stands = λ (h : source ≡ None). absurd (cc (e, h)) }

-- ---- the handle

pub are_structs : (s : Schema) (o : ListPlace) (ty : Ty) → HoldsStructs s o ty → AreStructs o ty
are_structs s o void h = tt
are_structs s o (plain p) h = tt
are_structs s o text h = tt
are_structs s o blob h = tt
are_structs s o untyped h = tt
are_structs s o interface h = tt
are_structs s o (struct id) h = h.structs
are_structs s o (list ty) h = tt
