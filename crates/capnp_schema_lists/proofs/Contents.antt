-- What is put into an element, by its value and its type.
use Rattle.std.proofs.Common.{◌≡◌, ℕ, ◌<◌, List, length, map, Result, Ok, Err, OnOk, OnErr, IfErr, Option, Some, None, refl, ap, sym, subst, ◌∙◌}
use Rattle.std.specs.Prelude.{⊤}
use Rattle.capnp_model.specs.Coverage.{Grows}
use Rattle.capnp_model.specs.Sizes.{object_words}
use Rattle.capnp_model.specs.Trees.{Tree}
use Rattle.capnp_model.specs.Kinds.{TypeMismatch}
use Rattle.capnp_model.specs.Schemas.{Ty, void, plain, text, blob, untyped, interface, struct, list}
use Rattle.capnp_model.specs.Calls.{Content, refused_by, bits_of, object, blob_tree}
use Rattle.capnp_model.specs.Edits.{Edit, put_child, put_in_element}
use Rattle.capnp_units.specs.Segments.{words_in}
use Rattle.capnp_units.specs.declared.errors.Error.{Error}
use Rattle.capnp_wire_objects.specs.Places.{seen}
use Rattle.capnp_wire_objects.specs.declared.place.Place as code
use Rattle.capnp_copy_arenas.specs.Allocations.{TakesJust, TakesAtMost}
use Rattle.capnp_copy_arenas.specs.declared.init.ListPlace.{ListPlace}
use Rattle.capnp_layout_builders.specs.Making.{ArenaState, Makes, Stays, BytesRefused}
use Rattle.capnp_values.specs.declared.dynamic_value.Reader.{Reader}
use Rattle.capnp_schema_structs.specs.Given.{plain_given, bits_given}
use Rattle.capnp_schema_structs.specs.Puts.{NewObjectRefused, HasCause}
use Rattle.capnp_schema_structs.proofs.lemmas.Grown.{same_grows}
use Rattle.capnp_schema_lists.specs.Lists.{HasPointer, IsListThere, EditsElement}
use Rattle.capnp_schema_lists.specs.Places.{IsElementPointer}
use Rattle.capnp_schema_lists.specs.Elements.{Holds, answer_of, single_element, single_edit, blob_given, flat_element, element_edit}
use Rattle.capnp_schema_lists.specs.Puts.{PutsElementObject, PutsElementContent}
use Rattle.capnp_schema_lists.proofs.Pointers.{pointer_put}

-- an object behind the pointer of an element
module _ (old new : ArenaState) (o : ListPlace) (slot : code.Place) (i : ℕ) (same : slot.segment ≡ o.start.segment) where
  pub object_put : (v : Tree) (n : ℕ) → object_words v ≡ n → HasPointer o → i < o.count → IsElementPointer o i slot → IsListThere (words_in old.segments) o → Makes old new slot v n → PutsElementObject old new o (λ words pointers. put_child 0 v) i (object_words v)
  object_put v n words has l at there m =
      let s = words_in old.segments in
      let u = words_in new.segments in
      let just = subst (λ k. TakesJust s old.room u k n) same m.taken in
      record {
        writes = pointer_put s o i slot has l at u v there m.becomes;
        taken = subst (λ k. TakesJust s old.room u o.start.segment k) (sym words) just;
        bound = subst (λ k. TakesAtMost s u k 1) (sym words) m.bound;
      }

  pub blob_not_put : (bytes : List ℕ) (e : Error) → BytesRefused old slot.segment (length bytes) e → NewObjectRefused old o.start.segment (blob_tree bytes) e
  unfolding object_words
  blob_not_put bytes e h = subst (λ k. BytesRefused old k (length bytes) e) same h

-- ---- by what is answered

module _ (old new : ArenaState) (r : Result ⊤ Error) where
  pub put_if : (f g : Type 0) → (f → g) → OnOk r f → OnOk r g
  put_if f g h x = by r x
    where
      by : (y : Result ⊤ Error) → OnOk y f → OnOk y g
      by (Ok z) k = h k
      by (Err e) k = tt

  pub not_put_if : (F G : Error → Type 0) → ((e : Error) → F e → G e) → IfErr r (λ e. F e × Stays old new) → IfErr r G
  not_put_if F G h x = by r x
    where
      by : (y : Result ⊤ Error) → IfErr y (λ e. F e × Stays old new) → IfErr y G
      by (Ok z) k = tt
      by (Err e) k = h e k.0

  pub stays_if : (F : Error → Type 0) → IfErr r (λ e. F e × Stays old new) → OnErr r (new.segments ≡ old.segments)
  stays_if F x = by r x
    where
      by : (y : Result ⊤ Error) → IfErr y (λ e. F e × Stays old new) → OnErr y (new.segments ≡ old.segments)
      by (Ok z) k = tt
      by (Err e) k = k.1.0

  pub grows_if : (F : Error → Type 0) → OnOk r (Grows (words_in old.segments) (words_in new.segments)) → IfErr r (λ e. F e × Stays old new) → Grows (words_in old.segments) (words_in new.segments)
  grows_if F x y = by r x y
    where
      by : (z : Result ⊤ Error) → OnOk z (Grows (words_in old.segments) (words_in new.segments)) → IfErr z (λ e. F e × Stays old new) → Grows (words_in old.segments) (words_in new.segments)
      by (Ok z) k j = k
      by (Err e) k j = same_grows old.segments new.segments j.1.0

-- ---- by the type

module _ {A : Type 0} (v : Reader A) where
  pub has_pointer : (o : ListPlace) (ty : Ty) (bytes : List ℕ) → blob_given v ty ≡ Some bytes → Holds o ty → HasPointer o
  has_pointer o text bytes e h = h
  has_pointer o blob bytes e h = h
  has_pointer o void bytes e h = absurd cc
  has_pointer o (plain p) bytes e h = absurd cc
  has_pointer o untyped bytes e h = absurd cc
  has_pointer o interface bytes e h = absurd cc
  has_pointer o (struct id) bytes e h = absurd cc
  has_pointer o (list ty) bytes e h = absurd cc

  abbrev content_of : Ty → Option (List ℕ) → Content
  content_of ty g = elim g as (λ (y : Option (List ℕ)). Content) [ None ↦ single_element v ty | Some bytes ↦ object (blob_tree bytes) ]

  content_some : (ty : Ty) (bytes : List ℕ) → blob_given v ty ≡ Some bytes → flat_element v ty ≡ object (blob_tree bytes)
  content_some ty bytes e = ap (content_of ty) e

  content_none : (ty : Ty) → blob_given v ty ≡ None → flat_element v ty ≡ single_element v ty
  content_none ty e = ap (content_of ty) e

  edit_with : (ty : Ty) (k : Content) → flat_element v ty ≡ k → element_edit v ty ≡ (λ words pointers. put_in_element words pointers ty k)
  edit_with ty k e = ap (λ y. λ words pointers. put_in_element words pointers ty y) e

  child_edit : (ty : Ty) (bytes : List ℕ) → blob_given v ty ≡ Some bytes → ◌≡◌ {A = ℕ → ℕ → Edit} (λ words pointers. put_in_element words pointers ty (object (blob_tree bytes))) (λ words pointers. put_child 0 (blob_tree bytes))
  child_edit text bytes e = refl
  child_edit blob bytes e = refl
  child_edit void bytes e = absurd cc
  child_edit (plain p) bytes e = absurd cc
  child_edit untyped bytes e = absurd cc
  child_edit interface bytes e = absurd cc
  child_edit (struct id) bytes e = absurd cc
  child_edit (list ty) bytes e = absurd cc

  -- a text or data
  pub puts_blob : (ty : Ty) (bytes : List ℕ) → blob_given v ty ≡ Some bytes → (old new : ArenaState) (o : ListPlace) (i : ℕ) (r : Result ⊤ Error)
      → OnOk r (PutsElementObject old new o (λ words pointers. put_child 0 (blob_tree bytes)) i (object_words (blob_tree bytes))) → IfErr r (NewObjectRefused old o.start.segment (blob_tree bytes)) → PutsElementContent old new (record { place = o; at = i; edit = element_edit v ty }) (flat_element v ty) r
  puts_blob ty bytes e old new o i r made refused =
      let f : element_edit v ty ≡ (λ words pointers. put_child 0 (blob_tree bytes)) = edit_with ty (object (blob_tree bytes)) (content_some ty bytes e) ∙ child_edit ty bytes e in
      let as_edit = subst (λ g. OnOk r (PutsElementObject old new o g i (object_words (blob_tree bytes)))) (sym f) made in
      subst (λ k. PutsElementContent old new (record { place = o; at = i; edit = element_edit v ty }) k r) (sym (content_some ty bytes e)) (as_edit, refused)

  -- another value is no object
  no_object : (ty : Ty) (t : Tree) → single_element v ty ≡ object t → ⊥
  no_object (plain p) t e = by (bits_given p (plain_given v)) e
    where
      by : (g : Option ℕ) → (elim g as (λ (y : Option ℕ). Content) [ None ↦ refused_by TypeMismatch | Some n ↦ bits_of n ]) ≡ object t → ⊥
      by None e = cc
      by (Some n) e = cc
  no_object void t e = cc
  no_object text t e = cc
  no_object blob t e = cc
  no_object untyped t e = cc
  no_object interface t e = cc
  no_object (struct id) t e = cc
  no_object (list ty) t e = cc

  single_as : (ty : Ty) (k : Content) → single_element v ty ≡ k → (old new : ArenaState) (o : ListPlace) (f : ℕ → ℕ → Edit) (i : ℕ) (r : Result ⊤ Error) → seen (λ x. x) r ≡ answer_of k
      → OnOk r (EditsElement (words_in old.segments) (words_in new.segments) o f i) → map length (words_in new.segments) ≡ map length (words_in old.segments) → PutsElementContent old new (record { place = o; at = i; edit = f }) k r
  single_as ty (refused_by k) is old new o f i (Err e) a h sizes = a
  single_as ty (refused_by k) is old new o f i (Ok x) a h sizes = absurd cc
  single_as ty (bits_of n) is old new o f i (Ok x) a h sizes = (refl, record { writes = h; sizes = sizes })
  single_as ty (bits_of n) is old new o f i (Err e) a h sizes = absurd cc
  single_as ty (object t) is old new o f i r a h sizes = absurd (no_object ty t is)

  pub puts_single : (ty : Ty) → blob_given v ty ≡ None → (old new : ArenaState) (o : ListPlace) (i : ℕ) (r : Result ⊤ Error) → seen (λ x. x) r ≡ answer_of (single_element v ty)
      → OnOk r (EditsElement (words_in old.segments) (words_in new.segments) o (single_edit v ty) i) → map length (words_in new.segments) ≡ map length (words_in old.segments) → PutsElementContent old new (record { place = o; at = i; edit = element_edit v ty }) (flat_element v ty) r
  puts_single ty none old new o i r a h sizes =
      let content = content_none ty none in
      let put = single_as ty (single_element v ty) refl old new o (single_edit v ty) i r a h sizes in
      let as_edit = subst (λ g. PutsElementContent old new (record { place = o; at = i; edit = g }) (single_element v ty) r) (sym (edit_with ty (single_element v ty) content)) put in
      subst (λ k. PutsElementContent old new (record { place = o; at = i; edit = element_edit v ty }) k r) (sym content) as_edit

-- ---- a single value is no object

bits_cause : (o : Option ℕ) (told : Error → Type 0) (e : Error) → HasCause (elim o [ None ↦ refused_by TypeMismatch | Some n ↦ bits_of n ]) told e
bits_cause None told e = tt
bits_cause (Some n) told e = tt

single_caused : {A : Type 0} (v : Reader A) (ty : Ty) (told : Error → Type 0) (e : Error) → HasCause (single_element v ty) told e
single_caused v void told e = tt
single_caused v (plain p) told e = bits_cause (bits_given p (plain_given v)) told e
single_caused v text told e = tt
single_caused v blob told e = tt
single_caused v untyped told e = tt
single_caused v interface told e = tt
single_caused v (struct id) told e = tt
single_caused v (list ty) told e = tt

pub single_cause : {A : Type 0} (v : Reader A) (ty : Ty) → blob_given v ty ≡ None → (told : Error → Type 0) (r : Result ⊤ Error) → IfErr r (HasCause (flat_element v ty) told)
single_cause v ty none told (Ok x) = tt
single_cause v ty none told (Err e) =
    let is : flat_element v ty ≡ single_element v ty = ap (λ (o : Option (List ℕ)). elim o as (λ (y : Option (List ℕ)). Content) [ None ↦ single_element v ty | Some bytes ↦ object (blob_tree bytes) ]) none in
    subst (λ k. HasCause k told e) (sym is) (single_caused v ty told e)
