-- Where a value is, its object is there, and a list tells how many elements it has.
use Rattle.std.proofs.Common.{◌≡◌, ℕ, suc, ◌+◌, Bool, true, false, List, Option, Some, Result, Ok, Err, refl, ap, sym, ◌∙◌, subst}
use Rattle.std.specs.Option.{ok_or}
use Rattle.std.specs.Prelude.{IsOk}
use Rattle.capnp_model.specs.Kinds.{Kind, OutOfBounds, WrongElementSize}
use Rattle.capnp_model.specs.Chains.{◌and_then◌, guard}
use Rattle.capnp_model.specs.Segments.{Segments, Place, after, words_at}
use Rattle.capnp_model.specs.Pointers as model
use Rattle.capnp_model.specs.Traversal.{tree_at, tree_of, list_tree, ListKind, of_bits, of_pointers, of_structs, list_kind, list_words, tag_in, each, each_element}
use Rattle.capnp_model.specs.Trees.{Tree, null, capability, structure, plain_list, pointer_list, struct_list}
use Rattle.capnp_model.specs.Schemas.{Schema, Ty, list}
use Rattle.capnp_model.specs.Readings.{read, is_accepted_as, expected_size}
use Rattle.capnp_model.proofs.lemmas.Chaining.{guard_ok, ok_then, bind_some, bind_found, some_is, ok_is, bind_ok}
use Rattle.capnp_wire_objects.specs.declared.object.Object.{Object}
use Rattle.capnp_wire_objects.specs.declared.object.Object.TheVariants as object
use Rattle.capnp_wire_objects.specs.declared.object.Found.{Found}
use Rattle.capnp_wire_objects.specs.declared.place.Place as code
use Rattle.capnp_wire_objects.specs.Objects.{plain_size, whole, whole_list, object_at}
use Rattle.capnp_wire_objects.specs.Places.{placed}
use Rattle.capnp_units.specs.declared.sizes.ElementSize.{ElementSize}
use Rattle.capnp_units.specs.declared.sizes.ElementSize.TheVariants.{Pointer, InlineComposite}
use Rattle.capnp_units.specs.Sizes.{size_number}
use Rattle.capnp_wire_objects.specs.Places.{place_view}
use Rattle.capnp_wire.specs.Views.{Ground, ListView}
use Rattle.capnp_wire.specs.Reads.{list_head, read_list}
use Rattle.capnp_wire.specs.Laws.{ShowsList, IsRead, ListsAreRead}
use Rattle.capnp_copy_arenas.specs.declared.init.ListPlace.{ListPlace}
use Rattle.capnp_copy_widening.specs.Got.{list_place_in, list_named}
use Rattle.capnp_copy_widening.specs.declared.lists.Taker.TheVariants as taker
use Rattle.capnp_copy_widening.specs.Widened.{IsObjectOfStruct, IsStructOrNull}
use Rattle.capnp_calls_edits.specs.Written.{HasNoFault}
use Rattle.capnp_calls_edits.specs.Elements.{IsOfStruct, list_count}

-- ---- objects that are there

list_there : (below : Place → Option Tree) (p : Place) (kind : ListKind) (size n : ℕ) (ws : List ℕ) (t : Tree) → list_tree below p kind size n ws ≡ Some t → (o : Object) × (whole_list p kind size n ws ≡ Ok o)
list_there below p of_bits size n ws t e = (object.List (placed p) (plain_size size) n, refl)
list_there below p of_pointers size n ws t e = (object.PointerList (placed p) n, refl)
list_there below p of_structs size n ws t e =
    let a = bind_found (tag_in ws) _ t e in
    (object.StructList (placed (after p 1)) n a.0.count a.0.data_words a.0.pointers, ok_then (tag_in ws) _ a.0 _ a.1 refl)

whole_there : (s : Segments) (below : Place → Option Tree) (m : model.Object) (t : Tree) → tree_of s below m ≡ Some t → (o : Object) × (whole s m ≡ Ok o)
whole_there s below model.nothing t e = (object.Null, refl)
whole_there s below (model.a_capability i) t e = (object.Capability i, refl)
whole_there s below (model.a_struct p d k) t e =
    let a = bind_some (words_at s p (d + k)) _ t e in
    (object.Struct (placed p) d k, ok_then (ok_or (words_at s p (d + k)) OutOfBounds) _ a.0 _ (ap (λ x. ok_or x OutOfBounds) a.1) refl)
whole_there s below (model.a_list p size n) t e =
    let a = bind_some (words_at s p (list_words (list_kind size) size n)) _ t e in
    let o = list_there below p (list_kind size) size n a.0 t a.2 in
    (o.0, ok_then (ok_or (words_at s p (list_words (list_kind size) size n)) OutOfBounds) _ a.0 _ (ap (λ x. ok_or x OutOfBounds) a.1) o.1)

pub object_there : (n : ℕ) (s : Segments) (p : Place) (t : Tree) → tree_at (suc n) s p ≡ Some t → (f : Found) × (object_at s p ≡ Ok f)
unfolding tree_at object_at
object_there n s p t e =
    let a = bind_found (model.found_at s p) _ t e in
    let w = whole_there s (tree_at n s) a.0.object t a.2 in
    (record { pads = a.0.pads; object = w.0 }, ok_then (model.found_at s p) _ a.0 _ a.1 (ok_then (whole s a.0.object) _ w.0 _ w.1 refl))

-- ---- structs

no_list : (below : Place → Option Tree) (p : Place) (kind : ListKind) (size n : ℕ) (ws : List ℕ) (t : Tree) → list_tree below p kind size n ws ≡ Some t → IsOfStruct t → ⊥
no_list below p of_bits size n ws t e is = subst IsOfStruct (sym (some_is _ _ e)) is
no_list below p of_pointers size n ws t e is =
    let a = bind_some (each below p n) _ t e in
    subst IsOfStruct (sym (some_is _ _ a.2)) is
no_list below p of_structs size n ws t e is =
    let a = bind_found (tag_in ws) _ t e in
    let b = bind_some (each_element below (after p 1) _ a.0.data_words a.0.pointers a.0.count) _ t a.2 in
    subst IsOfStruct (sym (some_is _ _ b.2)) is

whole_struct : (s : Segments) (below : Place → Option Tree) (m : model.Object) (t : Tree) → tree_of s below m ≡ Some t → IsOfStruct t → (o : Object) × (whole s m ≡ Ok o) × IsObjectOfStruct o
whole_struct s below model.nothing t e is = (object.Null, refl, tt)
whole_struct s below (model.a_capability i) t e is = absurd (subst IsOfStruct (sym (some_is _ _ e)) is)
whole_struct s below (model.a_struct p d k) t e is =
    let a = bind_some (words_at s p (d + k)) _ t e in
    (object.Struct (placed p) d k, ok_then (ok_or (words_at s p (d + k)) OutOfBounds) _ a.0 _ (ap (λ x. ok_or x OutOfBounds) a.1) refl, tt)
whole_struct s below (model.a_list p size n) t e is =
    let a = bind_some (words_at s p (list_words (list_kind size) size n)) _ t e in
    absurd (no_list below p (list_kind size) size n a.0 t a.2 is)

-- where a struct or null is, its object is one
pub struct_there : (n : ℕ) (s : Segments) (p : Place) (t : Tree) → tree_at (suc n) s p ≡ Some t → IsOfStruct t → IsStructOrNull (object_at s p)
unfolding tree_at object_at
struct_there n s p t e is =
    let a = bind_found (model.found_at s p) _ t e in
    let w = whole_struct s (tree_at n s) a.0.object t a.2 is in
    let f : Found = record { pads = a.0.pads; object = w.0 } in
    let there : (model.found_at s p and_then λ x. whole s x.object and_then λ o. Ok (record { pads = x.pads; object = o })) ≡ Ok f =
    ok_then (model.found_at s p) _ a.0 _ a.1 (ok_then (whole s a.0.object) _ w.0 _ w.1 refl) in
    subst IsStructOrNull (sym there) w.2

pub no_other : (o : Object) → (o ≡ object.Null → ⊥) → ((p : code.Place) (d k : ℕ) → o ≡ object.Struct p d k → ⊥) → IsObjectOfStruct o → ⊥
no_other object.Null a b h = a refl
no_other (object.Struct p d k) a b h = b p d k refl
no_other (object.List p size n) a b h = h
no_other (object.PointerList p n) a b h = h
no_other (object.StructList p words n d k) a b h = h
no_other (object.Capability i) a b h = h

-- ---- lists

-- what the list that an object is, and the list that is read of it, have alike
record Alike (r : Result ListPlace Kind) (x : Result ListView Kind) : Type 0 where
  o : ListPlace
  v : ListView
  place : r ≡ Ok o
  view : x ≡ Ok v
  count : v.count ≡ o.count

both : (b : Bool) (l : ListPlace) (v : ListView) → v.count ≡ l.count → ((k : Kind) → (guard b WrongElementSize and_then λ _. Ok v) ≡ Err k → ⊥) → Alike (guard b WrongElementSize and_then λ _. Ok l) (guard b WrongElementSize and_then λ _. Ok v)
both true l v e never = record { o = l; v = v; place = refl; view = refl; count = e }
both false l v e never = absurd (never WrongElementSize refl)

module _ (g : Ground) (slot : code.Place) (expected : ElementSize) where
  alike : (o : Object) → ((k : Kind) → read_list g (Some 1) expected o ≡ Err k → ⊥) → Alike (list_place_in taker.Reader slot expected o) (read_list g (Some 1) expected o)
  alike object.Null never = record { o = _; v = _; place = refl; view = refl; count = refl }
  alike (object.List p size n) never = both (is_accepted_as (size_number expected) (list_head size 0 0)) _ _ refl never
  alike (object.PointerList p n) never = both (is_accepted_as (size_number expected) (list_head Pointer 0 0)) _ _ refl never
  alike (object.StructList p words n d k) never = both (is_accepted_as (size_number expected) (list_head InlineComposite d k)) _ _ refl never
  alike (object.Struct p d k) never = absurd (never _ refl)
  alike (object.Capability i) never = absurd (never _ refl)

  -- the list that an object is, is read
  read_too : (o : Object) (l : ListPlace) → list_place_in taker.Reader slot expected o ≡ Ok l → (v : ListView) × (read_list g (Some 1) expected o ≡ Ok v) × (v.count ≡ l.count)
  read_too object.Null l e = (_, refl, ap (λ (x : ListPlace). x.count) (ok_is _ _ e))
  read_too (object.List p size n) l e =
      let a = guard_ok (is_accepted_as (size_number expected) (list_head size 0 0)) WrongElementSize _ l e in
      (_, ok_then (guard (is_accepted_as (size_number expected) (list_head size 0 0)) WrongElementSize) _ tt _ (ap (λ b. guard b WrongElementSize) a.0) refl, ap (λ (x : ListPlace). x.count) (ok_is _ _ a.1))
  read_too (object.PointerList p n) l e =
      let a = guard_ok (is_accepted_as (size_number expected) (list_head Pointer 0 0)) WrongElementSize _ l e in
      (_, ok_then (guard (is_accepted_as (size_number expected) (list_head Pointer 0 0)) WrongElementSize) _ tt _ (ap (λ b. guard b WrongElementSize) a.0) refl, ap (λ (x : ListPlace). x.count) (ok_is _ _ a.1))
  read_too (object.StructList p words n d k) l e =
      let a = guard_ok (is_accepted_as (size_number expected) (list_head InlineComposite d k)) WrongElementSize _ l e in
      (_, ok_then (guard (is_accepted_as (size_number expected) (list_head InlineComposite d k)) WrongElementSize) _ tt _ (ap (λ b. guard b WrongElementSize) a.0) refl, ap (λ (x : ListPlace). x.count) (ok_is _ _ a.1))
  read_too (object.Struct p d k) l e = absurd (cc e)
  read_too (object.Capability i) l e = absurd (cc e)

abbrev ground : Segments → Ground
ground s = record { segments = s; paid = false }

shown_count : (below : Place → Option Tree) (v : ListView) (t : Tree) → ShowsList below v t → v.count ≡ list_count t
shown_count below v null h = h
shown_count below v (capability i) h = absurd h
shown_count below v (structure w x ts) h = absurd h
shown_count below v (plain_list size n x) h = h.1
shown_count below v (pointer_list ts) h = h.1
shown_count below v (struct_list w p es) h = h.1

module _ (law : ListsAreRead) (n : ℕ) (s : Segments) (slot : code.Place) (expected : ElementSize) (t : Tree) (tree : tree_at (suc n) s (place_view slot) ≡ Some t) where
  read_here : (f : Found) → object_at s (place_view slot) ≡ Ok f → IsRead n (place_view slot) f t (ground s) (Some 1)
  read_here f e = record { found = e; tree = tree; below = Some 0; level = refl }

  -- it has as many elements as the value
  pub named_count : (o : ListPlace) → list_named taker.Reader s slot expected ≡ Ok o → o.count ≡ list_count t
  named_count o e =
      let a = bind_ok (object_at s (place_view slot)) _ o e in
      let x = read_too (ground s) slot expected a.0.object o a.2 in
      sym x.2 ∙ shown_count (tree_at n s) x.0 t ((law n (place_view slot) a.0 t (ground s) (Some 1) expected (read_here a.0 a.1)).0 x.0 x.1)

  -- where the value can be read as a list of the type, it names one
  pub named_there : (sch : Schema) (ty : Ty) → size_number expected ≡ expected_size ty → HasNoFault (read sch t (list ty)) → IsOk (list_named taker.Reader s slot expected)
  named_there sch ty same sound =
      let a = object_there n s (place_view slot) t tree in
      let never : (k : Kind) → read_list (ground s) (Some 1) expected a.0.object ≡ Err k → ⊥ =
      λ k e. subst HasNoFault ((law n (place_view slot) a.0 t (ground s) (Some 1) expected (read_here a.0 a.1)).1 k sch ty same e) sound in
      let x = alike (ground s) slot expected a.0.object never in
      let there : list_named taker.Reader s slot expected ≡ Ok x.o = ok_then (object_at s (place_view slot)) _ a.0 _ a.1 x.place in
      subst IsOk (sym there) refl
