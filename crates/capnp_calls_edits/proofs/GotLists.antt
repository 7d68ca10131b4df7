-- A list that a pointer names is what its place tells.
use Rattle.std.proofs.Common.{◌≡◌, ◌⊎◌, inl, inr, ℕ, ◌+◌, ◌<◌, Some, Ok, refl, ap, sym, ◌∙◌, subst, arith}
use Rattle.std.specs.Option.{ok_or}
use Rattle.capnp_model.specs.Kinds.{OutOfBounds, WrongElementSize}
use Rattle.capnp_model.specs.Readings.{is_accepted_as}
use Rattle.capnp_model.specs.Segments.{Segments, after, word_at, words_at}
use Rattle.capnp_model.specs.Pointers.{a_list, nothing}
use Rattle.capnp_model.specs.Traversal.{ListKind, of_bits, list_kind, list_words, tag_in}
use Rattle.capnp_model.specs.Trees.{Tree}
use Rattle.capnp_model.proofs.lemmas.Chaining.{bind_ok, ok_is, ok_or_some, guard_ok}
use Rattle.capnp_wire_objects.specs.declared.object.Object.{Object}
use Rattle.capnp_wire_objects.specs.declared.object.Object.TheVariants as object
use Rattle.capnp_wire_objects.specs.declared.object.Found.{Found}
use Rattle.capnp_wire_objects.specs.declared.place.Place as code
use Rattle.capnp_wire_objects.specs.Objects.{object_at, whole, whole_list, plain_size}
use Rattle.capnp_units.specs.declared.sizes.ElementSize.{ElementSize}
use Rattle.capnp_units.specs.declared.sizes.ElementSize.TheVariants.{Void, Bit, Byte, TwoBytes, FourBytes, EightBytes, Pointer, InlineComposite}
use Rattle.capnp_units.specs.Sizes.{size_number}
use Rattle.capnp_wire_objects.specs.Places.{place_view, placed}
use Rattle.capnp_wire.specs.Reads.{list_head}
use Rattle.capnp_model_writes.specs.Footprints.{OwnsObject}
use Rattle.capnp_model_writes.proofs.lemmas.Turns.{list_shape, list_counted}
use Rattle.capnp_model_writes.proofs.lemmas.Turns as turns
use Rattle.capnp_copy_arenas.specs.declared.init.ListPlace.{ListPlace}
use Rattle.capnp_copy_arenas.specs.Elements.{IsNullOrWhole}
use Rattle.capnp_copy_arenas.specs.Lists.{object_of_list}
use Rattle.capnp_copy_arenas.specs.Values.{LeadsTo}
use Rattle.capnp_copy_widening.specs.Got.{list_place_in, list_named}
use Rattle.capnp_copy_widening.specs.declared.lists.Taker.TheVariants as taker
use Rattle.capnp_copy_widening.proofs.lemmas.CopiedNumbers.{plain_shape}
use Rattle.capnp_copy_widening.proofs.lemmas.GotStructs.{same_object}
use Rattle.capnp_copy_widening.proofs.lemmas.ObjectsThere.{named_at}
use Rattle.capnp_schema_lists.specs.Lists.{IsListOf}
use Rattle.capnp_model.proofs.lemmas.PointerWords.{list_kind_small}
use Rattle.capnp_calls_edits.specs.Elements.{IsListFound}
use Rattle.capnp_copy_arenas.proofs.lemmas.Making.{null_found}

-- what the place of a list tells
record Told (s : Segments) (o : ListPlace) : Type 0 where
  counted : size_number o.size < 7 → o.claimed ≡ o.count
  values : (n : ℕ) (t : Tree) → OwnsObject n s (object_of_list o) t → IsListOf o t

-- what an object's list has
from_plain : (slot : code.Place) (expected : ElementSize) (q : code.Place) (size : ElementSize) (n : ℕ) (o : ListPlace) → list_place_in taker.Reader slot expected (object.List q size n) ≡ Ok o → (o.claimed ≡ n) × (o.count ≡ n)
from_plain slot expected q size n o e =
    let g = guard_ok (is_accepted_as (size_number expected) (list_head size 0 0)) WrongElementSize _ o e in
    let is = ok_is _ _ g.1 in
    (sym (ap (λ (x : ListPlace). x.claimed) is), sym (ap (λ (x : ListPlace). x.count) is))

from_pointers : (slot : code.Place) (expected : ElementSize) (q : code.Place) (n : ℕ) (o : ListPlace) → list_place_in taker.Reader slot expected (object.PointerList q n) ≡ Ok o → (o.claimed ≡ n) × (o.count ≡ n)
from_pointers slot expected q n o e =
    let g = guard_ok (is_accepted_as (size_number expected) (list_head Pointer 0 0)) WrongElementSize _ o e in
    let is = ok_is _ _ g.1 in
    (sym (ap (λ (x : ListPlace). x.claimed) is), sym (ap (λ (x : ListPlace). x.count) is))

from_structs : (slot : code.Place) (expected : ElementSize) (q : code.Place) (words n d k : ℕ) (o : ListPlace) → list_place_in taker.Reader slot expected (object.StructList q words n d k) ≡ Ok o → (o.count ≡ n) × (o.data_words ≡ d) × (o.pointers ≡ k)
from_structs slot expected q words n d k o e =
    let g = guard_ok (is_accepted_as (size_number expected) (list_head InlineComposite d k)) WrongElementSize _ o e in
    let is = ok_is _ _ g.1 in
    (sym (ap (λ (x : ListPlace). x.count) is), sym (ap (λ (x : ListPlace). x.data_words) is), sym (ap (λ (x : ListPlace). x.pointers) is))

-- ---- each kind

told_plain : (s : Segments) (slot : code.Place) (expected : ElementSize) (o : ListPlace) (f : Object) → size_number o.size < 6 → whole s (object_of_list o) ≡ Ok f → list_place_in taker.Reader slot expected f ≡ Ok o → Told s o
told_plain s slot expected o f l e is =
    let kind = list_kind_small (size_number o.size) l in
    let x = bind_ok (ok_or (words_at s (place_view o.start) (list_words (list_kind (size_number o.size)) (size_number o.size) o.claimed)) OutOfBounds) _ f e in
    let y : whole_list (place_view o.start) of_bits (size_number o.size) o.claimed x.0 ≡ Ok f = subst (λ (kd : ListKind). whole_list (place_view o.start) kd (size_number o.size) o.claimed x.0 ≡ Ok f) kind x.2 in
    let object_is = ok_is _ _ y in
    let z = from_plain slot expected (placed (place_view o.start)) (plain_size (size_number o.size)) o.claimed o (ap (list_place_in taker.Reader slot expected) object_is ∙ is) in
    record {
      counted = λ less. sym z.1;
      values = λ n t own. (
          let p = plain_shape n s (place_view o.start) (size_number o.size) o.claimed t kind own in
          subst (IsListOf o) (sym p.1) (refl, l, sym z.1)
          );
    }

told_pointers : (s : Segments) (slot : code.Place) (expected : ElementSize) (o : ListPlace) (f : Object) → o.size ≡ Pointer → whole s (object_of_list o) ≡ Ok f → list_place_in taker.Reader slot expected f ≡ Ok o → Told s o
told_pointers s slot expected o f size e is =
    let six : size_number o.size ≡ 6 = ap size_number size in
    let e' : whole s (a_list (place_view o.start) 6 o.claimed) ≡ Ok f = subst (λ (x : ℕ). whole s (a_list (place_view o.start) x o.claimed) ≡ Ok f) six e in
    let x = bind_ok (ok_or (words_at s (place_view o.start) o.claimed) OutOfBounds) _ f e' in
    let object_is = ok_is _ _ x.2 in
    let z = from_pointers slot expected (placed (place_view o.start)) o.claimed o (ap (list_place_in taker.Reader slot expected) object_is ∙ is) in
    record {
      counted = λ less. sym z.1;
      values = λ n t own. (
          let here = subst (λ (j : ℕ). OwnsObject n s (a_list (place_view o.start) j o.claimed) t) six own in
          let p = list_shape n s (place_view o.start) o.claimed t here in
          let many = list_counted n s (place_view o.start) o.claimed p.0 (subst (λ y. OwnsObject n s (a_list (place_view o.start) 6 o.claimed) y) p.1 here) in
          subst (IsListOf o) (sym p.1) (six, many ∙ sym z.1)
          );
    }

told_structs : (s : Segments) (slot : code.Place) (expected : ElementSize) (o : ListPlace) (f : Object) → o.size ≡ InlineComposite → whole s (object_of_list o) ≡ Ok f → list_place_in taker.Reader slot expected f ≡ Ok o → Told s o
told_structs s slot expected o f size e is =
    let seven : size_number o.size ≡ 7 = ap size_number size in
    let e' : whole s (a_list (place_view o.start) 7 o.claimed) ≡ Ok f = subst (λ (x : ℕ). whole s (a_list (place_view o.start) x o.claimed) ≡ Ok f) seven e in
    let x = bind_ok (ok_or (words_at s (place_view o.start) (1 + o.claimed)) OutOfBounds) _ f e' in
    let y = bind_ok (tag_in x.0) _ f x.2 in
    let object_is = ok_is _ _ y.2 in
    let z = from_structs slot expected (placed (after (place_view o.start) 1)) o.claimed y.0.count y.0.data_words y.0.pointers o (ap (list_place_in taker.Reader slot expected) object_is ∙ is) in
    record {
      counted = λ less. absurd (omega (arith, less, seven));
      values = λ n t own. (
          let here = subst (λ (j : ℕ). OwnsObject n s (a_list (place_view o.start) j o.claimed) t) seven own in
          let p = turns.structs_shape n s (place_view o.start) o.claimed x.0 y.0 t (ok_or_some _ _ _ x.1) y.1 here in
          subst (IsListOf o) (sym p.1) (seven, sym z.1, sym z.2, p.2 ∙ sym z.0)
          );
    }

by_size : (s : Segments) (slot : code.Place) (expected : ElementSize) (o : ListPlace) (f : Object) (size : ElementSize) → o.size ≡ size → whole s (object_of_list o) ≡ Ok f → list_place_in taker.Reader slot expected f ≡ Ok o → Told s o
by_size s slot expected o f Void e w is = told_plain s slot expected o f (let n : size_number o.size ≡ 0 = ap size_number e in omega (arith, n)) w is
by_size s slot expected o f Bit e w is = told_plain s slot expected o f (let n : size_number o.size ≡ 1 = ap size_number e in omega (arith, n)) w is
by_size s slot expected o f Byte e w is = told_plain s slot expected o f (let n : size_number o.size ≡ 2 = ap size_number e in omega (arith, n)) w is
by_size s slot expected o f TwoBytes e w is = told_plain s slot expected o f (let n : size_number o.size ≡ 3 = ap size_number e in omega (arith, n)) w is
by_size s slot expected o f FourBytes e w is = told_plain s slot expected o f (let n : size_number o.size ≡ 4 = ap size_number e in omega (arith, n)) w is
by_size s slot expected o f EightBytes e w is = told_plain s slot expected o f (let n : size_number o.size ≡ 5 = ap size_number e in omega (arith, n)) w is
by_size s slot expected o f Pointer e w is = told_pointers s slot expected o f e w is
by_size s slot expected o f InlineComposite e w is = told_structs s slot expected o f e w is

told : (s : Segments) (slot : code.Place) (expected : ElementSize) (o : ListPlace) → list_named taker.Reader s slot expected ≡ Ok o → LeadsTo s (place_view slot) (object_of_list o) → Told s o
told s slot expected o e leads =
    let x = bind_ok (object_at s (place_view slot)) _ o e in
    let named = named_at s (place_view slot) x.0 x.1 in
    let same = same_object s (place_view slot) named.object_named (object_of_list o) (x.0.pads, named.leads) leads in
    let is_whole : whole s (object_of_list o) ≡ Ok x.0.object = ap (whole s) (sym same) ∙ named.is_whole in
    by_size s slot expected o x.0.object o.size refl is_whole x.2

-- ---- null has no element

null_count : (s : Segments) (slot : code.Place) (expected : ElementSize) (o : ListPlace) (f : Found) → object_at s (place_view slot) ≡ Ok f → list_place_in taker.Reader slot expected f.object ≡ Ok o → LeadsTo s (place_view slot) nothing → o.count ≡ 0
null_count s slot expected o f there e leads =
    let named = named_at s (place_view slot) f there in
    let same = same_object s (place_view slot) named.object_named nothing (f.pads, named.leads) leads in
    let none : f.object ≡ object.Null = sym (ok_is _ _ (ap (whole s) (sym same) ∙ named.is_whole)) in
    sym (ap (λ (x : ListPlace). x.count) (ok_is _ _ (ap (list_place_in taker.Reader slot expected) (sym none) ∙ e)))

-- THE LAW
module _ (s : Segments) (slot : code.Place) (expected : ElementSize) (o : ListPlace) (named : list_named taker.Reader s slot expected ≡ Ok o) where
  pub list_leads : (word_at s (place_view slot) ≡ Some 0) ⊎ LeadsTo s (place_view slot) (object_of_list o) → 0 < o.count → LeadsTo s (place_view slot) (object_of_list o)
  list_leads (inr leads) some = leads
  list_leads (inl e) some =
      let x = bind_ok (object_at s (place_view slot)) _ o named in
      let none = null_count s slot expected o x.0 x.1 x.2 (null_found s (place_view slot) e) in
      absurd (omega (arith, none, some))

  pub list_found : LeadsTo s (place_view slot) (object_of_list o) → IsNullOrWhole s (place_view slot) o → 0 < o.count → IsListFound s o
  list_found leads (inl none) some = let e = none.1 in absurd (omega (arith, e, some))
  list_found leads (inr is_whole) some =
      let x = told s slot expected o named leads in
      record { there = record { whole = is_whole; counted = x.counted }; values = x.values }
