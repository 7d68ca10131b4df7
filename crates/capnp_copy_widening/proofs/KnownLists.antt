-- What is known of a list that is there.
use Rattle.std.proofs.Common.{◌≡◌, ◌⊎◌, inl, inr, ℕ, max, cond, eqb, ◌+◌, ◌*◌, ◌%◌, ◌^◌, ◌<◌, List, length, drop, true, Some, Result, Ok, refl, ap, sym, ◌∙◌, subst, arith}
use Rattle.std.specs.Option.{is_some, ok_or}
use Rattle.capnp_model.specs.Kinds.{Kind, OutOfBounds, WrongElementSize}
use Rattle.capnp_model.specs.Readings.{is_accepted_as}
use Rattle.capnp_model.specs.Sections.{section_of, words_for}
use Rattle.capnp_model.specs.Segments.{Segments, Place, place, after, word_at, words_at}
use Rattle.capnp_model.specs.Pointers.{found_at, a_list}
use Rattle.capnp_model.specs.Traversal.{Tag, ListKind, of_bits, list_kind, list_words, tag_in, tree_at}
use Rattle.capnp_model.specs.Trees.{Tree, plain_list, size_bits}
use Rattle.capnp_model.specs.Coverage.{Grows}
use Rattle.capnp_model.specs.Fits.{Fits}
use Rattle.capnp_model.proofs.lemmas.Chaining.{bind_ok, ok_is, ok_or_some, guard_ok}
use Rattle.capnp_model.proofs.lemmas.ReadFits.{tree_at_fits, words_length}
use Rattle.capnp_wire_objects.specs.declared.object.Object.{Object}
use Rattle.capnp_wire_objects.specs.declared.object.Object.TheVariants as object
use Rattle.capnp_wire_objects.specs.declared.place.Place as code
use Rattle.capnp_wire.specs.Elements.{step_bits, step_words}
use Rattle.capnp_wire_objects.specs.Objects.{AreThere, object_at, whole, whole_list, plain_size}
use Rattle.capnp_units.specs.declared.sizes.ElementSize.{ElementSize}
use Rattle.capnp_units.specs.declared.sizes.ElementSize.TheVariants.{Void, Bit, Byte, TwoBytes, FourBytes, EightBytes, Pointer, InlineComposite}
use Rattle.capnp_units.specs.Sizes.{size_number}
use Rattle.capnp_wire_objects.specs.Places.{place_view, placed}
use Rattle.capnp_wire.specs.Reads.{list_head}
use Rattle.capnp_model_writes.specs.Footprints.{OwnsObject}
use Rattle.capnp_model_writes.proofs.lemmas.Kept.{tag_fits}
use Rattle.capnp_model_writes.proofs.lemmas.Spans.{words_back}
use Rattle.capnp_model_writes.proofs.lemmas.Turns.{list_shape}
use Rattle.capnp_model_writes.proofs.lemmas.Turns as turns
use Rattle.capnp_copy_arenas.specs.declared.init.ListPlace.{ListPlace}
use Rattle.capnp_copy_arenas.specs.Allocations.{total_words}
use Rattle.capnp_copy_arenas.specs.Elements.{HasElements}
use Rattle.capnp_copy_arenas.specs.Lists.{object_of_list}
use Rattle.capnp_copy_arenas.specs.Values.{LeadsTo}
use Rattle.capnp_copy_arenas.proofs.lemmas.RoomLaws.{still_some}
use Rattle.capnp_copy_arenas.proofs.lemmas.Parts.{section_there}
use Rattle.capnp_model.proofs.lemmas.PointerWords.{list_kind_small}
use Rattle.capnp_copy_widening.specs.Got.{list_place_in}
use Rattle.capnp_copy_widening.specs.declared.lists.Taker.TheVariants as taker
use Rattle.capnp_copy_widening.specs.MovedElements.{IsOfList, HasList, HasStructs, least_data_words, least_pointers}
use Rattle.capnp_copy_widening.specs.WidenedLists.{list_there, IsWideList}
use Rattle.capnp_copy_widening.proofs.SpreadPointers.{one_pointer}
use Rattle.capnp_copy_widening.proofs.lemmas.CopiedNumbers.{plain_shape}
use Rattle.capnp_copy_widening.proofs.lemmas.GotStructs.{same_object}
use Rattle.capnp_copy_widening.proofs.lemmas.ObjectsThere.{named_at}
use Rattle.capnp_copy_widening.proofs.lemmas.Standing.{within_total}

-- what is known of each kind
pub data Known (s : Segments) (o : ListPlace) : Type 0 where
  plain_known : size_number o.size < 6 → o.claimed ≡ o.count → o.count < 2 ^ 29 → is_some (words_at s (place_view o.start) 0) ≡ true → Known s o
  pointers_known : o.size ≡ Pointer → o.claimed ≡ o.count → is_some (words_at s (place_view o.start) o.count) ≡ true → Known s o
  structs_known : o.size ≡ InlineComposite → (ws : List ℕ) → words_at s (place_view o.start) (1 + o.claimed) ≡ Some ws → tag_in ws ≡ Ok (record { count = o.count; data_words = o.data_words; pointers = o.pointers }) → Known s o

-- ---- the place that was answered

-- what an object's list has
from_plain : (slot : code.Place) (q : code.Place) (size : ElementSize) (n : ℕ) (o : ListPlace) → list_place_in taker.Reader slot InlineComposite (object.List q size n) ≡ Ok o → (o.claimed ≡ n) × (o.count ≡ n) × (o.size ≡ size)
from_plain slot q size n o e =
    let g = guard_ok (is_accepted_as 7 (list_head size 0 0)) WrongElementSize _ o e in
    let is = ok_is _ _ g.1 in
    (sym (ap (λ (x : ListPlace). x.claimed) is), sym (ap (λ (x : ListPlace). x.count) is), sym (ap (λ (x : ListPlace). x.size) is))

from_pointers : (slot : code.Place) (q : code.Place) (n : ℕ) (o : ListPlace) → list_place_in taker.Reader slot InlineComposite (object.PointerList q n) ≡ Ok o → (o.claimed ≡ n) × (o.count ≡ n)
from_pointers slot q n o e =
    let g = guard_ok (is_accepted_as 7 (list_head Pointer 0 0)) WrongElementSize _ o e in
    let is = ok_is _ _ g.1 in
    (sym (ap (λ (x : ListPlace). x.claimed) is), sym (ap (λ (x : ListPlace). x.count) is))

from_structs : (slot : code.Place) (q : code.Place) (words n d k : ℕ) (o : ListPlace) → list_place_in taker.Reader slot InlineComposite (object.StructList q words n d k) ≡ Ok o → (o.count ≡ n) × (o.data_words ≡ d) × (o.pointers ≡ k)
from_structs slot q words n d k o e =
    let g = guard_ok (is_accepted_as 7 (list_head InlineComposite d k)) WrongElementSize _ o e in
    let is = ok_is _ _ g.1 in
    (sym (ap (λ (x : ListPlace). x.count) is), sym (ap (λ (x : ListPlace). x.data_words) is), sym (ap (λ (x : ListPlace). x.pointers) is))

-- ---- each kind

-- the count of a list of numbers is within the bits of its pointer
short : (s : Segments) (p a : Place) (pads size n : ℕ) (ws : List ℕ) → found_at s p ≡ Ok (record { pads = pads; object = a_list a size n }) → list_kind size ≡ of_bits → words_at s a (words_for (size_bits size * n)) ≡ Some ws → n < 2 ^ 29
unfolding tree_at
short s p a pads size n ws e k there =
    let means : tree_at 1 s p ≡ Some (plain_list size n (section_of ws % 2 ^ (size_bits size * n))) = rw (e, k, there) refl in
    let fits : Fits (plain_list size n (section_of ws % 2 ^ (size_bits size * n))) = tree_at_fits 1 s p _ means in
    fits.1

known_plain : (s : Segments) (slot : code.Place) (o : ListPlace) (f : Object) → size_number o.size < 6 → LeadsTo s (place_view slot) (object_of_list o) → whole s (object_of_list o) ≡ Ok f → list_place_in taker.Reader slot InlineComposite f ≡ Ok o → Known s o
known_plain s slot o f l leads e is =
    let kind = list_kind_small (size_number o.size) l in
    let x = bind_ok (ok_or (words_at s (place_view o.start) (list_words (list_kind (size_number o.size)) (size_number o.size) o.claimed)) OutOfBounds) _ f e in
    let words = ok_or_some _ _ _ x.1 in
    let there : words_at s (place_view o.start) (words_for (size_bits (size_number o.size) * o.claimed)) ≡ Some x.0 = subst (λ (kd : ListKind). words_at s (place_view o.start) (list_words kd (size_number o.size) o.claimed) ≡ Some x.0) kind words in
    let y : whole_list (place_view o.start) of_bits (size_number o.size) o.claimed x.0 ≡ Ok f = subst (λ (kd : ListKind). whole_list (place_view o.start) kd (size_number o.size) o.claimed x.0 ≡ Ok f) kind x.2 in
    let object_is = ok_is _ _ y in
    let in_list : list_place_in taker.Reader slot InlineComposite (object.List (placed (place_view o.start)) (plain_size (size_number o.size)) o.claimed) ≡ Ok o = ap (list_place_in taker.Reader slot InlineComposite) object_is ∙ is in
    let z = from_plain slot (placed (place_view o.start)) (plain_size (size_number o.size)) o.claimed o in_list in
    let few = short s (place_view slot) (place_view o.start) leads.0 (size_number o.size) o.claimed x.0 leads.1 kind there in
    plain_known l (sym z.1) (omega (arith, few, z.1)) (let all : is_some (words_at s (place_view o.start) (words_for (size_bits (size_number o.size) * o.claimed))) ≡ true = ap is_some there in
    subst (λ (r : Place). is_some (words_at s r 0) ≡ true) (after_zero (place_view o.start)) (section_there s (place_view o.start) 0 0 (words_for (size_bits (size_number o.size) * o.claimed)) (omega arith) all))
  where
    after_zero : (p : Place) → after p 0 ≡ p
    after_zero p = let e : p.position + 0 ≡ p.position = omega arith in ap (place p.segment) e

known_pointers : (s : Segments) (slot : code.Place) (o : ListPlace) (f : Object) → o.size ≡ Pointer → whole s (object_of_list o) ≡ Ok f → list_place_in taker.Reader slot InlineComposite f ≡ Ok o → Known s o
known_pointers s slot o f size e is =
    let six : size_number o.size ≡ 6 = ap size_number size in
    let e' : whole s (a_list (place_view o.start) 6 o.claimed) ≡ Ok f = subst (λ (x : ℕ). whole s (a_list (place_view o.start) x o.claimed) ≡ Ok f) six e in
    let x = bind_ok (ok_or (words_at s (place_view o.start) o.claimed) OutOfBounds) _ f e' in
    let object_is = ok_is _ _ x.2 in
    let z = from_pointers slot (placed (place_view o.start)) o.claimed o (ap (list_place_in taker.Reader slot InlineComposite) object_is ∙ is) in
    let there : is_some (words_at s (place_view o.start) o.claimed) ≡ true = ap is_some (ok_or_some _ _ _ x.1) in
    pointers_known size (sym z.1) (subst (λ (n : ℕ). is_some (words_at s (place_view o.start) n) ≡ true) (sym z.1) there)

known_structs : (s : Segments) (slot : code.Place) (o : ListPlace) (f : Object) → o.size ≡ InlineComposite → whole s (object_of_list o) ≡ Ok f → list_place_in taker.Reader slot InlineComposite f ≡ Ok o → Known s o
known_structs s slot o f size e is =
    let seven : size_number o.size ≡ 7 = ap size_number size in
    let e' : whole s (a_list (place_view o.start) 7 o.claimed) ≡ Ok f = subst (λ (x : ℕ). whole s (a_list (place_view o.start) x o.claimed) ≡ Ok f) seven e in
    let x = bind_ok (ok_or (words_at s (place_view o.start) (1 + o.claimed)) OutOfBounds) _ f e' in
    let y = bind_ok (tag_in x.0) _ f x.2 in
    let object_is = ok_is _ _ y.2 in
    let z = from_structs slot (placed (after (place_view o.start) 1)) o.claimed y.0.count y.0.data_words y.0.pointers o (ap (list_place_in taker.Reader slot InlineComposite) object_is ∙ is) in
    structs_known size x.0 (ok_or_some _ _ _ x.1) (y.1 ∙ ap (λ (t : Tag). let r : Result Tag Kind = Ok t in r) (tag_is y.0 o.count o.data_words o.pointers (sym z.0) (sym z.1) (sym z.2)))
  where
    tag_is : (t : Tag) (a b c : ℕ) → t.count ≡ a → t.data_words ≡ b → t.pointers ≡ c → t ≡ record { count = a; data_words = b; pointers = c }
    tag_is t a b c e f g = ap (λ (x : ℕ). let u : Tag = record { count = x; data_words = t.data_words; pointers = t.pointers } in u) e ∙ ap (λ (x : ℕ). let u : Tag = record { count = a; data_words = x; pointers = t.pointers } in u) f ∙ ap (λ (x : ℕ). let u : Tag = record { count = a; data_words = b; pointers = x } in u) g

by_size : (s : Segments) (slot : code.Place) (o : ListPlace) (f : Object) (size : ElementSize) → o.size ≡ size → LeadsTo s (place_view slot) (object_of_list o) → whole s (object_of_list o) ≡ Ok f → list_place_in taker.Reader slot InlineComposite f ≡ Ok o → Known s o
by_size s slot o f Void e leads w is = known_plain s slot o f (let n : size_number o.size ≡ 0 = ap size_number e in omega (arith, n)) leads w is
by_size s slot o f Bit e leads w is = known_plain s slot o f (let n : size_number o.size ≡ 1 = ap size_number e in omega (arith, n)) leads w is
by_size s slot o f Byte e leads w is = known_plain s slot o f (let n : size_number o.size ≡ 2 = ap size_number e in omega (arith, n)) leads w is
by_size s slot o f TwoBytes e leads w is = known_plain s slot o f (let n : size_number o.size ≡ 3 = ap size_number e in omega (arith, n)) leads w is
by_size s slot o f FourBytes e leads w is = known_plain s slot o f (let n : size_number o.size ≡ 4 = ap size_number e in omega (arith, n)) leads w is
by_size s slot o f EightBytes e leads w is = known_plain s slot o f (let n : size_number o.size ≡ 5 = ap size_number e in omega (arith, n)) leads w is
by_size s slot o f Pointer e leads w is = known_pointers s slot o f e w is
by_size s slot o f InlineComposite e leads w is = known_structs s slot o f e w is

pub known : (s : Segments) (slot : code.Place) (o : ListPlace) → list_there s slot ≡ Ok o → LeadsTo s (place_view slot) (object_of_list o) → Known s o
known s slot o e leads =
    let x = bind_ok (object_at s (place_view slot)) _ o e in
    let named = named_at s (place_view slot) x.0 x.1 in
    let same = same_object s (place_view slot) named.object_named (object_of_list o) (x.0.pads, named.leads) leads in
    let is_whole : whole s (object_of_list o) ≡ Ok x.0.object = ap (whole s) (sym same) ∙ named.is_whole in
    by_size s slot o x.0.object o.size refl leads is_whole x.2

-- ---- its trees

pub known_trees : (s : Segments) (o : ListPlace) → Known s o → (n : ℕ) (t : Tree) → OwnsObject n s (object_of_list o) t → IsOfList o t
known_trees s o (plain_known l claims few there) n t own =
    let x = plain_shape n s (place_view o.start) (size_number o.size) o.claimed t (list_kind_small (size_number o.size) l) own in
    subst (IsOfList o) (sym x.1) tt
known_trees s o (pointers_known size claims there) n t own =
    let six : size_number o.size ≡ 6 = ap size_number size in
    let x = list_shape n s (place_view o.start) o.claimed t (subst (λ (z : ℕ). OwnsObject n s (a_list (place_view o.start) z o.claimed) t) six own) in
    subst (IsOfList o) (sym x.1) tt
known_trees s o (structs_known size ws there tag) n t own =
    let seven : size_number o.size ≡ 7 = ap size_number size in
    let x = turns.structs_shape n s (place_view o.start) o.claimed ws _ t there tag (subst (λ (z : ℕ). OwnsObject n s (a_list (place_view o.start) z o.claimed) t) seven own) in
    subst (IsOfList o) (sym x.1) (refl, refl, x.2)

-- ---- its words

pub known_list : (s x : Segments) (o : ListPlace) → Known s o → Grows s x → total_words x < 2 ^ 29 → HasList x o
known_list s x o (plain_known l claims few there) g small =
    let here = still_some s x (place_view o.start) 0 g there in
    let within = within_total x (place_view o.start) 0 here in
    record {
      structs = λ seven. absurd (omega (arith, l, seven));
      pointers = λ six. absurd (omega (arith, l, six));
      counted = λ less. claims;
      near = omega (arith, within, small);
    }
known_list s x o (pointers_known size claims there) g small =
    let here = still_some s x (place_view o.start) o.count g there in
    let within = within_total x (place_view o.start) o.count here in
    let six : size_number o.size ≡ 6 = ap size_number size in
    record {
      structs = λ seven. absurd (omega (arith, six, seven));
      pointers = λ e. (here, omega (arith, within, small));
      counted = λ less. claims;
      near = omega (arith, within, small);
    }
known_list s x o (structs_known size ws there tag) g small =
    let long : length (drop 1 ws) ≡ o.claimed = words_length s (after (place_view o.start) 1) o.claimed (drop 1 ws) (words_back s (place_view o.start) 1 o.claimed ws there) in
    let fits = tag_fits ws (record { count = o.count; data_words = o.data_words; pointers = o.pointers }) tag in
    let all : is_some (words_at s (place_view o.start) (1 + o.claimed)) ≡ true = ap is_some there in
    let part = section_there s (place_view o.start) 1 (o.count * (o.data_words + o.pointers)) (1 + o.claimed) (omega (arith, fits, long)) all in
    let here = still_some s x (after (place_view o.start) 1) (o.count * (o.data_words + o.pointers)) g part in
    let within = within_total x (after (place_view o.start) 1) (o.count * (o.data_words + o.pointers)) here in
    let seven : size_number o.size ≡ 7 = ap size_number size in
    record {
      structs = λ e. (here, omega (arith, within, small));
      pointers = λ six. absurd (omega (arith, six, seven));
      counted = λ less. absurd (omega (arith, less, seven));
      near = omega (arith, within, small);
    }

-- what is not null is known
pub leads_unless_null : (s : Segments) (p : Place) (o : ListPlace) → (word_at s p ≡ Some 0 → ⊥) → (word_at s p ≡ Some 0) ⊎ LeadsTo s p (object_of_list o) → LeadsTo s p (object_of_list o)
leads_unless_null s p o not_null (inl e) = absurd (not_null e)
leads_unless_null s p o not_null (inr l) = l

pub structs_unless_null : (s : Segments) (p : Place) (o : ListPlace) → (word_at s p ≡ Some 0 → ⊥) → (word_at s p ≡ Some 0) ⊎ (o.size ≡ InlineComposite → HasStructs s o) → o.size ≡ InlineComposite → HasStructs s o
structs_unless_null s p o not_null (inl e) = absurd (not_null e)
structs_unless_null s p o not_null (inr f) = f

-- a list without words is short, or wide enough
pub known_short : (s : Segments) (o : ListPlace) (d k : ℕ) → Known s o → (IsWideList o d k → ⊥) → max d (least_data_words o) + max k (least_pointers o) ≡ 0 → o.count < 2 ^ 29
known_short s o d k (plain_known l claims few there) narrow zeros = few
known_short s o d k (pointers_known size claims there) narrow zeros = let one = one_pointer (size_number o.size) o.pointers (ap size_number size) in absurd (omega (arith, one, zeros))
known_short s o d k (structs_known size ws there tag) narrow zeros = absurd (narrow (size, omega (arith, zeros), omega (arith, zeros)))
