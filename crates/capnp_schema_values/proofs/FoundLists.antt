-- Lists that are got lie there, with elements of their type.
use Rattle.std.proofs.Common.{◌≡◌, ◌⊎◌, inl, inr, ℕ, ◌+◌, ◌-◌, ◌*◌, ◌^◌, ◌<◌, ◌==◌, max, if◌then◌else◌, Bool, true, false, List, [], ◌∷◌, Option, Some, None, Ok, refl, sym, ◌∙◌, ap, subst, arith}
use Rattle.std.specs.Option.{is_some}
use Rattle.capnp_model.specs.Kinds.{WrongElementSize}
use Rattle.capnp_model.specs.Sections.{words_for}
use Rattle.capnp_model.specs.Segments.{Segments, Place, after, word_at}
use Rattle.capnp_model.specs.Pointers.{nothing}
use Rattle.capnp_model.specs.Schemas.{Shape, Schema, struct, lists_of, words_of_shape, pointers_of_shape}
use Rattle.capnp_model.proofs.lemmas.Chaining.{bind_ok, ok_is, guard_ok}
use Rattle.capnp_model.proofs.lemmas.Locality.{word_is}
use Rattle.capnp_wire_objects.specs.declared.object.Object.{Object}
use Rattle.capnp_wire_objects.specs.declared.object.Object.TheVariants as object
use Rattle.capnp_wire_objects.specs.declared.object.Found.{Found}
use Rattle.capnp_wire_objects.specs.declared.place.Place as code
use Rattle.capnp_wire_objects.specs.Objects.{AreThere, object_at, whole}
use Rattle.capnp_units.specs.declared.sizes.ElementSize.{ElementSize}
use Rattle.capnp_units.specs.declared.sizes.ElementSize.TheVariants.{Void, Bit, Byte, TwoBytes, FourBytes, EightBytes, Pointer, InlineComposite}
use Rattle.capnp_units.specs.Sizes.{size_number}
use Rattle.capnp_wire.specs.Elements.{step_bits, step_words}
use Rattle.capnp_wire_objects.specs.Places.{place_view}
use Rattle.capnp_model_writes.proofs.lemmas.Spans.{words_front, words_back}
use Rattle.capnp_copy_arenas.specs.Elements.{IsWhole}
use Rattle.capnp_copy_arenas.specs.Lists.{object_of_list}
use Rattle.capnp_copy_arenas.specs.Values.{LeadsTo}
use Rattle.capnp_copy_arenas.specs.declared.init.ListPlace.{ListPlace}
use Rattle.capnp_copy_widening.specs.Got.{is_taken_by, list_place_in, list_named}
use Rattle.capnp_copy_widening.specs.declared.lists.Taker.TheVariants as taker
use Rattle.capnp_copy_widening.specs.MovedElements.{least_data_words, least_pointers}
use Rattle.capnp_copy_widening.proofs.lemmas.GotStructs.{same_object}
use Rattle.capnp_copy_widening.proofs.lemmas.ObjectsThere.{named_at}
use Rattle.capnp_layout_builders.specs.Gets.{ListGot, StructListGot}
use Rattle.capnp_values_queries.specs.Types.{ty_of_base}
use Rattle.capnp_values_queries.specs.declared.introspect.Base.{Base}
use Rattle.capnp_values.specs.ListSizes.{size_of}
use Rattle.capnp_schema_structs.specs.Inits.{struct_named}
use Rattle.capnp_schema_structs.specs.Inside.{size_of_shape}
use Rattle.capnp_schema_values.specs.Lists.{sized, ElementsGot, PlaceGot}
use Rattle.capnp_schema_values.proofs.AcceptedLists.{holds, holds_no_structs, bytewise}

-- ---- what the place of a list tells

record Told (expected : ElementSize) (o : ListPlace) : Type 0 where
  taken : is_taken_by taker.Builder expected o ≡ true
  counted : size_number o.size < 7 → o.claimed ≡ o.count

-- the empty list of null
abbrev empty : code.Place → ElementSize → ListPlace
empty slot x = record { start = slot; size = x; claimed = 0; count = 0; data_words = 0; pointers = 0 }

takes_itself : (slot : code.Place) (x : ElementSize) → is_taken_by taker.Builder x (empty slot x) ≡ true
takes_itself slot Void = refl
takes_itself slot Bit = refl
takes_itself slot Byte = refl
takes_itself slot TwoBytes = refl
takes_itself slot FourBytes = refl
takes_itself slot EightBytes = refl
takes_itself slot Pointer = refl
takes_itself slot InlineComposite = refl

told_in : (slot : code.Place) (expected : ElementSize) (f : Object) (o : ListPlace) → list_place_in taker.Builder slot expected f ≡ Ok o → Told expected o
told_in slot expected object.Null o e = subst (Told expected) (ok_is _ _ e) (record { taken = takes_itself slot expected; counted = λ l. refl })
told_in slot expected (object.List p size n) o e =
    let there : ListPlace = record { start = p; size = size; claimed = n; count = n; data_words = 0; pointers = 0 } in
    let g = guard_ok (is_taken_by taker.Builder expected there) WrongElementSize _ o e in
    subst (Told expected) (ok_is _ _ g.1) (record { taken = g.0; counted = λ l. refl })
told_in slot expected (object.PointerList p n) o e =
    let there : ListPlace = record { start = p; size = Pointer; claimed = n; count = n; data_words = 0; pointers = 0 } in
    let g = guard_ok (is_taken_by taker.Builder expected there) WrongElementSize _ o e in
    subst (Told expected) (ok_is _ _ g.1) (record { taken = g.0; counted = λ l. refl })
told_in slot expected (object.StructList p words n d k) o e =
    let there : ListPlace = record { start = record { segment = p.segment; position = p.position - 1 }; size = InlineComposite; claimed = words; count = n; data_words = d; pointers = k } in
    let g = guard_ok (is_taken_by taker.Builder expected there) WrongElementSize _ o e in
    subst (Told expected) (ok_is _ _ g.1) (record { taken = g.0; counted = λ l. absurd (omega (arith, l)) })
told_in slot expected (object.Struct p d k) o e = absurd (cc e)
told_in slot expected (object.Capability i) o e = absurd (cc e)

told : (s : Segments) (slot : code.Place) (expected : ElementSize) (o : ListPlace) → list_named taker.Builder s slot expected ≡ Ok o → Told expected o
told s slot expected o e = let x = bind_ok (object_at s (place_view slot)) _ o e in told_in slot expected x.0.object o x.2

-- ---- null

null_object : (s : Segments) (p : Place) (f : Found) → word_at s p ≡ Some 0 → object_at s p ≡ Ok f → f.object ≡ object.Null
null_object s p f e there =
    let leads : LeadsTo s p nothing = (0, rw e refl) in
    let named = named_at s p f there in
    let same = same_object s p named.object_named nothing (f.pads, named.leads) leads in
    sym (ok_is _ _ (ap (whole s) (sym same) ∙ named.is_whole))

null_place : (s : Segments) (slot : code.Place) (expected : ElementSize) (o : ListPlace) → word_at s (place_view slot) ≡ Some 0 → list_named taker.Builder s slot expected ≡ Ok o → empty slot expected ≡ o
null_place s slot expected o e named =
    let x = bind_ok (object_at s (place_view slot)) _ o named in
    ok_is _ _ (ap (list_place_in taker.Builder slot expected) (sym (null_object s (place_view slot) x.0 e x.1)) ∙ x.2)

-- no word, behind one that is there or at it
none_there : (s : Segments) (p : Place) (w : ℕ) (b : Bool) → word_at s p ≡ Some w → p.position + 1 < 2 ^ 61 → AreThere s (after p (if b then 1 else 0)) 0
none_there s p w true e near = (ap is_some (words_back s p 1 0 (w ∷ []) (word_is s p w e)), omega (arith, near))
none_there s p w false e near = (ap is_some (words_front s (after p 0) 0 1 (w ∷ []) (words_back s p 0 1 (w ∷ []) (word_is s p w e))), omega (arith, near))

empty_whole : (s : Segments) (slot : code.Place) (x : ElementSize) (d k w : ℕ) → word_at s (place_view slot) ≡ Some w → slot.position + 1 < 2 ^ 61 → IsWhole s (record { start = slot; size = x; claimed = 0; count = 0; data_words = d; pointers = k })
empty_whole s slot x d k w e near =
    let p = place_view slot in
    let q = after p (if size_number x == 7 then 1 else 0) in
    let none = none_there s p w (size_number x == 7) e near in
    let bits : 0 ≡ step_bits (size_number x) d k * 0 = omega arith in
    let words : 0 ≡ step_words (size_number x) d k * 0 = omega arith in
    let close = none.1 in (
      (subst (λ n. AreThere s q (words_for n)) bits none, subst (λ n. q.position + n < 2 ^ 61) words close),
      (λ six. (ap is_some (words_front s p 0 1 (w ∷ []) (word_is s p w e)), omega (arith, near))),
      (λ seven. ((ap is_some (word_is s p w e), near), omega arith)),
    )

-- ---- lists of no structs

lies : (s : Segments) (slot : code.Place) (expected : ElementSize) (o : ListPlace) → slot.position + 1 < 2 ^ 61 → list_named taker.Builder s slot expected ≡ Ok o → ((word_at s (place_view slot) ≡ Some 0) × (o.count ≡ 0)) ⊎ IsWhole s o → IsWhole s o
lies s slot expected o near named (inr h) = h
lies s slot expected o near named (inl h) = subst (IsWhole s) (null_place s slot expected o h.0 named) (empty_whole s slot expected 0 0 0 h.0 near)

pub plain_placed : (around : Schema) (b : Base) (count : ℕ) (default : Option (List (List ℕ))) (s u : Segments) (slot : code.Place) (o : ListPlace) → let ty = lists_of count (ty_of_base b) in
    struct_named ty ≡ None → slot.position + 1 < 2 ^ 61 → ListGot default s u slot (size_of ty) o → PlaceGot (record { slot = slot; around = around; ty = ty; default = default }) s u o
plain_placed around b count default s u slot o none near got =
    let ty = lists_of count (ty_of_base b) in
    let x = told u slot (size_of ty) o got.list in
    record {
      got = subst (λ n. ElementsGot n (record { slot = slot; around = around; ty = ty; default = default }) s u o) (sym none) got;
      there = record { whole = lies u slot (size_of ty) o near got.list got.inside; counted = x.counted };
      holds = holds o b count none x.taken;
      sizes = holds_no_structs o around ty none;
      bytewise = bytewise o ty none;
    }

-- ---- lists of structs

same_sizes : (o : ListPlace) (d k : ℕ) → max o.data_words d ≡ o.data_words → max o.pointers k ≡ o.pointers → ◌≡◌ {A = ListPlace} (record o { data_words = max o.data_words d; pointers = max o.pointers k }) o
same_sizes o d k a b =
    let first : ◌≡◌ {A = ListPlace} (record o { data_words = max o.data_words d; pointers = max o.pointers k }) (record o { pointers = max o.pointers k }) = ap (λ x. record o { data_words = x; pointers = max o.pointers k }) a in
    first ∙ ap (λ x. record o { pointers = x }) b

structs_lie : (g : Shape) (default : Option (List (List ℕ))) (s u : Segments) (slot : code.Place) (o : ListPlace) → slot.position + 1 < 2 ^ 61 → StructListGot default s u slot (size_of_shape g) o → IsWhole u (sized g o)
structs_lie g default s u slot o near got = by got.list.given
  where
    d : ℕ
    d = words_of_shape g

    k : ℕ
    k = pointers_of_shape g

    by : ((word_at got.begun_with (place_view slot) ≡ Some 0) × (o ≡ got.list.old) × (o.count ≡ 0)) ⊎ (LeadsTo u (place_view slot) (object_of_list o) × (o.data_words ≡ max d (least_data_words got.list.old)) × (o.pointers ≡ max k (least_pointers got.list.old)) × IsWhole u o) → IsWhole u (sized g o)
    by (inl h) =
        let same : u ≡ got.begun_with = got.stays (inl h.0) in
        let word : word_at u (place_view slot) ≡ Some 0 = ap (λ x. word_at x (place_view slot)) same ∙ h.0 in
        let is : empty slot InlineComposite ≡ o = null_place got.begun_with slot InlineComposite got.list.old h.0 got.list.was_there ∙ sym h.1 in
        subst (λ x. IsWhole u (sized g x)) is (empty_whole u slot InlineComposite (max 0 d) (max 0 k) 0 word near)
    by (inr h) =
        let a = h.1 in
        let b = h.2 in
        subst (IsWhole u) (sym (same_sizes o d k (omega (arith, a)) (omega (arith, b)))) h.3

pub structs_placed : (around : Schema) (id : ℕ) (default : Option (List (List ℕ))) (s u : Segments) (slot : code.Place) (o : ListPlace) → slot.position + 1 < 2 ^ 61 → StructListGot default s u slot (size_of_shape (around.shape_of id)) o → PlaceGot (record { slot = slot; around = around; ty = struct id; default = default }) s u (sized (around.shape_of id) o)
structs_placed around id default s u slot o near got =
    let g = around.shape_of id in
    let seven : size_number o.size ≡ 7 = ap size_number got.list.of_structs in
    record {
      got = (o, refl, got);
      there = record { whole = structs_lie g default s u slot o near got; counted = λ l. absurd (omega (arith, l, seven)) };
      holds = tt;
      sizes = record { structs = seven; words = omega arith; pointers = omega arith };
      bytewise = λ other one. absurd (omega (arith, one, seven));
    }
