-- A number written into the front of an element, as the model's edit of it.
use Rattle.std.proofs.Common.{◌≡◌, ℕ, zero, suc, ◌*◌, ◌^◌, ◌<◌, ◌≤◌, List, [], ◌∷◌, Option, Some, None, refl, ap, sym, ◌∙◌, subst, arith}
use Rattle.std.proofs.Math.Nat.{mod-lt}
use Rattle.std.proofs.lemmas.Nat.{pow_pos}
use Rattle.capnp_model.specs.Sections.{with_bits, numbers_in, number_of}
use Rattle.capnp_model.specs.Coverage.{Grows}
use Rattle.capnp_model.specs.Segments.{Segments, Place}
use Rattle.capnp_model.specs.Pointers.{a_list}
use Rattle.capnp_model.specs.Trees.{Tree, null, capability, structure, plain_list, pointer_list, struct_list, Trees, none, ◌▸◌, Elements, no_elements, element, size_bits}
use Rattle.capnp_model.specs.Kinds.{TypeMismatch}
use Rattle.capnp_model.specs.Schemas.{PlainType, width, Ty, void, plain, text, blob, untyped, interface, struct, list}
use Rattle.capnp_model.specs.Calls.{Content, refused_by, bits_of}
use Rattle.capnp_model.specs.Edits.{Edit, on_plain, put_bits, put_in_element, on_pointers, on_elements, edit_list}
use Rattle.capnp_model.proofs.lemmas.Numbers.{number_of-numbers_in}
use Rattle.capnp_model.proofs.lemmas.PointerWords.{list_kind_small}
use Rattle.capnp_units.specs.Sizes.{size_number}
use Rattle.capnp_wire_objects.specs.Places.{place_view}
use Rattle.capnp_wire_objects.specs.Objects.{AreThere}
use Rattle.capnp_model_writes.specs.Footprints.{object_footprint, OwnsObject}
use Rattle.capnp_model_writes.specs.Changes.{ReplacesObject}
use Rattle.capnp_model_writes.proofs.lemmas.Algebra.{changes_nothing}
use Rattle.capnp_copy_arenas.specs.Elements.{SetsElement}
use Rattle.capnp_copy_arenas.specs.Lists.{object_of_list}
use Rattle.capnp_copy_arenas.specs.declared.init.ListPlace.{ListPlace}
use Rattle.capnp_copy_arenas.proofs.lemmas.ElementLaws.{plain_parts}
use Rattle.capnp_copy_arenas.proofs.lemmas.RoomLaws.{still_some}
use Rattle.capnp_values.specs.declared.dynamic_value.Reader.{Reader}
use Rattle.capnp_schema_structs.specs.Given.{plain_given, bits_given}
use Rattle.capnp_schema_lists.specs.Lists.{IsListThere, EditsElement}
use Rattle.capnp_schema_lists.specs.Elements.{plain_in, single_element, single_edit}
use Rattle.capnp_schema_lists.proofs.PlainElements.{element_in_section}

-- ---- plain elements

-- the section of a list has no more bits than its elements
small_section : (n : ℕ) (s : Segments) (o : ListPlace) (size m section : ℕ) → size < 6 → OwnsObject n s (a_list (place_view o.start) size m) (plain_list size m section) → section < 2 ^ (size_bits size * m)
small_section n s o size m section lt owns =
    let x = plain_parts n s (place_view o.start) size m section (list_kind_small size lt) owns.means in
    subst (λ z. z < 2 ^ (size_bits size * m)) x.section_is (mod-lt _ (pow_pos (size_bits size * m)))

plain_same : (n : ℕ) (s u : Segments) (o : ListPlace) (i width value size m section : ℕ) → size < 6 → width ≤ size_bits size → value < 2 ^ width → i < m
    → ((n section : ℕ) → OwnsObject n s (a_list (place_view o.start) size m) (plain_list size m section) → ReplacesObject n s u (a_list (place_view o.start) size m) (plain_list size m (with_bits (size_bits size * i) width value section)))
    → OwnsObject n s (a_list (place_view o.start) size m) (plain_list size m section) → ReplacesObject n s u (a_list (place_view o.start) size m) (edit_list (λ words pointers. put_bits 0 width value) i (plain_list size m section))
plain_same n s u o i width value size m section lt le fits inside sets owns =
    subst (λ z. ReplacesObject n s u (a_list (place_view o.start) size m) (plain_list size m z)) (sym (element_in_section (size_bits size) m i width value section le fits inside (small_section n s o size m section lt owns))) (sets n section owns)

pub plain_front : (s u : Segments) (o : ListPlace) (i width value : ℕ) → size_number o.size < 6 → width ≤ size_bits (size_number o.size) → value < 2 ^ width → i < o.count → o.claimed ≡ o.count → SetsElement s u o i width value → EditsElement s u o (λ words pointers. put_bits 0 width value) i
plain_front s u o i width value lt le fits inside counted sets n (plain_list size m section) is owns =
    let p = place_view o.start in
    let z = size_number o.size in
    let f : Tree → Tree = edit_list (λ words pointers. put_bits 0 width value) i in
    let P : ℕ → ℕ → ℕ → Type 0 = λ c y w. OwnsObject n s (a_list p z c) (plain_list y w section) → ReplacesObject n s u (a_list p z c) (f (plain_list y w section)) in
    let all : P o.count z o.count = plain_same n s u o i width value z o.count section lt le fits inside sets in
    let sized : P o.count size o.count = subst (λ y. P o.count y o.count) (sym is.0) all in
    let long : P o.count size m = subst (λ w. P o.count size w) (sym is.2) sized in
    let here : P o.claimed size m = subst (λ c. P c size m) (sym counted) long in
    here owns
plain_front s u o i width value lt le fits inside counted sets n (pointer_list ts) is owns = absurd (let e = is.0 in omega (arith, lt, e))
plain_front s u o i width value lt le fits inside counted sets n (struct_list d k es) is owns = absurd (let e = is.0 in omega (arith, lt, e))
plain_front s u o i width value lt le fits inside counted sets n null is owns = absurd is
plain_front s u o i width value lt le fits inside counted sets n (capability c) is owns = absurd is
plain_front s u o i width value lt le fits inside counted sets n (structure d section ts) is owns = absurd is

-- ---- nothing is written

same_numbers : (xs : List ℕ) (k : ℕ) → on_plain (λ c. c) k xs ≡ xs
same_numbers [] k = refl
same_numbers (x ∷ xs) zero = refl
same_numbers (x ∷ xs) (suc k) = ap (λ ys. x ∷ ys) (same_numbers xs k)

same_trees : (ts : Trees) (k : ℕ) → on_pointers (λ c. c) k ts ≡ ts
same_trees none k = refl
same_trees (t ▸ ts) zero = refl
same_trees (t ▸ ts) (suc k) = ap (λ ys. t ▸ ys) (same_trees ts k)

same_elements : (es : Elements) (k : ℕ) → on_elements (λ c. c) k es ≡ es
same_elements no_elements k = refl
same_elements (element section kids es) zero = refl
same_elements (element section kids es) (suc k) = ap (λ ys. element section kids ys) (same_elements es k)

stays : (n : ℕ) (s : Segments) (o : ListPlace) (t v : Tree) → t ≡ v → OwnsObject n s (object_of_list o) t → ReplacesObject n s s (object_of_list o) v
stays n s o t v e owns = subst (λ y. ReplacesObject n s s (object_of_list o) y) e (record { means = owns.means; changes = changes_nothing s (object_footprint n s (object_of_list o)) })

pub none_written : (s : Segments) (o : ListPlace) (i : ℕ) → (size_number o.size < 7 → o.claimed ≡ o.count) → EditsElement s s o (λ words pointers c. c) i
none_written s o i counted n (plain_list size m section) is owns =
    let P : ℕ → ℕ → Type 0 = λ z c. OwnsObject n s (a_list (place_view o.start) z c) (plain_list size m section) in
    let sized : P size o.claimed = subst (λ z. P z o.claimed) (sym is.0) owns in
    let long : o.claimed ≡ m = counted (let e = is.0 in let few = is.1 in omega (arith, e, few)) ∙ sym is.2 in
    let small = small_section n s o size m section is.1 (subst (λ c. P size c) long sized) in
    let same : section ≡ number_of (size_bits size) (on_plain (λ c. c) i (numbers_in (size_bits size) m section)) = sym (ap (number_of (size_bits size)) (same_numbers (numbers_in (size_bits size) m section) i) ∙ number_of-numbers_in (size_bits size) m section small) in
    stays n s o (plain_list size m section) _ (ap (λ z. plain_list size m z) same) owns
none_written s o i counted n (pointer_list ts) is owns = stays n s o (pointer_list ts) _ (ap pointer_list (sym (same_trees ts i))) owns
none_written s o i counted n (struct_list d k es) is owns = stays n s o (struct_list d k es) _ (ap (struct_list d k) (sym (same_elements es i))) owns
none_written s o i counted n null is owns = absurd is
none_written s o i counted n (capability c) is owns = absurd is
none_written s o i counted n (structure d section ts) is owns = absurd is

-- ---- what the model puts

pub edits_as : (s u : Segments) (o : ListPlace) (f g : ℕ → ℕ → Edit) (i : ℕ) → f ≡ g → EditsElement s u o f i → EditsElement s u o g i
edits_as s u o f g i e h = subst (λ k. EditsElement s u o k i) e h

pub plain_put : {A : Type 0} (v : Reader A) (ty : Ty) (p : PlainType) (n w : ℕ) → plain_in ty ≡ Some p → bits_given p (plain_given v) ≡ Some n → w ≡ width p → (λ words pointers. put_bits 0 w n) ≡ single_edit v ty
plain_put v (plain q) p n w e given width_is =
    let same : q ≡ p = cc in
    let bits : bits_given q (plain_given v) ≡ Some n = ap (λ y. bits_given y (plain_given v)) same ∙ given in
    let content : single_element v (plain q) ≡ bits_of n = ap (λ (g : Option ℕ). elim g as (λ (y : Option ℕ). Content) [ None ↦ refused_by TypeMismatch | Some m ↦ bits_of m ]) bits in
    ap (λ (y : ℕ). λ words pointers. put_bits 0 y n) (width_is ∙ ap width (sym same)) ∙ sym (ap (λ y. λ words pointers. put_in_element words pointers (plain q) y) content)
plain_put v void p n w e given width_is = absurd cc
plain_put v text p n w e given width_is = absurd cc
plain_put v blob p n w e given width_is = absurd cc
plain_put v untyped p n w e given width_is = absurd cc
plain_put v interface p n w e given width_is = absurd cc
plain_put v (struct id) p n w e given width_is = absurd cc
plain_put v (list ty) p n w e given width_is = absurd cc

pub void_put : {A : Type 0} (v : Reader A) (ty : Ty) → void ≡ ty → (λ words pointers c. c) ≡ single_edit v ty
void_put v ty e = ap (λ y. single_edit v y) e

-- ---- what is there stays

there_grown : (s u : Segments) (p : Place) (n : ℕ) → Grows s u → AreThere s p n → AreThere u p n
there_grown s u p n g h = (still_some s u p n g h.0, h.1)

pub list_grown : (s u : Segments) (o : ListPlace) → Grows s u → IsListThere s o → IsListThere u o
list_grown s u o g h =
    let w = h.whole in
    record {
      whole = ((there_grown s u _ _ g w.0.0, w.0.1), (λ six. there_grown s u _ _ g (w.1 six)), λ seven. (let x = w.2 seven in (there_grown s u _ _ g x.0, x.1)));
      counted = h.counted;
    }
