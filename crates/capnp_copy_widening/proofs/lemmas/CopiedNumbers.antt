-- The numbers of a list that are written one after the other, each as the first data word of a new struct.
use Rattle.std.proofs.Common.{◌≡◌, ℕ, zero, suc, max, ◌+◌, ◌*◌, ◌/◌, ◌%◌, ◌^◌, ◌<◌, ◌≤◌, ltb, true, List, [], ◌∷◌, ◌++◌, length, take, Option, Some, None, Ok, refl, ap, sym, ◌∙◌, subst, arith}
use Rattle.std.specs.Prelude.{slice_index}
use Rattle.std.proofs.lemmas.Bool.{lt-ltb}
use Rattle.capnp_model.specs.Sections.{bits_at, numbers_in, number_of, section_of, words_for}
use Rattle.capnp_model.specs.Segments.{Segments, Place, after, words_at}
use Rattle.capnp_model.specs.Pointers.{Object, a_struct, a_list, found_at}
use Rattle.capnp_model.specs.Traversal.{ListKind, list_kind, list_words, list_tree, of_bits, tree_at}
use Rattle.capnp_model.specs.Trees.{Tree, structure, plain_list, struct_list, Trees, none, resized, Elements, element, element_count, size_bits, plain_elements}
use Rattle.capnp_model.specs.Edits.{elements_of_plain}
use Rattle.capnp_model.specs.Coverage.{Span, span}
use Rattle.capnp_model.proofs.lemmas.Chaining.{bind_some, some_is}
use Rattle.capnp_model.proofs.lemmas.Numbers.{length-numbers_in}
use Rattle.capnp_units.specs.Sizes.{size_number, data_bits}
use Rattle.capnp_wire_objects.specs.Places.{place_view}
use Rattle.capnp_wire.specs.Elements.{element_bits}
use Rattle.capnp_wire.proofs.lemmas.ListLaws.{numbers_at}
use Rattle.capnp_wire_objects.specs.declared.place.Place as code
use Rattle.capnp_model_writes.specs.Changes.{ReplacesObject}
use Rattle.capnp_model_writes.specs.Children.{with_first_elements}
use Rattle.capnp_model_writes.specs.Detached.{Detached}
use Rattle.capnp_model_writes.specs.Elements.{element_at, with_element}
use Rattle.capnp_model_writes.specs.Footprints.{OwnsObject}
use Rattle.capnp_model_writes.specs.NewObjects.{zero_elements}
use Rattle.capnp_model_writes.specs.Writes.{spliced, with_words}
use Rattle.capnp_model_writes.proofs.lemmas.Cells.{element_of_list, list_of_element}
use Rattle.capnp_model_writes.proofs.lemmas.Detached.{detached_owns, detached_object, detached_fewer}
use Rattle.capnp_model_writes.proofs.lemmas.Lift.{object_of_pointer, struct_parts}
use Rattle.capnp_model_writes.proofs.lemmas.MovedElements.{zero_element}
use Rattle.capnp_model_writes.proofs.lemmas.Rows.{after_none}
use Rattle.capnp_model_writes.proofs.lemmas.Spans.{words_front}
use Rattle.capnp_model_writes.proofs.lemmas.Splices.{spliced_nothing}
use Rattle.capnp_model_writes.proofs.lemmas.Turns.{elements_here, elements_next, elements_counted, elements_done}
use Rattle.capnp_model_writes.proofs.lemmas.Writing.{struct_words}
use Rattle.capnp_copy_arenas.specs.Elements.{HasElement}
use Rattle.capnp_copy_arenas.specs.declared.init.ListPlace.{ListPlace}
use Rattle.capnp_model_writes.proofs.lemmas.NewKinds.{zero_counted}
use Rattle.capnp_model.proofs.lemmas.PointerWords.{list_kind_small}
use Rattle.capnp_model.proofs.lemmas.ReadFits.{words_length}
use Rattle.capnp_model.proofs.lemmas.Counts.{count-of-plain}
use Rattle.capnp_copy_widening.specs.Moves.{pads_of}
use Rattle.capnp_copy_widening.specs.MovedElements.{least_data_words, zeros_at, FillsAsStructs, as_structs}
use Rattle.capnp_copy_widening.proofs.WiderRooms.{found_beside}

-- ---- trees

plain_at_index : (d k j : ℕ) (xs : List ℕ) → j < length xs → element_at d (elements_of_plain k xs) j ≡ structure d (slice_index xs j) (resized k none)
plain_at_index d k j [] l = absurd (omega (arith, l))
plain_at_index d k zero (x ∷ xs) l = refl
plain_at_index d k (suc j) (x ∷ xs) l = plain_at_index d k j xs (omega (arith, l))

pub numbers_count : (k w count section : ℕ) → element_count (elements_of_plain k (numbers_in w count section)) ≡ count
numbers_count k w count section = count-of-plain k (numbers_in w count section) ∙ length-numbers_in w count section

number_at : (d k w count section j : ℕ) → j < count → element_at d (elements_of_plain k (numbers_in w count section)) j ≡ structure d (bits_at (w * j) w section) (resized k none)
number_at d k w count section j l = plain_at_index d k j (numbers_in w count section) (omega (arith, l, length-numbers_in w count section)) ∙ ap (λ (x : ℕ). structure d x (resized k none)) (numbers_at w count section j l)

-- elements without bits are zeros
pub voids : (k count section : ℕ) → elements_of_plain k (numbers_in 0 count section) ≡ zero_elements count k
voids k zero section = refl
voids k (suc count) section =
    let none_of : section % 2 ^ 0 ≡ 0 = omega arith in
    ap (λ (x : ℕ). element x (resized k none) (elements_of_plain k (numbers_in 0 count (section / 2 ^ 0)))) none_of ∙ ap (λ (es : Elements). element 0 (resized k none) es) (voids k count (section / 2 ^ 0))

-- ---- a number as a data word

first_word : (x : ℕ) (ws : List ℕ) → 1 ≤ length ws → number_of 64 ws ≡ 0 → x < 2 ^ 64 → number_of 64 (spliced 0 (x ∷ []) ws) ≡ x
unfolding spliced
first_word x [] l z s = absurd (omega (arith, l))
first_word x (w ∷ ws) l z s =
    let rest : number_of 64 ws ≡ 0 = omega (arith, z) in
    ap (λ (vs : List ℕ). number_of 64 vs * 2 ^ 64 + x % 2 ^ 64) (spliced_nothing 0 ws) ∙ omega (arith, rest, s)

number_written : (n : ℕ) (s : Segments) (p : Place) (d k x : ℕ) (kids : Trees) → 1 ≤ d → x < 2 ^ 64 → OwnsObject n s (a_struct p d k) (structure d 0 kids) → ReplacesObject n s (with_words s p (x ∷ [])) (a_struct p d k) (structure d x kids)
number_written n s p d k x kids l small o =
    let parts = (struct_parts n s p d k d 0 kids o.means).1 in
    let there : words_at s p d ≡ Some (take d parts.words) = words_front s p d k parts.words parts.there in
    let long : length (take d parts.words) ≡ d = words_length s p d (take d parts.words) there in
    let r = struct_words n s p d k 0 d 0 kids (x ∷ []) (take d parts.words) (omega (arith, l)) there o in
    let r' : ReplacesObject n s (with_words s p (x ∷ [])) (a_struct p d k) (structure d (section_of (spliced 0 (x ∷ []) (take d parts.words))) kids) = subst (λ (q : Place). ReplacesObject n s (with_words s q (x ∷ [])) (a_struct p d k) (structure d (section_of (spliced 0 (x ∷ []) (take d parts.words))) kids)) (after_none p) r in
    let is : section_of (spliced 0 (x ∷ []) (take d parts.words)) ≡ x = first_word x (take d parts.words) (omega (arith, long, l)) parts.section_is small in
    subst (λ (j : ℕ). ReplacesObject n s (with_words s p (x ∷ [])) (a_struct p d k) (structure d j kids)) is r'

-- ---- one of them

module _ (n : ℕ) (z u w : Segments) (p a b : Place) (q size m d k count j x section : ℕ) (spare : List Span) (l : j < count) (ld : 1 ≤ d) (small : x < 2 ^ 64) (e : found_at u p ≡ Ok (record { pads = q; object = a_list a size count })) (h : Detached n z u p (plain_list size count section) spare (a_list b 7 m) (struct_list d k (with_first_elements j (elements_of_plain k (plain_elements size count section)) (zero_elements count k))))
    (number : OwnsObject n u (a_list a size count) (plain_list size count section) → x ≡ bits_at (size_bits size * j) (size_bits size) section) (now : w ≡ with_words u (after (after b 1) (j * (d + k))) (x ∷ [])) where
  abbrev numbers : Elements
  numbers = elements_of_plain k (plain_elements size count section)

  abbrev targets : Elements
  targets = with_first_elements j (elements_of_plain k (plain_elements size count section)) (zero_elements count k)

  few_there : j < element_count (with_first_elements j (elements_of_plain k (plain_elements size count section)) (zero_elements count k))
  few_there = omega (arith, l, elements_counted j (elements_of_plain k (plain_elements size count section)) (zero_elements count k), zero_counted count k)

  pub number_copied : Detached n z w p (plain_list size count section) spare (a_list b 7 m) (struct_list d k (with_first_elements (suc j) (elements_of_plain k (plain_elements size count section)) (zero_elements count k))) × (found_at w p ≡ Ok (record { pads = q; object = a_list a size count }))
  number_copied =
      let own = detached_owns n z u p _ _ spare (a_list b 7 m) h in
      let old = object_of_pointer n u p (record { pads = q; object = a_list a size count }) (plain_list size count section) e own.0 in
      let here : element_at d (with_first_elements j (elements_of_plain k (plain_elements size count section)) (zero_elements count k)) j ≡ structure d 0 (resized k none) = elements_here d j numbers (zero_elements count k) ∙ zero_element d k count j l in
      let new : OwnsObject n u (a_struct (after (after b 1) (j * (d + k))) d k) (structure d 0 (resized k none)) = subst (OwnsObject n u (a_struct (after (after b 1) (j * (d + k))) d k)) here (element_of_list n u b m d k j targets few_there own.1) in
      let r = number_written n u (after (after b 1) (j * (d + k))) d k x (resized k none) ld small new in
      let r' : ReplacesObject n u w (a_struct (after (after b 1) (j * (d + k))) d k) (structure d x (resized k none)) = subst (λ (y : Segments). ReplacesObject n u y (a_struct (after (after b 1) (j * (d + k))) d k) (structure d x (resized k none))) (sym now) r in
      let lifted = list_of_element n u w b m d k j x (resized k none) targets few_there own.1 r' in
      let target : with_element targets j x (resized k none) ≡ with_first_elements (suc j) (elements_of_plain k (plain_elements size count section)) (zero_elements count k) =
      elements_next d j x (resized k none) numbers (zero_elements count k) (omega (arith, l, numbers_count k (size_bits size) count section)) (omega (arith, l, zero_counted count k)) (number_at d k (size_bits size) count section j l ∙ ap (λ (y : ℕ). structure d y (resized k none)) (sym (number old))) in
      let h1 = detached_object n z u w p (plain_list size count section) (struct_list d k targets) (struct_list d k (with_element targets j x (resized k none))) spare (a_list b 7 m) h lifted in
      let ex = found_beside n z u w p (record { pads = q; object = a_list a size count }) (plain_list size count section) (struct_list d k targets) (struct_list d k (with_element targets j x (resized k none))) spare (a_list b 7 m) e h lifted in
      (subst (λ (fs : Elements). Detached n z w p (plain_list size count section) spare (a_list b 7 m) (struct_list d k fs)) target h1, ex)

-- ---- the loop

-- the first j written
unfoldable pub NumbersSoFar : Segments → Segments → Place → Place → ℕ → ℕ → ℕ → ℕ → ℕ → ℕ → Type 0
NumbersSoFar s u a b size m d k count j =
    (n q : ℕ) (z : Segments) (p : Place) (section : ℕ) (spare : List Span)
    → found_at s p ≡ Ok (record { pads = q; object = a_list a size count }) → Detached n z s p (plain_list size count section) spare (a_list b 7 m) (struct_list d k (zero_elements count k))
    → Detached n z u p (plain_list size count section) spare (a_list b 7 m) (struct_list d k (with_first_elements j (elements_of_plain k (plain_elements size count section)) (zero_elements count k))) × (found_at u p ≡ Ok (record { pads = q; object = a_list a size count }))

pub numbers_none : (s : Segments) (a b : Place) (size m d k count : ℕ) → NumbersSoFar s s a b size m d k count 0
unfolding NumbersSoFar
numbers_none s a b size m d k count = λ n q z p section spare e h. (h, e)

pub numbers_next : (s u w : Segments) (old : ListPlace) (b : Place) (m d k j x width : ℕ) → j < old.count → 1 ≤ d → x < 2 ^ 64 → width ≡ size_bits (size_number old.size) → HasElement u old j width (λ bits. x ≡ bits) → w ≡ with_words u (after (after b 1) (j * (d + k))) (x ∷ [])
    → NumbersSoFar s u (place_view old.start) b (size_number old.size) m d k old.count j → NumbersSoFar s w (place_view old.start) b (size_number old.size) m d k old.count (suc j)
unfolding NumbersSoFar
numbers_next s u w old b m d k j x width l ld small wide number now before = λ n q z p section spare e h. (
    let y = before n q z p section spare e h in
    number_copied n z u w p (place_view old.start) b q (size_number old.size) m d k old.count j x section spare l ld small y.1 y.0 (λ o. number n section o ∙ ap (λ (v : ℕ). bits_at (size_bits (size_number old.size) * j) v section) wide) now
    )

-- ---- all

pub plain_shape : (n : ℕ) (s : Segments) (p : Place) (size count : ℕ) (t : Tree) → list_kind size ≡ of_bits → OwnsObject n s (a_list p size count) t → (section : ℕ) × (t ≡ plain_list size count section)
plain_shape n s p size count t k o =
    let x = bind_some (words_at s p (list_words (list_kind size) size count)) _ t o.means in
    let y : list_tree (tree_at n s) p of_bits size count x.0 ≡ Some t = subst (λ (kind : ListKind). list_tree (tree_at n s) p kind size count x.0 ≡ Some t) k x.2 in
    (section_of x.0 % 2 ^ (size_bits size * count), sym (some_is _ _ y))

pub one_data_word : (size d : ℕ) → 0 < size → size < 6 → words_for (element_bits size d) ≡ 1
one_data_word zero d l m = absurd (omega (arith, l))
one_data_word (suc zero) d l m = refl
one_data_word (suc (suc zero)) d l m = refl
one_data_word (suc (suc (suc zero))) d l m = refl
one_data_word (suc (suc (suc (suc zero)))) d l m = refl
one_data_word (suc (suc (suc (suc (suc zero))))) d l m = refl
one_data_word (suc (suc (suc (suc (suc (suc n)))))) d l m = absurd (omega (arith, m))

-- the tree of numbers as structs
pub numbers_widened : (size d k count section : ℕ) → 0 < size → 1 ≤ d → struct_list d k (elements_of_plain k (plain_elements size count section)) ≡ as_structs d k (plain_list size count section)
numbers_widened zero d k count section l ld = absurd (omega (arith, l))
numbers_widened (suc size) d k count section l ld = let most : d ≡ max d 1 = omega (arith, ld) in ap (λ (x : ℕ). struct_list x k (elements_of_plain k (plain_elements (suc size) count section))) most

pub fills_numbers : (s u : Segments) (old new : ListPlace) → 0 < size_number old.size → size_number old.size < 6 → old.claimed ≡ old.count → size_number new.size ≡ 7 → new.count ≡ old.count → least_data_words old ≤ new.data_words
    → NumbersSoFar s u (place_view old.start) (place_view new.start) (size_number old.size) new.claimed new.data_words new.pointers old.count old.count → FillsAsStructs s u old new []
unfolding NumbersSoFar
fills_numbers s u old new some plain claims n7 many lw all = λ n q z p t spare is e h. (
    let c = old.count in
    let d = new.data_words in
    let k = new.pointers in
    let size = size_number old.size in
    let one = one_data_word (size_number old.size) old.data_words some plain in
    let ld : 1 ≤ new.data_words = omega (arith, lw, one) in
    let e' : found_at s p ≡ Ok (record { pads = q; object = a_list (place_view old.start) (size_number old.size) old.count }) = subst (λ (x : ℕ). found_at s p ≡ Ok (record { pads = q; object = a_list (place_view old.start) (size_number old.size) x })) claims e in
    let h1 = subst (λ (x : ℕ). Detached n z s p t spare (a_list (place_view new.start) x new.claimed) (zeros_at new)) n7 h in
    let h2 = subst (λ (x : ℕ). Detached n z s p t spare (a_list (place_view new.start) 7 new.claimed) (struct_list new.data_words new.pointers (zero_elements x new.pointers))) many h1 in
    let own = object_of_pointer n s p (record { pads = q; object = a_list (place_view old.start) (size_number old.size) old.count }) t e' (detached_owns n z s p t _ _ _ h2).0 in
    let shape = plain_shape n s (place_view old.start) (size_number old.size) old.count t (list_kind_small (size_number old.size) plain) own in
    let h3 = subst (λ (v : Tree). Detached n z s p v spare (a_list (place_view new.start) 7 new.claimed) (struct_list new.data_words new.pointers (zero_elements old.count new.pointers))) shape.1 h2 in
    let y = all n q z p shape.0 spare e' h3 in
    let zeros : element_count (zero_elements old.count new.pointers) ≡ old.count = zero_counted old.count new.pointers in
    let numbers : Elements = elements_of_plain new.pointers (plain_elements (size_number old.size) old.count shape.0) in
    let done : with_first_elements old.count (elements_of_plain new.pointers (plain_elements (size_number old.size) old.count shape.0)) (zero_elements old.count new.pointers) ≡ elements_of_plain new.pointers (plain_elements (size_number old.size) old.count shape.0) =
    ap (λ (x : ℕ). with_first_elements x numbers (zero_elements old.count new.pointers)) (sym zeros) ∙ elements_done numbers (zero_elements old.count new.pointers) (numbers_count new.pointers (size_bits (size_number old.size)) old.count shape.0 ∙ sym zeros) in
    let wide : struct_list new.data_words new.pointers (with_first_elements old.count (elements_of_plain new.pointers (plain_elements (size_number old.size) old.count shape.0)) (zero_elements old.count new.pointers)) ≡ as_structs new.data_words new.pointers t =
    ap (struct_list new.data_words new.pointers) done ∙ numbers_widened (size_number old.size) new.data_words new.pointers old.count shape.0 some ld ∙ ap (as_structs new.data_words new.pointers) (sym shape.1) in
    let y2 = subst (λ (v : Tree). Detached n z u p (plain_list (size_number old.size) old.count shape.0) spare (a_list (place_view new.start) 7 new.claimed) v) wide y.0 in
    (plain_list (size_number old.size) old.count shape.0, subst (λ (x : ℕ). Detached n z u p (plain_list (size_number old.size) old.count shape.0) spare (a_list (place_view new.start) x new.claimed) (as_structs new.data_words new.pointers t)) (sym n7) y2)
    )

-- ---- elements without pointers take no pads

pub no_pads : (n : ℕ) (z s : Segments) (p : Place) (t v : Tree) (pads : Option code.Place) (k : ℕ) (spare : List Span) (o : Object) → Detached n z s p t (pads_of pads k ++ spare) o v → Detached n z s p t spare o v
no_pads n z s p t v None k spare o h = h
no_pads n z s p t v (Some q) k spare o h = detached_fewer n z s p t v spare (span (place_view q) (2 * k)) o h

pub fills_beside_pads : (s u : Segments) (old new : ListPlace) (pads : Option code.Place) (k : ℕ) → FillsAsStructs s u old new [] → FillsAsStructs s u old new (pads_of pads k)
fills_beside_pads s u old new pads k f = λ n q z p t spare is e h. f n q z p t spare is e (no_pads n z s p t (zeros_at new) pads k spare _ h)

-- nothing is written for elements without bits
pub fills_voids : (s : Segments) (old new : ListPlace) → size_number old.size ≡ 0 → old.claimed ≡ old.count → size_number new.size ≡ 7 → new.count ≡ old.count → FillsAsStructs s s old new []
fills_voids s old new e0 claims n7 many = λ n q z p t spare is e h. (
    let d = new.data_words in
    let k = new.pointers in
    let e1 : found_at s p ≡ Ok (record { pads = q; object = a_list (place_view old.start) 0 old.claimed }) = subst (λ (x : ℕ). found_at s p ≡ Ok (record { pads = q; object = a_list (place_view old.start) x old.claimed })) e0 e in
    let e' : found_at s p ≡ Ok (record { pads = q; object = a_list (place_view old.start) 0 old.count }) = subst (λ (x : ℕ). found_at s p ≡ Ok (record { pads = q; object = a_list (place_view old.start) 0 x })) claims e1 in
    let own = object_of_pointer n s p (record { pads = q; object = a_list (place_view old.start) 0 old.count }) t e' (detached_owns n z s p t _ _ _ h).0 in
    let shape = plain_shape n s (place_view old.start) 0 old.count t refl own in
    let most : new.data_words ≡ max new.data_words 0 = omega arith in
    let wide : zeros_at new ≡ as_structs new.data_words new.pointers t =
    ap (λ (c : ℕ). struct_list new.data_words new.pointers (zero_elements c new.pointers)) many ∙ ap (struct_list new.data_words new.pointers) (sym (voids new.pointers old.count shape.0)) ∙ ap (λ (x : ℕ). struct_list x new.pointers (elements_of_plain new.pointers (numbers_in 0 old.count shape.0))) most ∙ ap (as_structs new.data_words new.pointers) (sym shape.1) in
    (t, subst (λ (v : Tree). Detached n z s p t spare (a_list (place_view new.start) (size_number new.size) new.claimed) v) wide h)
    )

-- ---- the bits of a plain element

pub plain_bits : (size : ℕ) → size < 6 → data_bits size ≡ size_bits size
plain_bits size l = let t : ltb size 6 ≡ true = lt-ltb _ _ l in rw t refl
