-- The pointers of a list that move one after the other, each to the first pointer of a new struct.
use Rattle.std.proofs.Common.{◌≡◌, ℕ, zero, suc, max, ◌+◌, ◌*◌, ◌<◌, ◌≤◌, List, ◌++◌, Option, Ok, refl, ap, sym, ◌∙◌, subst, arith}
use Rattle.capnp_model.specs.Segments.{Segments, Place, after}
use Rattle.capnp_model.specs.Pointers.{a_list, Found, found_at}
use Rattle.capnp_model.specs.Trees.{Tree, null, structure, pointer_list, struct_list, Trees, none, ◌▸◌, child, with_child, tree_count, resized, padded_to, Elements, element_count}
use Rattle.capnp_model.specs.Edits.{elements_of_pointers}
use Rattle.capnp_model.specs.Coverage.{Span}
use Rattle.capnp_units.specs.Sizes.{size_number}
use Rattle.capnp_wire_objects.specs.Places.{place_view}
use Rattle.capnp_wire.specs.Elements.{element_pointers}
use Rattle.capnp_wire_objects.specs.declared.place.Place as code
use Rattle.capnp_model_writes.specs.Children.{with_first, with_first_elements}
use Rattle.capnp_model_writes.specs.Detached.{Detached}
use Rattle.capnp_model_writes.specs.Elements.{element_at, with_element}
use Rattle.capnp_model_writes.specs.Footprints.{OwnsObject}
use Rattle.capnp_model_writes.specs.NewObjects.{zero_elements}
use Rattle.capnp_model_writes.proofs.lemmas.Detached.{detached_owns}
use Rattle.capnp_model_writes.proofs.lemmas.Lift.{object_of_pointer}
use Rattle.capnp_model_writes.proofs.lemmas.MovedElements.{zero_element, element_same}
use Rattle.capnp_model_writes.proofs.lemmas.PointerRows.{list_row, element_row, row_movable, row_moved}
use Rattle.capnp_model_writes.proofs.lemmas.Rows.{after_none}
use Rattle.capnp_model_writes.proofs.lemmas.Turns.{first_here, first_next, resized_padded, list_shape, list_counted, elements_here, elements_next, elements_counted, elements_done}
use Rattle.capnp_copy_arenas.specs.declared.init.ListPlace.{ListPlace}
use Rattle.capnp_model.proofs.lemmas.TrimmedKinds.{no_child}
use Rattle.capnp_model_writes.proofs.lemmas.NewKinds.{zero_counted}
use Rattle.capnp_model.proofs.lemmas.Counts.{count-of-pointers}
use Rattle.capnp_copy_widening.specs.Moves.{MovesValue, pads_of, pad_from}
use Rattle.capnp_copy_widening.specs.MovedElements.{least_pointers, zeros_at, FillsAsStructs, as_structs}
use Rattle.capnp_copy_widening.proofs.MovedRows.{pads_left, all_left_first, none_left, led}
use Rattle.capnp_copy_widening.proofs.MovedLists.{some_taken}

-- ---- trees

pointers_at : (d k j : ℕ) (ts : Trees) → j < tree_count ts → element_at d (elements_of_pointers k ts) j ≡ structure d 0 (padded_to k (child ts j ▸ none))
pointers_at d k j none l = absurd (omega (arith, l))
pointers_at d k zero (t ▸ ts) l = refl
pointers_at d k (suc j) (t ▸ ts) l = pointers_at d k j ts (omega (arith, l))

first_child : (k : ℕ) (t : Tree) → 1 ≤ k → with_child (resized k none) 0 t ≡ padded_to k (t ▸ none)
first_child zero t l = absurd (omega (arith, l))
first_child (suc k) t l = ap (λ (ts : Trees). t ▸ ts) (resized_padded k none (omega arith))

-- ---- one of them

module _ (n : ℕ) (z u w : Segments) (p a b : Place) (q m d k count j : ℕ) (kids : Trees) (spare pads : List Span) (l : j < count) (lk : 1 ≤ k) (counted : tree_count kids ≡ count) (e : found_at u p ≡ Ok (record { pads = q; object = a_list a 6 count })) (h : Detached n z u p (pointer_list (with_first j none kids)) (pads ++ spare) (a_list b 7 m) (struct_list d k (with_first_elements j (elements_of_pointers k kids) (zero_elements count k))))
    (moves : MovesValue u w (after a j) (after (after (after b 1) (j * (d + k))) d) pads) where
  abbrev targets : Elements
  targets = with_first_elements j (elements_of_pointers k kids) (zero_elements count k)

  few : j < tree_count kids
  few = omega (arith, l, counted)

  few_there : j < element_count (with_first_elements j (elements_of_pointers k kids) (zero_elements count k))
  few_there = omega (arith, l, elements_counted j (elements_of_pointers k kids) (zero_elements count k), zero_counted count k)

  pub pointer_moved : Detached n z w p (pointer_list (with_first (suc j) none kids)) spare (a_list b 7 m) (struct_list d k (with_first_elements (suc j) (elements_of_pointers k kids) (zero_elements count k))) × (found_at w p ≡ Ok (record { pads = q; object = a_list a 6 count }))
  pointer_moved =
      let f : Found = record { pads = q; object = a_list a 6 count } in
      let row = list_row n a count in
      let row' = element_row n b m d k j 0 targets few_there in
      let own = object_of_pointer n u p (record { pads = q; object = a_list a 6 count }) (pointer_list (with_first j none kids)) e (detached_owns n z u p _ _ (pads ++ spare) (a_list b 7 m) h).0 in
      let mine = row.owned u (with_first j none kids) j l own in
      let there = led n u (after a j) (child (with_first j none kids) j) mine.means in
      let here : element_at d (with_first_elements j (elements_of_pointers k kids) (zero_elements count k)) j ≡ structure d 0 (resized k none) = elements_here d j (elements_of_pointers k kids) (zero_elements count k) ∙ zero_element d k count j l in
      let same = element_same d j 0 (resized k none) targets few_there here in
      let h1 = subst (λ (fs : Elements). Detached n z u p (pointer_list (with_first j none kids)) (pads ++ spare) (a_list b 7 m) (struct_list d k fs)) (sym same) h in
      let movable = row_movable n z u p a (after (after (after b 1) (j * (d + k))) d) count k j 0 there.word (λ ks. pointer_list ks) (λ ks. struct_list d k (with_element targets j 0 ks)) (with_first j none kids) (resized k none) pads spare (record { pads = q; object = a_list a 6 count }) there.found (a_list b 7 m) l (omega (arith, lk)) row row' e h1 there.there there.leads (no_child k 0) in
      let at : MovesValue u w (after a j) (after (after (after (after b 1) (j * (d + k))) d) 0) pads = subst (λ (r : Place). MovesValue u w (after a j) r pads) (sym (after_none (after (after (after b 1) (j * (d + k))) d))) moves in
      let moved = at n there.word there.found (child (with_first j none kids) j) movable in
      let y = row_moved n z u w p a (after (after (after b 1) (j * (d + k))) d) count k j 0 (λ ks. pointer_list ks) (λ ks. struct_list d k (with_element targets j 0 ks)) (with_first j none kids) (resized k none) (child (with_first j none kids) j) pads spare (record { pads = q; object = a_list a 6 count }) (a_list b 7 m) l (omega (arith, lk)) row row' e h1 moved in
      let source : with_child (with_first j none kids) j null ≡ with_first (suc j) none kids = first_next j none kids few in
      let kids_are : with_child (resized k none) 0 (child (with_first j none kids) j) ≡ padded_to k (child kids j ▸ none) = ap (with_child (resized k none) 0) (first_here j none kids) ∙ first_child k (child kids j) lk in
      let target : with_element targets j 0 (with_child (resized k none) 0 (child (with_first j none kids) j)) ≡ with_first_elements (suc j) (elements_of_pointers k kids) (zero_elements count k) =
      ap (with_element targets j 0) kids_are ∙ elements_next d j 0 (padded_to k (child kids j ▸ none)) (elements_of_pointers k kids) (zero_elements count k) (omega (arith, few, count-of-pointers k kids)) (omega (arith, l, zero_counted count k)) (pointers_at d k j kids few) in
      let y1 = subst (λ (ks : Trees). Detached n z w p (pointer_list ks) spare (a_list b 7 m) (struct_list d k (with_element targets j 0 (with_child (resized k none) 0 (child (with_first j none kids) j))))) source y.0 in
      (subst (λ (fs : Elements). Detached n z w p (pointer_list (with_first (suc j) none kids)) spare (a_list b 7 m) (struct_list d k fs)) target y1, y.1)

-- ---- the loop

-- the first j moved
unfoldable pub PointersSoFar : Segments → Segments → Place → Place → ℕ → ℕ → ℕ → ℕ → Option code.Place → ℕ → Type 0
PointersSoFar s u a b m d k count pads j =
    (n q : ℕ) (z : Segments) (p : Place) (kids : Trees) (spare : List Span)
    → tree_count kids ≡ count → found_at s p ≡ Ok (record { pads = q; object = a_list a 6 count }) → Detached n z s p (pointer_list kids) (pads_of pads count ++ spare) (a_list b 7 m) (struct_list d k (zero_elements count k))
    → Detached n z u p (pointer_list (with_first j none kids)) (pads_left pads count j ++ spare) (a_list b 7 m) (struct_list d k (with_first_elements j (elements_of_pointers k kids) (zero_elements count k))) × (found_at u p ≡ Ok (record { pads = q; object = a_list a 6 count }))

pub pointers_none : (s : Segments) (a b : Place) (m d k count : ℕ) (pads : Option code.Place) → PointersSoFar s s a b m d k count pads 0
unfolding PointersSoFar
pointers_none s a b m d k count pads = λ n q z p kids spare c e h. (subst (λ (xs : List Span). Detached n z s p (pointer_list kids) (xs ++ spare) (a_list b 7 m) (struct_list d k (zero_elements count k))) (all_left_first pads count) h, e)

pub pointers_next : (s u w : Segments) (a b : Place) (m d k count : ℕ) (pads : Option code.Place) (j : ℕ) → j < count → 1 ≤ k → PointersSoFar s u a b m d k count pads j → MovesValue u w (after a j) (after (after (after b 1) (j * (d + k))) d) (pads_of (pad_from pads j) 1) → PointersSoFar s w a b m d k count pads (suc j)
unfolding PointersSoFar
pointers_next s u w a b m d k count pads j l lk before moves = λ n q z p kids spare counted e h. (
    let x = before n q z p kids spare counted e h in
    let h1 = some_taken n z u p _ _ pads count j 1 spare (a_list b 7 m) (omega (arith, l)) x.0 in
    let y = pointer_moved n z u w p a b q m d k count j kids (pads_left pads count (j + 1) ++ spare) (pads_of (pad_from pads j) 1) l lk counted x.1 h1 moves in
    let next : j + 1 ≡ suc j = omega arith in
    (subst (λ (i : ℕ). Detached n z w p (pointer_list (with_first (suc j) none kids)) (pads_left pads count i ++ spare) (a_list b 7 m) (struct_list d k (with_first_elements (suc j) (elements_of_pointers k kids) (zero_elements count k)))) next y.0, y.1)
    )

-- ---- all

pub one_pointer : (size k : ℕ) → size ≡ 6 → element_pointers size k ≡ 1
one_pointer size k e = rw e refl

pub fills_pointers : (s u : Segments) (old new : ListPlace) (pads : Option code.Place) → size_number old.size ≡ 6 → old.claimed ≡ old.count → size_number new.size ≡ 7 → new.count ≡ old.count → least_pointers old ≤ new.pointers
    → PointersSoFar s u (place_view old.start) (place_view new.start) new.claimed new.data_words new.pointers old.count pads old.count → FillsAsStructs s u old new (pads_of pads (old.count * least_pointers old))
unfolding PointersSoFar
fills_pointers s u old new pads e6 claims n7 many lp all = λ n q z p t spare is e h. (
    let c = old.count in
    let d = new.data_words in
    let k = new.pointers in
    let pointers = one_pointer (size_number old.size) old.pointers e6 in
    let lk : 1 ≤ new.pointers = omega (arith, lp, pointers) in
    let e1 : found_at s p ≡ Ok (record { pads = q; object = a_list (place_view old.start) 6 old.claimed }) = subst (λ (x : ℕ). found_at s p ≡ Ok (record { pads = q; object = a_list (place_view old.start) x old.claimed })) e6 e in
    let e' : found_at s p ≡ Ok (record { pads = q; object = a_list (place_view old.start) 6 old.count }) = subst (λ (x : ℕ). found_at s p ≡ Ok (record { pads = q; object = a_list (place_view old.start) 6 x })) claims e1 in
    let h1 = subst (λ (x : ℕ). Detached n z s p t (pads_of pads (old.count * least_pointers old) ++ spare) (a_list (place_view new.start) x new.claimed) (zeros_at new)) n7 h in
    let each : old.count * least_pointers old ≡ old.count = ap (λ (x : ℕ). old.count * x) pointers ∙ omega arith in
    let h2 = subst (λ (x : ℕ). Detached n z s p t (pads_of pads x ++ spare) (a_list (place_view new.start) 7 new.claimed) (zeros_at new)) each h1 in
    let h3 = subst (λ (x : ℕ). Detached n z s p t (pads_of pads old.count ++ spare) (a_list (place_view new.start) 7 new.claimed) (struct_list new.data_words new.pointers (zero_elements x new.pointers))) many h2 in
    let own = object_of_pointer n s p (record { pads = q; object = a_list (place_view old.start) 6 old.count }) t e' (detached_owns n z s p t _ _ _ h3).0 in
    let shape = list_shape n s (place_view old.start) old.count t own in
    let count : tree_count shape.0 ≡ old.count = list_counted n s (place_view old.start) old.count shape.0 (subst (OwnsObject n s (a_list (place_view old.start) 6 old.count)) shape.1 own) in
    let h4 = subst (λ (v : Tree). Detached n z s p v (pads_of pads old.count ++ spare) (a_list (place_view new.start) 7 new.claimed) (struct_list new.data_words new.pointers (zero_elements old.count new.pointers))) shape.1 h3 in
    let y = all n q z p shape.0 spare count e' h4 in
    let y1 = none_left n z u p (pointer_list (with_first c none shape.0)) (struct_list d k (with_first_elements c (elements_of_pointers k shape.0) (zero_elements c k))) pads old.count spare (a_list (place_view new.start) 7 new.claimed) y.0 in
    let zeros : element_count (zero_elements old.count new.pointers) ≡ old.count = zero_counted old.count new.pointers in
    let done : with_first_elements old.count (elements_of_pointers new.pointers shape.0) (zero_elements old.count new.pointers) ≡ elements_of_pointers new.pointers shape.0 =
    ap (λ (x : ℕ). with_first_elements x (elements_of_pointers new.pointers shape.0) (zero_elements old.count new.pointers)) (sym zeros) ∙ elements_done (elements_of_pointers new.pointers shape.0) (zero_elements old.count new.pointers) (count-of-pointers new.pointers shape.0 ∙ count ∙ sym zeros) in
    let most : new.pointers ≡ max new.pointers 1 = omega (arith, lk) in
    let wide : struct_list new.data_words new.pointers (with_first_elements old.count (elements_of_pointers new.pointers shape.0) (zero_elements old.count new.pointers)) ≡ as_structs new.data_words new.pointers t =
    ap (struct_list new.data_words new.pointers) done ∙ ap (λ (x : ℕ). struct_list new.data_words x (elements_of_pointers new.pointers shape.0)) most ∙ ap (as_structs new.data_words new.pointers) (sym shape.1) in
    let y2 = subst (λ (v : Tree). Detached n z u p (pointer_list (with_first c none shape.0)) spare (a_list (place_view new.start) 7 new.claimed) v) wide y1 in
    (pointer_list (with_first c none shape.0), subst (λ (x : ℕ). Detached n z u p (pointer_list (with_first c none shape.0)) spare (a_list (place_view new.start) x new.claimed) (as_structs new.data_words new.pointers t)) (sym n7) y2)
    )
