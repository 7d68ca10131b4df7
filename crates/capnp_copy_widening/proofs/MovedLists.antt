-- The elements of a list of structs that move one after the other.
use Rattle.std.proofs.Common.{◌≡◌, ℕ, zero, suc, ◌+◌, ◌-◌, ◌*◌, ◌<◌, ◌≤◌, true, List, [], ◌∷◌, ◌++◌, length, map, Option, Some, None, Ok, refl, ap, sym, ◌∙◌, subst, arith}
use Rattle.std.specs.Option.{is_some}
use Rattle.capnp_model.specs.Segments.{Segments, Place, after, words_at}
use Rattle.capnp_model.specs.Pointers.{Object, a_struct, a_list, found_at}
use Rattle.capnp_model.specs.Trees.{Tree, structure, struct_list, none, resized, Elements, element_count}
use Rattle.capnp_model.specs.Trimming.{with_pointers}
use Rattle.capnp_model.specs.Coverage.{Span, span, times_held}
use Rattle.capnp_wire_objects.specs.Places.{place_view}
use Rattle.capnp_wire_objects.specs.declared.place.Place as code
use Rattle.capnp_model_writes.specs.Changes.{ReplacesObject}
use Rattle.capnp_model_writes.specs.Children.{with_first_elements, childless}
use Rattle.capnp_model_writes.specs.Detached.{Detached}
use Rattle.capnp_model_writes.specs.Elements.{element_at, with_element}
use Rattle.capnp_model_writes.specs.Footprints.{object_footprint, OwnsObject}
use Rattle.capnp_model_writes.specs.NewObjects.{zero_elements}
use Rattle.capnp_model_writes.specs.Writes.{with_words}
use Rattle.capnp_model_writes.proofs.lemmas.Cells.{list_of_element, element_parts, parts_fit, list_is, element_le}
use Rattle.capnp_model_writes.proofs.lemmas.Detached.{detached_owns, detached_object, detached_split}
use Rattle.capnp_model_writes.proofs.lemmas.Lift.{slot_is, object_of_pointer, struct_is}
use Rattle.capnp_model_writes.proofs.lemmas.MovedElements.{element_same, struct_filled, old_element, new_element, moved_source, moved_target}
use Rattle.capnp_model_writes.proofs.lemmas.PointerRows.{element_row}
use Rattle.capnp_model_writes.proofs.lemmas.Rows.{after_sum}
use Rattle.capnp_model_writes.proofs.lemmas.Spans.{held, held_is}
use Rattle.capnp_model_writes.proofs.lemmas.SpareMoves.{detached_swapped}
use Rattle.capnp_model_writes.proofs.lemmas.Turns.{struct_shape, elements_here, elements_counted}
use Rattle.capnp_model_writes.proofs.lemmas.Writing.{held_part}
use Rattle.capnp_copy_arenas.specs.declared.fields.StructPlace.{StructPlace}
use Rattle.capnp_copy_arenas.specs.declared.init.ListPlace.{ListPlace}
use Rattle.capnp_model_writes.proofs.lemmas.NewKinds.{zero_counted}
use Rattle.capnp_copy_arenas.proofs.lemmas.RoomLaws.{still_some, sizes_grow}
use Rattle.capnp_copy_arenas.proofs.lemmas.Parts.{section_there}
use Rattle.capnp_copy_widening.specs.Moves.{CopiesWords, MovesRow, pads_of, pad_from, HasPads}
use Rattle.capnp_copy_widening.specs.MovedElements.{struct_begin, MovesElement}
use Rattle.capnp_copy_widening.proofs.MovedRows.{pads_left, all_left_first}
use Rattle.capnp_copy_widening.proofs.WiderRooms.{found_beside}

-- ---- pads

-- the next pads of those that are left
pub some_taken : (n : ℕ) (z u : Segments) (p : Place) (t v : Tree) (pads : Option code.Place) (k i m : ℕ) (spare : List Span) (o : Object) → i + m ≤ k → Detached n z u p t (pads_left pads k i ++ spare) o v → Detached n z u p t (pads_of (pad_from pads i) m ++ (pads_left pads k (i + m) ++ spare)) o v
unfolding pads_left
some_taken n z u p t v None k i m spare o l h = h
some_taken n z u p t v (Some q) k i m spare o l h =
    let sum : 2 * (k - i) ≡ 2 * m + 2 * (k - (i + m)) = omega (arith, l) in
    let h1 : Detached n z u p t (span (after (place_view q) (2 * i)) (2 * m + 2 * (k - (i + m))) ∷ spare) o v = subst (λ (j : ℕ). Detached n z u p t (span (after (place_view q) (2 * i)) j ∷ spare) o v) sum h in
    let h2 = detached_split n z u p t v (after (place_view q) (2 * i)) (2 * m) (2 * (k - (i + m))) spare o h1 in
    let h3 = detached_swapped n z u p t v (span (after (after (place_view q) (2 * i)) (2 * m)) (2 * (k - (i + m)))) (span (after (place_view q) (2 * i)) (2 * m)) spare o h2 in
    let at : after (after (place_view q) (2 * i)) (2 * m) ≡ after (place_view q) (2 * (i + m)) = after_sum (place_view q) (2 * i) (2 * m) (2 * (i + m)) (omega arith) in
    subst (λ (r : Place). Detached n z u p t (span (after (place_view q) (2 * i)) (2 * m) ∷ (span r (2 * (k - (i + m))) ∷ spare)) o v) at h3

-- ---- an element of a list takes no words but the list's

pub element_inside : (n : ℕ) (s : Segments) (p : Place) (m d k j : ℕ) (es : Elements) → j < element_count es → OwnsObject n s (a_list p 7 m) (struct_list d k es) → (q : Place) → object_footprint n s (a_struct (after (after p 1) (j * (d + k))) d k) q ≤ object_footprint n s (a_list p 7 m) q
element_inside n s p m d k j es l o q =
    let x = element_parts n s p m d k es o.means in
    omega (arith, list_is n s p m d k es q x, element_le n s (after p 1) (after (after p 1) (j * (d + k))) m d k (element_count es) j refl l (parts_fit n s p m d k es x) q)

-- ---- the elements

-- the first j moved
unfoldable pub ElementsSoFar : Segments → Segments → Place → Place → ℕ → ℕ → ℕ → ℕ → ℕ → ℕ → ℕ → Option code.Place → ℕ → Type 0
ElementsSoFar s u a b m0 d0 k0 m d k count pads j =
    (n q : ℕ) (z : Segments) (p : Place) (es : Elements) (spare : List Span)
    → element_count es ≡ count → found_at s p ≡ Ok (record { pads = q; object = a_list a 7 m0 }) → Detached n z s p (struct_list d0 k0 es) (pads_of pads (count * k0) ++ spare) (a_list b 7 m) (struct_list d k (zero_elements count k))
    → Detached n z u p (struct_list d0 k0 (with_first_elements j (childless k0 es) es)) (pads_left pads (count * k0) (j * k0) ++ spare) (a_list b 7 m) (struct_list d k (with_first_elements j (with_pointers k es) (zero_elements count k))) × (found_at u p ≡ Ok (record { pads = q; object = a_list a 7 m0 }))

pub elements_none : (s : Segments) (a b : Place) (m0 d0 k0 m d k count : ℕ) (pads : Option code.Place) → ElementsSoFar s s a b m0 d0 k0 m d k count pads 0
unfolding ElementsSoFar
elements_none s a b m0 d0 k0 m d k count pads = λ n q z p es spare c e h. (
    let zero_is : 0 ≡ 0 * k0 = omega arith in
    let first : pads_of pads (count * k0) ≡ pads_left pads (count * k0) (0 * k0) = all_left_first pads (count * k0) ∙ ap (pads_left pads (count * k0)) zero_is in
    (subst (λ (xs : List Span). Detached n z s p (struct_list d0 k0 es) (xs ++ spare) (a_list b 7 m) (struct_list d k (zero_elements count k))) first h, e)
    )

-- ---- one of them

module _ (n : ℕ) (z u x w : Segments) (p a b : Place) (q m0 d0 k0 m d k count j : ℕ) (es : Elements) (spare pads : List Span) (l : j < count) (ld : d0 ≤ d) (lk : k0 ≤ k) (counted : element_count es ≡ count) (e : found_at u p ≡ Ok (record { pads = q; object = a_list a 7 m0 })) (h : Detached n z u p (struct_list d0 k0 (with_first_elements j (childless k0 es) es)) (pads ++ spare) (a_list b 7 m) (struct_list d k (with_first_elements j (with_pointers k es) (zero_elements count k))))
    (copies : CopiesWords u x (after (after a 1) (j * (d0 + k0))) (after (after b 1) (j * (d + k))) d0) (moves : MovesRow x w (after (after (after a 1) (j * (d0 + k0))) d0) (after (after (after b 1) (j * (d + k))) d) k0 pads) where
  abbrev from : Place
  from = after (after a 1) (j * (d0 + k0))

  abbrev to : Place
  to = after (after b 1) (j * (d + k))

  few : j < element_count es
  few = omega (arith, l, counted)

  abbrev sources : Elements
  sources = with_first_elements j (childless k0 es) es

  abbrev targets : Elements
  targets = with_first_elements j (with_pointers k es) (zero_elements count k)

  few_here : j < element_count (with_first_elements j (childless k0 es) es)
  few_here = omega (arith, few, elements_counted j (childless k0 es) es)

  few_there : j < element_count (with_first_elements j (with_pointers k es) (zero_elements count k))
  few_there = omega (arith, l, elements_counted j (with_pointers k es) (zero_elements count k), zero_counted count k)

  own : OwnsObject n u (a_list a 7 m0) (struct_list d0 k0 (with_first_elements j (childless k0 es) es))
  own = object_of_pointer n u p (record { pads = q; object = a_list a 7 m0 }) _ e (detached_owns n z u p _ _ (pads ++ spare) (a_list b 7 m) h).0

  own_new : OwnsObject n u (a_list b 7 m) (struct_list d k (with_first_elements j (with_pointers k es) (zero_elements count k)))
  own_new = (detached_owns n z u p _ _ (pads ++ spare) (a_list b 7 m) h).1

  apart : (r : Place) → times_held (span (after (after a 1) (j * (d0 + k0))) d0 ∷ (span (after (after b 1) (j * (d + k))) d0 ∷ [])) r ≤ 1
  apart r =
      let front = held_part (after (after b 1) (j * (d + k))) 0 d0 d r (omega (arith, ld)) in
      let same : held (after (after (after b 1) (j * (d + k))) 0) d0 r ≡ held (after (after b 1) (j * (d + k))) d0 r = ap (λ (y : Place). held y d0 r) (after_sum (after b 1) (j * (d + k)) 0 (j * (d + k)) (omega arith)) in
      omega (arith, h.apart r, slot_is n u p (record { pads = q; object = a_list a 7 m0 }) r e, element_inside n u a m0 d0 k0 j sources few_here own r, element_inside n u b m d k j targets few_there own_new r, struct_is n u from d0 k0 r, struct_is n u to d k r, held_is from d0 (span to d0 ∷ []) r, held_is to d0 [] r, front, same)

  pub element_moved : Detached n z w p (struct_list d0 k0 (with_first_elements (suc j) (childless k0 es) es)) spare (a_list b 7 m) (struct_list d k (with_first_elements (suc j) (with_pointers k es) (zero_elements count k))) × (found_at w p ≡ Ok (record { pads = q; object = a_list a 7 m0 }))
  element_moved =
      let old = old_element n z u p a b q m0 d0 k0 m d k count j es (pads ++ spare) l counted e h in
      let new = new_element n z u p a b q m0 d0 k0 m d k count j es (pads ++ spare) l counted e h in
      let shape = struct_shape n u from d0 k0 (element_at d0 es j) old in
      let section = shape.0 in
      let kids = shape.1 in
      let old' : OwnsObject n u (a_struct (after (after a 1) (j * (d0 + k0))) d0 k0) (structure d0 shape.0 shape.1) = subst (OwnsObject n u (a_struct (after (after a 1) (j * (d0 + k0))) d0 k0)) shape.2 old in
      let filled = struct_filled n u from to d0 k0 d k d section kids (resized k none) ld old' new in
      let now : x ≡ with_words u (after (after b 1) (j * (d + k))) filled.0 = copies filled.0 filled.1 apart in
      let r : ReplacesObject n u x (a_struct (after (after b 1) (j * (d + k))) d k) (structure d shape.0 (resized k none)) = subst (λ (y : Segments). ReplacesObject n u y (a_struct (after (after b 1) (j * (d + k))) d k) (structure d shape.0 (resized k none))) (sym now) filled.2 in
      let lifted = list_of_element n u x b m d k j section (resized k none) targets few_there own_new r in
      let h1 = detached_object n z u x p (struct_list d0 k0 sources) (struct_list d k targets) (struct_list d k (with_element targets j section (resized k none))) (pads ++ spare) (a_list b 7 m) h lifted in
      let ex = found_beside n z u x p (record { pads = q; object = a_list a 7 m0 }) (struct_list d0 k0 sources) (struct_list d k targets) (struct_list d k (with_element targets j section (resized k none))) (pads ++ spare) (a_list b 7 m) e h lifted in
      let here : element_at d0 (with_first_elements j (childless k0 es) es) j ≡ structure d0 shape.0 shape.1 = elements_here d0 j (childless k0 es) es ∙ shape.2 in
      let same = element_same d0 j section kids sources few_here here in
      let h2 = subst (λ (fs : Elements). Detached n z x p (struct_list d0 k0 fs) (pads ++ spare) (a_list b 7 m) (struct_list d k (with_element targets j section (resized k none)))) (sym same) h1 in
      let moved = moves n k z p (record { pads = q; object = a_list a 7 m0 }) (a_list b 7 m) (λ ks. struct_list d0 k0 (with_element sources j section ks)) (λ ks. struct_list d k (with_element targets j section ks)) kids spare lk (element_row n a m0 d0 k0 j section sources few_here) (element_row n b m d k j section targets few_there) ex h2 in
      let source = moved_source d0 k0 j section kids es few shape.2 in
      let target = moved_target d0 d k count j section kids es few counted shape.2 in
      let h3 = subst (λ (fs : Elements). Detached n z w p (struct_list d0 k0 fs) spare (a_list b 7 m) (struct_list d k (with_element targets j section (resized k kids)))) source moved.0 in
      (subst (λ (fs : Elements). Detached n z w p (struct_list d0 k0 (with_first_elements (suc j) (childless k0 es) es)) spare (a_list b 7 m) (struct_list d k fs)) target h3, moved.1)

-- ---- the loop

-- an index's multiple, and one more of it, are within the whole
pub next_fits : (d k i count : ℕ) → i < count → i * (d + k) + (d + k) ≤ count * (d + k)
next_fits d k i zero l = absurd (omega (arith, l))
next_fits d k zero (suc count) l = omega arith
next_fits d k (suc i) (suc count) l = let x = next_fits d k i count (omega (arith, l)) in omega (arith, x)

pub struct_there : (s u : Segments) (p : Place) (d k count i : ℕ) → i < count → map length u ≡ map length s → is_some (words_at s (after p 1) (count * (d + k))) ≡ true → is_some (words_at u (after (after p 1) (i * (d + k))) (d + k)) ≡ true
struct_there s u p d k count i l sizes e =
    still_some s u (after (after p 1) (i * (d + k))) (d + k) (sizes_grow s u sizes) (section_there s (after p 1) (i * (d + k)) (d + k) (count * (d + k)) (next_fits d k i count l) e)

pub some_pads : (s : Segments) (pads : Option code.Place) (count k i : ℕ) → i < count → HasPads s pads (count * k) → HasPads s (pad_from pads (i * k)) k
some_pads s None count k i l h = tt
some_pads s (Some p) count k i l h =
    let fits = next_fits 0 k i count l in
    (section_there s (place_view p) (2 * (i * k)) (2 * k) (2 * (count * k)) (omega (arith, fits)) h.0, (let n = h.1 in omega (arith, fits, n)))

pub elements_next : (s u w : Segments) (old new : ListPlace) (from to : StructPlace) (pads pad : Option code.Place) (j : ℕ) → j < old.count → old.data_words ≤ new.data_words → old.pointers ≤ new.pointers
    → place_view from.start ≡ struct_begin old j → from.data_words ≡ old.data_words → from.pointers ≡ old.pointers → place_view to.start ≡ struct_begin new j → to.data_words ≡ new.data_words → pad ≡ pad_from pads (j * old.pointers)
    → ElementsSoFar s u (place_view old.start) (place_view new.start) old.claimed old.data_words old.pointers new.claimed new.data_words new.pointers old.count pads j → MovesElement u w from to (pads_of pad from.pointers)
    → ElementsSoFar s w (place_view old.start) (place_view new.start) old.claimed old.data_words old.pointers new.claimed new.data_words new.pointers old.count pads (suc j)
unfolding ElementsSoFar
elements_next s u w old new from to pads pad j l ld lk at fd fk there td pad_is before moves = λ n q z p es spare counted e h. (
    let x = before n q z p es spare counted e h in
    let k0 = old.pointers in
    let fits = next_fits 0 old.pointers j old.count l in
    let h1 = some_taken n z u p _ _ pads (old.count * old.pointers) (j * old.pointers) old.pointers spare (a_list (place_view new.start) 7 new.claimed) (omega (arith, fits)) x.0 in
    let c1 : CopiesWords u moves.0 (struct_begin old j) (place_view to.start) from.data_words = subst (λ (r : Place). CopiesWords u moves.0 r (place_view to.start) from.data_words) at moves.1 in
    let c2 : CopiesWords u moves.0 (struct_begin old j) (struct_begin new j) from.data_words = subst (λ (r : Place). CopiesWords u moves.0 (struct_begin old j) r from.data_words) there c1 in
    let c3 : CopiesWords u moves.0 (struct_begin old j) (struct_begin new j) old.data_words = subst (λ (d : ℕ). CopiesWords u moves.0 (struct_begin old j) (struct_begin new j) d) fd c2 in
    let m1 : MovesRow moves.0 w (after (struct_begin old j) from.data_words) (after (place_view to.start) to.data_words) from.pointers (pads_of pad from.pointers) = subst (λ (r : Place). MovesRow moves.0 w (after r from.data_words) (after (place_view to.start) to.data_words) from.pointers (pads_of pad from.pointers)) at moves.2 in
    let m2 : MovesRow moves.0 w (after (struct_begin old j) old.data_words) (after (place_view to.start) to.data_words) from.pointers (pads_of pad from.pointers) = subst (λ (d : ℕ). MovesRow moves.0 w (after (struct_begin old j) d) (after (place_view to.start) to.data_words) from.pointers (pads_of pad from.pointers)) fd m1 in
    let m3 : MovesRow moves.0 w (after (struct_begin old j) old.data_words) (after (struct_begin new j) to.data_words) from.pointers (pads_of pad from.pointers) = subst (λ (r : Place). MovesRow moves.0 w (after (struct_begin old j) old.data_words) (after r to.data_words) from.pointers (pads_of pad from.pointers)) there m2 in
    let m4 : MovesRow moves.0 w (after (struct_begin old j) old.data_words) (after (struct_begin new j) new.data_words) from.pointers (pads_of pad from.pointers) = subst (λ (d : ℕ). MovesRow moves.0 w (after (struct_begin old j) old.data_words) (after (struct_begin new j) d) from.pointers (pads_of pad from.pointers)) td m3 in
    let m5 : MovesRow moves.0 w (after (struct_begin old j) old.data_words) (after (struct_begin new j) new.data_words) old.pointers (pads_of pad old.pointers) = subst (λ (k : ℕ). MovesRow moves.0 w (after (struct_begin old j) old.data_words) (after (struct_begin new j) new.data_words) k (pads_of pad k)) fk m4 in
    let m6 : MovesRow moves.0 w (after (struct_begin old j) old.data_words) (after (struct_begin new j) new.data_words) old.pointers (pads_of (pad_from pads (j * old.pointers)) old.pointers) = subst (λ (o : Option code.Place). MovesRow moves.0 w (after (struct_begin old j) old.data_words) (after (struct_begin new j) new.data_words) old.pointers (pads_of o old.pointers)) pad_is m5 in
    let y = element_moved n z u moves.0 w p (place_view old.start) (place_view new.start) q old.claimed old.data_words old.pointers new.claimed new.data_words new.pointers old.count j es (pads_left pads (old.count * old.pointers) (j * old.pointers + old.pointers) ++ spare) (pads_of (pad_from pads (j * old.pointers)) old.pointers) l ld lk counted x.1 h1 c3 m6 in
    let next : j * old.pointers + old.pointers ≡ suc j * old.pointers = omega arith in
    (subst (λ (i : ℕ). Detached n z w p (struct_list old.data_words old.pointers (with_first_elements (suc j) (childless old.pointers es) es)) (pads_left pads (old.count * old.pointers) i ++ spare) (a_list (place_view new.start) 7 new.claimed) (struct_list new.data_words new.pointers (with_first_elements (suc j) (with_pointers new.pointers es) (zero_elements old.count new.pointers)))) next y.0, y.1)
    )

-- where the pointers of an element begin
pub pointers_begin : (new : ListPlace) (i : ℕ) (to : StructPlace) (r : code.Place) → place_view r ≡ after (place_view to.start) to.data_words → place_view to.start ≡ struct_begin new i → to.data_words ≡ new.data_words → place_view r ≡ after (struct_begin new i) new.data_words
pointers_begin new i to r e at d = e ∙ ap (λ (q : Place). after q to.data_words) at ∙ ap (after (struct_begin new i)) d

pub times_some : (c t : ℕ) → 0 < t → c ≤ c * t
times_some c zero l = absurd (omega (arith, l))
times_some c (suc t) l = omega arith
