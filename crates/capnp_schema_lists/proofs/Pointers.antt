-- The pointers of elements: where they lie, and changes of their values as the list's.
use Rattle.std.proofs.Common.{◌≡◌, ◌≢◌, ◌⊎◌, inl, inr, ℕ, zero, suc, ◌+◌, ◌*◌, ◌^◌, ◌<◌, ◌≤◌, true, refl, ap, sym, subst, ◌∙◌, arith}
use Rattle.std.proofs.Math.Nat.{mul-le-mul_right}
use Rattle.std.specs.Option.{is_some}
use Rattle.capnp_model.specs.Segments.{Segments, Place, place, after, words_at}
use Rattle.capnp_model.specs.Pointers.{a_struct, a_list}
use Rattle.capnp_model.specs.Trees.{Tree, null, capability, structure, plain_list, pointer_list, struct_list, Trees, none, ◌▸◌, Elements, tree_count, element_count, child, with_child}
use Rattle.capnp_model.specs.Edits.{put_child, on_pointers, on_elements}
use Rattle.capnp_units.specs.Sizes.{size_number}
use Rattle.capnp_units.specs.declared.sizes.ElementSize.{ElementSize}
use Rattle.capnp_units.specs.declared.sizes.ElementSize.TheVariants.{Void, Bit, Byte, TwoBytes, FourBytes, EightBytes, Pointer, InlineComposite}
use Rattle.capnp_wire_objects.specs.Objects.{AreThere}
use Rattle.capnp_wire_objects.specs.declared.place.Place as code
use Rattle.capnp_wire_objects.specs.Places.{place_view}
use Rattle.capnp_model_writes.specs.Footprints.{Owns, OwnsObject}
use Rattle.capnp_model_writes.specs.Changes.{Replaces, ReplacesObject}
use Rattle.capnp_model_writes.proofs.lemmas.Lift.{child_of_struct, struct_of_child, child_of_list, list_of_child}
use Rattle.capnp_copy_arenas.specs.Values.{Becomes}
use Rattle.capnp_copy_arenas.specs.Lists.{object_of_list}
use Rattle.capnp_copy_arenas.specs.declared.init.ListPlace.{ListPlace}
use Rattle.capnp_schema_structs.proofs.lemmas.Deeper.{object_owned_more}
use Rattle.capnp_copy_arenas.proofs.lemmas.Parts.{section_there}
use Rattle.capnp_schema_lists.specs.Lists.{HasPointer, IsListThere, IsListOf, DeepensElement}
use Rattle.capnp_schema_lists.specs.Parts.{struct_cell, cell_in, on_child, IsPointerOf}
use Rattle.capnp_schema_lists.specs.Places.{IsElementPointer}
use Rattle.capnp_schema_lists.proofs.Parts.{cell_owned, cell_lifted}

-- ---- one of the pointers

on_pointer : (g : Tree → Tree) (ts : Trees) (i : ℕ) → i < tree_count ts → on_pointers (on_child g 0 1) i ts ≡ with_child ts i (g (child ts i))
on_pointer g none i l = absurd (omega (arith, l))
on_pointer g (u ▸ ts) zero l = refl
on_pointer g (u ▸ ts) (suc i) l = ap (λ ys. u ▸ ys) (on_pointer g ts i (omega (arith, l)))

after_none : (p : Place) → p ≡ after p 0
after_none p = ap (λ (k : ℕ). record { segment = p.segment; position = k }) (omega arith)

-- ---- as a pointer

module _ (s : Segments) (o : ListPlace) (i : ℕ) (q : code.Place) (has : HasPointer o) (l : i < o.count) (at : IsElementPointer o i q) where
  -- a list of pointers
  pointer_part : (n : ℕ) (ts : Trees) → size_number o.size ≡ 6 → o.claimed ≡ o.count → tree_count ts ≡ o.count → OwnsObject n s (object_of_list o) (pointer_list ts) → IsPointerOf n s o i q (pointer_list ts)
  pointer_part n ts six counted few owns =
      let p = place_view o.start in
      let k = o.count in
      let list_is : object_of_list o ≡ a_list p 6 k = ap (λ z. a_list p z o.claimed) six ∙ ap (λ c. a_list p 6 c) counted in
      let place_is : place_view q ≡ after p i = at.pointers (λ seven. omega (arith, six, seven)) in
      let list : OwnsObject n s (a_list p 6 k) (pointer_list ts) = subst (λ y. OwnsObject n s y (pointer_list ts)) list_is owns in
      record {
        owns = subst (λ r. Owns n s r (child ts i)) (sym place_is) (child_of_list n s p k i ts l list);
        lifts = λ more u g le h.
            (let v = g (child ts i) in
            let new : Replaces more s u (after p i) v = subst (λ r. Replaces more s u r v) place_is h in
            let all = object_owned_more n more s (a_list p 6 k) (pointer_list ts) le list in
            let put = list_of_child more s u p k i ts v l all new in
            let edit = subst (λ ys. ReplacesObject more s u (a_list p 6 k) (pointer_list ys)) (sym (on_pointer g ts i (omega (arith, l, few)))) put in
            subst (λ y. ReplacesObject more s u y (pointer_list (on_pointers (on_child g 0 1) i ts))) (sym list_is) edit);
      }

  -- a list of structs
  struct_part : (n d k : ℕ) (es : Elements) → size_number o.size ≡ 7 → d ≡ o.data_words → k ≡ o.pointers → element_count es ≡ o.count → OwnsObject n s (object_of_list o) (struct_list d k es) → IsPointerOf n s o i q (struct_list d k es)
  struct_part n d k es seven ed ek few owns =
      let p = place_view o.start in
      let m = o.claimed in
      let e : Place = after (after p 1) (i * (d + k)) in
      let list_is : object_of_list o ≡ a_list p 7 m = ap (λ z. a_list p z m) seven in
      let Q : ℕ → ℕ → Type 0 = λ x y. place_view q ≡ after (after (after p 1) (i * (x + y))) x in
      let wide : Q d o.pointers = subst (λ x. Q x o.pointers) (sym ed) (at.structs seven) in
      let exact : Q d k = subst (λ y. Q d y) (sym ek) wide in
      let place_is : place_view q ≡ after (after e d) 0 = exact ∙ after_none (after e d) in
      let some : 0 < k = subst (λ y. 0 < y) (sym ek) (has.structs seven) in
      let inside : i < element_count es = omega (arith, l, few) in
      let list : OwnsObject n s (a_list p 7 m) (struct_list d k es) = subst (λ y. OwnsObject n s y (struct_list d k es)) list_is owns in
      let c = struct_cell es i in
      let below = cell_owned n s p m d k i es inside list in
      record {
        owns = subst (λ r. Owns n s r (child c.kids 0)) (sym place_is) (child_of_struct n s e d k 0 d c.section c.kids some below);
        lifts = λ more u g le h.
            (let v = g (child c.kids 0) in
            let new : Replaces more s u (after (after e d) 0) v = subst (λ r. Replaces more s u r v) place_is h in
            let all = object_owned_more n more s (a_struct e d k) (structure d c.section c.kids) le below in
            let put : ReplacesObject more s u (a_struct e d k) (structure d c.section (with_child c.kids 0 v)) = struct_of_child more s u e d k 0 d c.section c.kids v some all new in
            let whole = cell_lifted n s p m d k i es inside list more u (on_child g d k) le put in
            subst (λ y. ReplacesObject more s u y (struct_list d k (on_elements (on_child g d k) i es))) (sym list_is) whole);
      }

  pub pointer_parts : (n : ℕ) (t : Tree) → IsListThere s o → IsListOf o t → OwnsObject n s (object_of_list o) t → IsPointerOf n s o i q t
  pointer_parts n (pointer_list ts) there is owns = pointer_part n ts is.0 (let six = is.0 in there.counted (omega (arith, six))) is.1 owns
  pointer_parts n (struct_list d k es) there is owns = struct_part n d k es is.0 is.1 is.2 is.3 owns
  pointer_parts n (plain_list size m section) there is owns =
      let e = is.0 in
      let few = is.1 in
      let six = has.pointers (λ seven. omega (arith, e, few, seven)) in
      absurd (omega (arith, e, few, six))
  pointer_parts n null there is owns = absurd is
  pointer_parts n (capability c) there is owns = absurd is
  pointer_parts n (structure d section ts) there is owns = absurd is

  pub pointer_put : (u : Segments) (v : Tree) → IsListThere s o → Becomes s u (place_view q) v → DeepensElement s u o (λ words pointers. put_child 0 v) i
  pointer_put u v there h n t is owns =
      let x = pointer_parts n t there is owns in
      x.lifts (suc n) u (λ w. v) (omega arith) (h n (child (cell_in t i).kids 0) x.owns)

-- ---- where the pointer lies

by_size : (z : ElementSize) → (size_number z ≡ 7) ⊎ (size_number z ≢ 7)
by_size Void = inr (λ e. omega (arith, e))
by_size Bit = inr (λ e. omega (arith, e))
by_size Byte = inr (λ e. omega (arith, e))
by_size TwoBytes = inr (λ e. omega (arith, e))
by_size FourBytes = inr (λ e. omega (arith, e))
by_size EightBytes = inr (λ e. omega (arith, e))
by_size Pointer = inr (λ e. omega (arith, e))
by_size InlineComposite = inl refl

module _ (s : Segments) (o : ListPlace) (i : ℕ) (q : code.Place) (has : HasPointer o) (l : i < o.count) (at : IsElementPointer o i q) (there : IsListThere s o) where
  in_struct : size_number o.size ≡ 7 → AreThere s (place_view q) 1
  in_struct seven =
      let p = place_view o.start in
      let w : ℕ = o.data_words + o.pointers in
      let x = there.whole.2 seven in
      let some = has.structs seven in
      let inside : (i + 1) * w ≤ o.count * w = mul-le-mul_right w (omega (arith, l)) in
      let fit : o.count * w ≤ o.claimed = x.1 in
      let near = x.0.1 in
      let there : Place = after (after (after p 1) (i * w)) o.data_words in
      let sum : after p (1 + i * w + o.data_words) ≡ there = ap (λ (k : ℕ). place p.segment k) (omega arith) in
      let part = section_there s p (1 + i * w + o.data_words) 1 (1 + o.claimed) (omega (arith, inside, fit, some)) x.0.0 in
      let few : there.position + 1 < 2 ^ 61 = omega (arith, inside, fit, some, near) in
      subst (λ r. AreThere s r 1) (sym (at.structs seven)) (subst (λ r. is_some (words_at s r 1) ≡ true) sum part, few)

  is_pointer : size_number o.size ≢ 7 → AreThere s (place_view q) 1
  is_pointer other =
      let p = place_view o.start in
      let x = there.whole.1 (has.pointers other) in
      let near = x.1 in
      let few : (after p i).position + 1 < 2 ^ 61 = omega (arith, l, near) in
      subst (λ r. AreThere s r 1) (sym (at.pointers other)) (section_there s p i 1 o.count (omega (arith, l)) x.0, few)

  pub pointer_there : AreThere s (place_view q) 1
  pointer_there = elim (by_size o.size) [ inl seven ↦ in_struct seven | inr other ↦ is_pointer other ]
