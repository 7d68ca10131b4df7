-- Elements as structs: where they lie, and their changes as the list's.
use Rattle.std.proofs.Common.{◌≡◌, ℕ, zero, suc, ◌+◌, ◌*◌, ◌<◌, ◌≤◌, true, refl, ap, sym, subst, ◌∙◌, arith}
use Rattle.std.proofs.Math.Nat.{mul-le-mul_right}
use Rattle.std.specs.Option.{is_some}
use Rattle.capnp_model.specs.Segments.{Segments, Place, place, after, words_at}
use Rattle.capnp_model.specs.Pointers.{Object, a_struct, a_list}
use Rattle.capnp_model.specs.Trees.{Tree, null, capability, structure, plain_list, pointer_list, struct_list, Elements, no_elements, element, element_count}
use Rattle.capnp_model.specs.Edits.{Edit, on_elements}
use Rattle.capnp_wire_objects.specs.Places.{place_view}
use Rattle.capnp_model_writes.specs.Footprints.{OwnsObject}
use Rattle.capnp_model_writes.specs.Changes.{ReplacesObject}
use Rattle.capnp_model_writes.specs.Elements.{element_at, with_element}
use Rattle.capnp_model_writes.proofs.lemmas.Cells.{element_of_list, list_of_element}
use Rattle.capnp_copy_arenas.specs.Structs.{object_of_struct}
use Rattle.capnp_copy_arenas.specs.Lists.{object_of_list}
use Rattle.capnp_copy_arenas.specs.declared.fields.StructPlace.{StructPlace}
use Rattle.capnp_copy_arenas.specs.declared.init.ListPlace.{ListPlace}
use Rattle.capnp_schema_structs.specs.Edits.{IsThere, Edits}
use Rattle.capnp_schema_structs.specs.Puts.{Deepens}
use Rattle.capnp_schema_structs.proofs.lemmas.Deeper.{object_owned_more}
use Rattle.capnp_copy_arenas.proofs.lemmas.Parts.{section_there}
use Rattle.capnp_schema_lists.specs.Lists.{IsListThere, IsListOf, EditsElement, DeepensElement}
use Rattle.capnp_schema_lists.specs.Parts.{struct_cell, cell_in, IsElementStruct}
use Rattle.capnp_schema_lists.specs.Places.{IsStructAt}

-- ---- one of the elements

element_is : (d : ℕ) (es : Elements) (i : ℕ) → i < element_count es → element_at d es i ≡ structure d (struct_cell es i).section (struct_cell es i).kids
element_is d no_elements i l = absurd (omega (arith, l))
element_is d (element section kids es) zero l = refl
element_is d (element section kids es) (suc i) l = element_is d es i (omega (arith, l))

edited : (f : Edit) (es : Elements) (i : ℕ) → on_elements f i es ≡ with_element es i (f (struct_cell es i)).section (f (struct_cell es i)).kids
edited f no_elements i = refl
edited f (element section kids es) zero = refl
edited f (element section kids es) (suc i) = ap (λ ys. element section kids ys) (edited f es i)

-- where its struct begins
abbrev pub struct_in : Place → ℕ → ℕ → ℕ → Object
struct_in q d k i = a_struct (after (after q 1) (i * (d + k))) d k

module _ (n : ℕ) (s : Segments) (q : Place) (m d k i : ℕ) (es : Elements) (l : i < element_count es) (owns : OwnsObject n s (a_list q 7 m) (struct_list d k es)) where
  pub cell_owned : OwnsObject n s (struct_in q d k i) (structure d (struct_cell es i).section (struct_cell es i).kids)
  cell_owned = subst (λ y. OwnsObject n s (struct_in q d k i) y) (element_is d es i l) (element_of_list n s q m d k i es l owns)

  pub cell_lifted : (more : ℕ) (u : Segments) (f : Edit) → n ≤ more → ReplacesObject more s u (struct_in q d k i) (structure d (f (struct_cell es i)).section (f (struct_cell es i)).kids) → ReplacesObject more s u (a_list q 7 m) (struct_list d k (on_elements f i es))
  cell_lifted more u f le r =
      let c = f (struct_cell es i) in
      let all = object_owned_more n more s (a_list q 7 m) (struct_list d k es) le owns in
      let whole = list_of_element more s u q m d k i c.section c.kids es l all r in
      subst (λ ys. ReplacesObject more s u (a_list q 7 m) (struct_list d k ys)) (sym (edited f es i)) whole

-- ---- as a struct

module _ (s : Segments) (o : ListPlace) (i : ℕ) (p : StructPlace) (l : i < o.count) (at : IsStructAt o i p) where
  list_is : object_of_list o ≡ a_list (place_view o.start) 7 o.claimed
  list_is = ap (λ z. a_list (place_view o.start) z o.claimed) at.structs

  struct_is : object_of_struct p ≡ struct_in (place_view o.start) p.data_words p.pointers i
  struct_is =
      let q = place_view o.start in
      let sizes : place_view p.start ≡ after (after q 1) (i * (p.data_words + p.pointers)) = at.place ∙ ap (λ (j : ℕ). after (after q 1) (i * (j + o.pointers))) (sym at.data_words) ∙ ap (λ (j : ℕ). after (after q 1) (i * (p.data_words + j))) (sym at.pointers) in
      ap (λ r. a_struct r p.data_words p.pointers) sizes

  sized_part : (n : ℕ) (es : Elements) → element_count es ≡ o.count → OwnsObject n s (object_of_list o) (struct_list p.data_words p.pointers es) → IsElementStruct n s o i p (struct_list p.data_words p.pointers es)
  sized_part n es few owns =
      let q = place_view o.start in
      let d = p.data_words in
      let k = p.pointers in
      let inside : i < element_count es = omega (arith, l, few) in
      let list : OwnsObject n s (a_list q 7 o.claimed) (struct_list d k es) = subst (λ y. OwnsObject n s y (struct_list d k es)) list_is owns in
      let cell = struct_cell es i in
      record {
        owns = subst (λ y. OwnsObject n s y (structure d cell.section cell.kids)) (sym struct_is) (cell_owned n s q o.claimed d k i es inside list);
        lifts = λ more u f le r.
            (let c = f d k cell in
            let here : ReplacesObject more s u (struct_in q d k i) (structure d c.section c.kids) = subst (λ y. ReplacesObject more s u y (structure d c.section c.kids)) struct_is r in
            let whole = cell_lifted n s q o.claimed d k i es inside list more u (f d k) le here in
            subst (λ y. ReplacesObject more s u y (struct_list d k (on_elements (f d k) i es))) (sym list_is) whole);
      }

  pub struct_part : (n : ℕ) (t : Tree) → IsListOf o t → OwnsObject n s (object_of_list o) t → IsElementStruct n s o i p t
  struct_part n (struct_list d k es) is owns =
      let P : ℕ → ℕ → Type 0 = λ x y. OwnsObject n s (object_of_list o) (struct_list x y es) → IsElementStruct n s o i p (struct_list x y es) in
      let all : P p.data_words p.pointers = sized_part n es is.3 in
      let wide : P d p.pointers = subst (λ x. P x p.pointers) (at.data_words ∙ sym is.1) all in
      let here : P d k = subst (λ y. P d y) (at.pointers ∙ sym is.2) wide in
      here owns
  struct_part n (plain_list size m section) is owns = absurd (let e = is.0 in let few = is.1 in let seven = at.structs in omega (arith, e, few, seven))
  struct_part n (pointer_list ts) is owns = absurd (let six = is.0 in let seven = at.structs in omega (arith, six, seven))
  struct_part n null is owns = absurd is
  struct_part n (capability c) is owns = absurd is
  struct_part n (structure d section ts) is owns = absurd is

  pub struct_edits : (u : Segments) (f : ℕ → ℕ → Edit) → Edits s u p (f p.data_words p.pointers) → EditsElement s u o f i
  struct_edits u f h n t is owns =
      let x = struct_part n t is owns in
      let c = cell_in t i in
      x.lifts n u f (omega arith) (h n c.section c.kids x.owns)

  pub struct_deepens : (u : Segments) (f : ℕ → ℕ → Edit) → Deepens s u p (f p.data_words p.pointers) → DeepensElement s u o f i
  struct_deepens u f h n t is owns =
      let x = struct_part n t is owns in
      let c = cell_in t i in
      x.lifts (suc n) u f (omega arith) (h n c.section c.kids x.owns)

  pub struct_there : IsListThere s o → IsThere s p
  struct_there there =
      let q = place_view o.start in
      let w : ℕ = p.data_words + p.pointers in
      let x = there.whole.2 at.structs in
      let same : o.count * (o.data_words + o.pointers) ≡ o.count * w = ap (λ (j : ℕ). o.count * (j + o.pointers)) (sym at.data_words) ∙ ap (λ (j : ℕ). o.count * (p.data_words + j)) (sym at.pointers) in
      let inside : (i + 1) * w ≤ o.count * w = mul-le-mul_right w (omega (arith, l)) in
      let fit : o.count * w ≤ o.claimed = subst (λ (j : ℕ). j ≤ o.claimed) same x.1 in
      let near = x.0.1 in
      let sizes : place_view p.start ≡ after (after q 1) (i * w) = at.place ∙ ap (λ (j : ℕ). after (after q 1) (i * (j + o.pointers))) (sym at.data_words) ∙ ap (λ (j : ℕ). after (after q 1) (i * (p.data_words + j))) (sym at.pointers) in
      let sum : after q (1 + i * w) ≡ after (after q 1) (i * w) = ap (λ (j : ℕ). place q.segment j) (omega arith) in
      let part : is_some (words_at s (after q (1 + i * w)) w) ≡ true = section_there s q (1 + i * w) w (1 + o.claimed) (omega (arith, inside, fit)) x.0.0 in
      let position : p.start.position ≡ q.position + 1 + i * w = ap (λ (r : Place). r.position) sizes in
      record {
        words = subst (λ r. is_some (words_at s r w) ≡ true) (sum ∙ sym sizes) part;
        near = omega (arith, position, inside, fit, near);
      }
