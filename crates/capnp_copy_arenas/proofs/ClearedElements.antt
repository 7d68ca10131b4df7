-- Structs of a list, whose children become null one after the other.
use Rattle.std.proofs.Common.{◌≡◌, ℕ, zero, suc, ◌+◌, ◌*◌, ◌<◌, ◌≤◌, List, [], ◌∷◌, ◌++◌, take, drop, Option, Some, Result, Ok, refl, ap, sym, ◌∙◌, subst, arith}
use Rattle.std.specs.Option.{ok_or}
use Rattle.capnp_model.specs.Kinds.{Kind, OutOfBounds}
use Rattle.capnp_model.specs.Chains.{◌and_then◌}
use Rattle.capnp_model.specs.Sections.{section_of}
use Rattle.capnp_model.specs.Segments.{Segments, Place, after, words_at}
use Rattle.capnp_model.specs.Pointers.{a_struct, a_list}
use Rattle.capnp_model.specs.Trees.{Tree, structure, struct_list, Trees, none, resized, Elements, no_elements, element, element_count}
use Rattle.capnp_model.specs.Traversal.{tag_in, each, each_element, tree_at}
use Rattle.capnp_model.specs.Coverage.{Span, from_each, from_elements}
use Rattle.capnp_model.proofs.lemmas.Chaining.{bind_some, bind_ok, ok_is, some_is}
use Rattle.capnp_wire_objects.specs.Places.{place_view, placed}
use Rattle.capnp_wire_objects.specs.Objects.{whole}
use Rattle.capnp_wire_objects.specs.declared.place.Place as code
use Rattle.capnp_wire_objects.specs.declared.object.Object.{Object}
use Rattle.capnp_wire_objects.specs.declared.object.Object.TheVariants as object
use Rattle.capnp_model_writes.specs.Footprints.{behind, object_footprint, OwnsObject}
use Rattle.capnp_model_writes.specs.Changes.{ReplacesObject}
use Rattle.capnp_model_writes.specs.Elements.{element_at, with_element}
use Rattle.capnp_model_writes.proofs.lemmas.Algebra.{changes_nothing}
use Rattle.capnp_model_writes.proofs.lemmas.Lift.{object_replaced_owned, object_replaced_then}
use Rattle.capnp_model_writes.proofs.lemmas.Cells.{element_parts, element_of_list, list_of_element}
use Rattle.capnp_model_writes.specs.Children.{childless}
use Rattle.capnp_model_writes.proofs.lemmas.Turns.{element_shape}
use Rattle.capnp_copy_arenas.specs.Clearing.{ClearsKids, ClearsElements}
use Rattle.capnp_model_writes.proofs.lemmas.Nulls.{nulls_behind}

-- the children of the first of them are null
pub childless_to : ℕ → ℕ → Elements → Elements
childless_to k zero es = es
childless_to k (suc i) no_elements = no_elements
childless_to k (suc i) (element section kids es) = element section (resized k none) (childless_to k i es)

still_count : (k i : ℕ) (es : Elements) → element_count (childless_to k i es) ≡ element_count es
unfolding childless_to
still_count k zero es = refl
still_count k (suc i) no_elements = refl
still_count k (suc i) (element s ts es) = ap suc (still_count k i es)

childless_next : (d k i section : ℕ) (kids : Trees) (es : Elements) → i < element_count es → element_at d (childless_to k i es) i ≡ structure d section kids → with_element (childless_to k i es) i section (resized k none) ≡ childless_to k (suc i) es
unfolding childless_to
childless_next d k i section kids no_elements l e = absurd (omega (arith, l))
childless_next d k zero section kids (element s ts es) l e = let same : s ≡ section = cc in ap (λ (n : ℕ). element n (resized k none) es) (sym same)
childless_next d k (suc i) section kids (element s ts es) l e = ap (λ (us : Elements). element s (resized k none) us) (childless_next d k i section kids es (omega (arith, l)) e)

childless_all : (k c : ℕ) (es : Elements) → c ≡ element_count es → childless_to k c es ≡ childless k es
unfolding childless_to
childless_all k zero no_elements e = refl
childless_all k zero (element s ts es) e = absurd (omega (arith, e))
childless_all k (suc c) no_elements e = absurd (omega (arith, e))
childless_all k (suc c) (element s ts es) e = ap (λ (us : Elements). element s (resized k none) us) (childless_all k c es (omega (arith, e)))

-- elements without pointers
childless_already : (f : Place → Option Tree) (p : Place) (ws : List ℕ) (d c : ℕ) (es : Elements) → each_element f p ws d 0 c ≡ Some es → childless 0 es ≡ es
childless_already f p ws d zero es e = let is : no_elements ≡ es = some_is _ _ e in subst (λ (us : Elements). childless 0 us ≡ us) is refl
childless_already f p ws d (suc c) es e =
    let y = bind_some (each_element f (after p (d + 0)) (drop (d + 0) ws) d 0 c) _ es e in
    let is : element (section_of (take d ws)) none y.0 ≡ es = some_is _ _ y.2 in
    subst (λ (us : Elements). childless 0 us ≡ us) is (ap (λ (us : Elements). element (section_of (take d ws)) none us) (childless_already f (after p (d + 0)) (drop (d + 0) ws) d c y.0 y.1))

-- what the elements' null children take: nothing
pub childless_behind : (n : ℕ) (s : Segments) (p : Place) (ws : List ℕ) (d k c : ℕ) (es : Elements) → each_element (tree_at n s) p ws d k c ≡ Some (childless k es) → from_elements (behind n s) p d k c ≡ []
childless_behind n s p ws d k zero es e = refl
childless_behind n s p ws d k (suc c) es e =
    let x = bind_some (each (tree_at n s) (after p d) k) _ _ e in
    let y = bind_some (each_element (tree_at n s) (after p (d + k)) (drop (d + k) ws) d k c) _ _ x.2 in
    by_cases es x.0 y.0 x.1 y.1 (some_is _ _ y.2) (λ us f. childless_behind n s (after p (d + k)) (drop (d + k) ws) d k c us f)
  where
    by_cases : (us : Elements) (ts : Trees) (vs : Elements) → each (tree_at n s) (after p d) k ≡ Some ts → each_element (tree_at n s) (after p (d + k)) (drop (d + k) ws) d k c ≡ Some vs → element (section_of (take d ws)) ts vs ≡ childless k us → ((us : Elements) → each_element (tree_at n s) (after p (d + k)) (drop (d + k) ws) d k c ≡ Some (childless k us) → from_elements (behind n s) (after p (d + k)) d k c ≡ []) → from_each (behind n s) (after p d) k ++ from_elements (behind n s) (after p (d + k)) d k c ≡ []
    by_cases no_elements ts vs e f g more = absurd cc
    by_cases (element z zs us) ts vs e f g more =
        let first : ts ≡ resized k none = cc in
        let rest : vs ≡ childless k us = cc in
        let here = nulls_behind n s (after p d) k (e ∙ ap (λ (v : Trees). let o : Option Trees = Some v in o) first) in
        let there = more us (f ∙ ap (λ (v : Elements). let o : Option Elements = Some v in o) rest) in
        ap (λ (xs : List Span). xs ++ from_elements (behind n s) (after p (d + k)) d k c) here ∙ there

-- ---- the list that the code found

pub record Same (p : Place) (q : code.Place) (c d k d' k' : ℕ) (es : Elements) : Type 0 where
  pub start : q ≡ placed (after p 1)
  pub count : c ≡ element_count es
  pub data_words : d ≡ d'
  pub pointers : k ≡ k'

list_there : (n : ℕ) (s : Segments) (p : Place) (m d k : ℕ) (es : Elements) → OwnsObject n s (a_list p 7 m) (struct_list d k es) → whole s (a_list p 7 m) ≡ Ok (object.StructList (placed (after p 1)) m (element_count es) d k)
list_there n s p m d k es o =
    let x = element_parts n s p m d k es o.means in
    let there : words_at s p (1 + m) ≡ Some x.words = x.there in
    let tag : tag_in x.words ≡ Ok (record { count = element_count es; data_words = d; pointers = k }) = x.tag_is in
    rw (there, tag) refl

list_known : (n : ℕ) (s : Segments) (p : Place) (m : ℕ) (q : code.Place) (m' c d k d' k' : ℕ) (es : Elements) → whole s (a_list p 7 m) ≡ Ok (object.StructList q m' c d k) → OwnsObject n s (a_list p 7 m) (struct_list d' k' es) → Same p q c d k d' k' es
list_known n s p m q m' c d k d' k' es e o =
    let is : ◌≡◌ {A = Result Object Kind} (Ok (object.StructList q m' c d k)) (Ok (object.StructList (placed (after p 1)) m (element_count es) d' k')) = sym e ∙ list_there n s p m d' k' es o in
    record { start = cc; count = cc; data_words = cc; pointers = cc }

pub elements_absent : (s : Segments) (p : Place) (m : ℕ) → ((q : code.Place) (m' c d k : ℕ) → whole s (a_list p 7 m) ≡ Ok (object.StructList q m' c d k) → ⊥) → ClearsElements s s p m
elements_absent s p m h = λ n d k es o. absurd (h (placed (after p 1)) m (element_count es) d k (list_there n s p m d k es o))

-- its first element stands behind the tag
pub list_first : (s : Segments) (p : Place) (m : ℕ) (q : code.Place) (m' c d k : ℕ) → whole s (a_list p 7 m) ≡ Ok (object.StructList q m' c d k) → place_view q ≡ after p 1
list_first s p m q m' c d k e =
    let x = bind_ok (ok_or (words_at s p (1 + m)) OutOfBounds) _ (object.StructList q m' c d k) e in
    let y = bind_ok (tag_in x.0) _ (object.StructList q m' c d k) x.2 in
    let is : object.StructList (placed (after p 1)) m y.0.count y.0.data_words y.0.pointers ≡ object.StructList q m' c d k = ok_is _ _ y.2 in
    let same : placed (after p 1) ≡ q = cc in
    sym (ap place_view same)

-- ---- one after the other

pub ElementsSoFar : Segments → Segments → Place → ℕ → ℕ → ℕ → ℕ → Type 0
ElementsSoFar s u p m d k i = (n : ℕ) (es : Elements) → OwnsObject n s (a_list p 7 m) (struct_list d k es) → ReplacesObject n s u (a_list p 7 m) (struct_list d k (childless_to k i es))

pub elements_none : (s : Segments) (p : Place) (m d k : ℕ) → ElementsSoFar s s p m d k 0
unfolding ElementsSoFar childless_to
elements_none s p m d k = λ n es o. record { means = o.means; changes = changes_nothing s (object_footprint n s (a_list p 7 m)) }

pub elements_next : (s u v : Segments) (p : Place) (m : ℕ) (q : code.Place) (m' c d k i : ℕ) → whole s (a_list p 7 m) ≡ Ok (object.StructList q m' c d k) → i < c → ElementsSoFar s u p m d k i → ClearsKids u v (after (after p 1) (i * (d + k))) d k → ElementsSoFar s v p m d k (suc i)
unfolding ElementsSoFar
elements_next s u v p m q m' c d k i w l h clears = λ n es o. (
    let known = list_known n s p m q m' c d k d k es w o in
    let count = still_count k i es in
    let few : i < element_count (childless_to k i es) = omega (arith, l, known.count, count) in
    let less : i < element_count es = omega (arith, l, known.count) in
    let now = h n es o in
    let mine = object_replaced_owned n s u (a_list p 7 m) _ _ o now in
    let x = element_shape d i (childless_to k i es) few in
    let one = element_of_list n u p m d k i (childless_to k i es) few mine in
    let one' = subst (λ (t : Tree). OwnsObject n u (a_struct (after (after p 1) (i * (d + k))) d k) t) x.2 one in
    let next = list_of_element n u v p m d k i x.0 (resized k none) (childless_to k i es) few mine (clears n d x.0 x.1 one') in
    let same : struct_list d k (with_element (childless_to k i es) i x.0 (resized k none)) ≡ struct_list d k (childless_to k (suc i) es) = ap (struct_list d k) (childless_next d k i x.0 x.1 es less x.2) in
    object_replaced_then n s u v (a_list p 7 m) _ _ now (subst (λ (t : Tree). ReplacesObject n u v (a_list p 7 m) t) same next)
    )

pub elements_all : (s u : Segments) (p : Place) (m : ℕ) (q : code.Place) (m' c d k : ℕ) → whole s (a_list p 7 m) ≡ Ok (object.StructList q m' c d k) → ElementsSoFar s u p m d k c → ClearsElements s u p m
unfolding ElementsSoFar
elements_all s u p m q m' c d k w h = λ n d' k' es o. (
    let known = list_known n s p m q m' c d k d' k' es w o in
    let d_is : d ≡ d' = known.data_words in
    let k_is : k ≡ k' = known.pointers in
    let h' : ElementsSoFar s u p m d' k' c = subst (λ (x : ℕ). ElementsSoFar s u p m d' x c) k_is (subst (λ (x : ℕ). ElementsSoFar s u p m x k c) d_is h) in
    subst (λ (us : Elements). ReplacesObject n s u (a_list p 7 m) (struct_list d' k' us)) (childless_all k' c es known.count) (h' n es o)
    )

pub elements_without : (s : Segments) (p : Place) (m : ℕ) (q : code.Place) (m' c d k : ℕ) → whole s (a_list p 7 m) ≡ Ok (object.StructList q m' c d k) → k ≡ 0 → ClearsElements s s p m
elements_without s p m q m' c d k w z = λ n d' k' es o. (
    let known = list_known n s p m q m' c d k d' k' es w o in
    let none_left : k' ≡ 0 = sym known.pointers ∙ z in
    let x = element_parts n s p m d' k' es o.means in
    let read : each_element (tree_at n s) (after p 1) (drop 1 x.words) d' 0 (element_count es) ≡ Some es = subst (λ (j : ℕ). each_element (tree_at n s) (after p 1) (drop 1 x.words) d' j (element_count es) ≡ Some es) none_left x.elements_are in
    let same : childless k' es ≡ es = ap (λ (j : ℕ). childless j es) none_left ∙ childless_already (tree_at n s) (after p 1) (drop 1 x.words) d' (element_count es) es read in
    let stays : ReplacesObject n s s (a_list p 7 m) (struct_list d' k' es) = record { means = o.means; changes = changes_nothing s (object_footprint n s (a_list p 7 m)) } in
    subst (λ (us : Elements). ReplacesObject n s s (a_list p 7 m) (struct_list d' k' us)) (sym same) stays
    )
