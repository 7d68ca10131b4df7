-- The children of an object changed one after the other.
use Rattle.std.proofs.Common.{◌≡◌, ℕ, zero, suc, ◌+◌, List, drop, Some, refl, subst, sym, ◌∙◌, arith, ◌*◌, ◌≤◌, ◌<◌, ap, Ok, take, Option}
use Rattle.capnp_model.specs.Pointers.{a_struct, a_list}
use Rattle.capnp_model.specs.Sections.{section_of}
use Rattle.capnp_model.specs.Segments.{Segments, Place, after, words_at}
use Rattle.capnp_model.specs.Traversal.{tag_in, each, each_element, tree_at, Tag}
use Rattle.capnp_model.specs.Trees.{Tree, Trees, Elements, null, structure, pointer_list, struct_list, none, ◌▸◌, no_elements, element, tree_count, element_count, with_child, padded_to, resized, child}
use Rattle.capnp_model.proofs.lemmas.Chaining.{bind_some, bind_found, some_is, ok_is}
use Rattle.capnp_model.proofs.lemmas.Counts.{each_count, each_element_count}
use Rattle.capnp_model_writes.specs.Changes.{ReplacesObject, Replaces}
use Rattle.capnp_model_writes.specs.Children.{childless, with_first, with_first_elements}
use Rattle.capnp_model_writes.specs.Elements.{element_at, with_element}
use Rattle.capnp_model_writes.specs.Footprints.{OwnsObject, Owns}
use Rattle.capnp_model_writes.proofs.lemmas.Cells.{element_of_list, list_of_element}
use Rattle.capnp_model_writes.proofs.lemmas.Lift.{struct_parts, list_parts, object_replaced_owned, object_replaced_then, child_of_struct, struct_of_child, child_of_list, list_of_child}

-- ---- trees

pub first_next : (i : ℕ) (ts us : Trees) → i < tree_count us → with_child (with_first i ts us) i (child ts i) ≡ with_first (suc i) ts us
first_next zero ts none l = absurd (omega (arith, l))
first_next zero none (u ▸ us) l = refl
first_next zero (t ▸ ts) (u ▸ us) l = refl
first_next (suc i) ts none l = absurd (omega (arith, l))
first_next (suc i) none (u ▸ us) l = ap (λ (vs : Trees). null ▸ vs) (first_next i none us (omega (arith, l)))
first_next (suc i) (t ▸ ts) (u ▸ us) l = ap (λ (vs : Trees). t ▸ vs) (first_next i ts us (omega (arith, l)))

pub first_here : (i : ℕ) (ts us : Trees) → child (with_first i ts us) i ≡ child us i
first_here zero ts us = refl
first_here (suc i) ts none = refl
first_here (suc i) none (u ▸ us) = first_here i none us
first_here (suc i) (t ▸ ts) (u ▸ us) = first_here i ts us

pub first_all : (k : ℕ) (ts us : Trees) → tree_count us ≡ k → with_first k ts us ≡ resized k ts
first_all zero ts none e = refl
first_all zero ts (u ▸ us) e = absurd (omega (arith, e))
first_all (suc k) ts none e = absurd (omega (arith, e))
first_all (suc k) none (u ▸ us) e = ap (λ (vs : Trees). null ▸ vs) (first_all k none us (omega (arith, e)))
first_all (suc k) (t ▸ ts) (u ▸ us) e = ap (λ (vs : Trees). t ▸ vs) (first_all k ts us (omega (arith, e)))

pub first_wider : (k m : ℕ) (ts : Trees) → k ≤ m → tree_count ts ≡ k → with_first k ts (resized m none) ≡ resized m ts
first_wider zero m none l e = refl
first_wider zero m (t ▸ ts) l e = absurd (omega (arith, e))
first_wider (suc k) m none l e = absurd (omega (arith, e))
first_wider (suc k) zero (t ▸ ts) l e = absurd (omega (arith, l))
first_wider (suc k) (suc m) (t ▸ ts) l e = ap (λ (vs : Trees). t ▸ vs) (first_wider k m ts (omega (arith, l)) (omega (arith, e)))

pub resized_padded : (k : ℕ) (ts : Trees) → tree_count ts ≤ k → resized k ts ≡ padded_to k ts
resized_padded zero none l = refl
resized_padded zero (t ▸ ts) l = absurd (omega (arith, l))
resized_padded (suc k) none l = ap (λ (vs : Trees). null ▸ vs) (resized_padded k none (omega arith))
resized_padded (suc k) (t ▸ ts) l = ap (λ (vs : Trees). t ▸ vs) (resized_padded k ts (omega (arith, l)))

-- ---- structs

pub struct_counted : (n : ℕ) (s : Segments) (p : Place) (d k w section : ℕ) (kids : Trees) → OwnsObject n s (a_struct p d k) (structure w section kids) → tree_count kids ≡ k
struct_counted n s p d k w section kids o = each_count (tree_at n s) (after p d) k kids (struct_parts n s p d k w section kids o.means).1.kids_are

pub struct_here : (n : ℕ) (s u : Segments) (p : Place) (d k i w section : ℕ) (ts kids : Trees) → i < k → OwnsObject n s (a_struct p d k) (structure w section kids) → ReplacesObject n s u (a_struct p d k) (structure w section (with_first i ts kids)) → Owns n u (after (after p d) i) (child kids i)
struct_here n s u p d k i w section ts kids l o r =
    subst (Owns n u (after (after p d) i)) (first_here i ts kids) (child_of_struct n u p d k i w section (with_first i ts kids) l (object_replaced_owned n s u (a_struct p d k) _ _ o r))

pub struct_next : (n : ℕ) (s u v : Segments) (p : Place) (d k i w section : ℕ) (ts kids : Trees) → i < k → OwnsObject n s (a_struct p d k) (structure w section kids) → ReplacesObject n s u (a_struct p d k) (structure w section (with_first i ts kids)) → Replaces n u v (after (after p d) i) (child ts i) → ReplacesObject n s v (a_struct p d k) (structure w section (with_first (suc i) ts kids))
struct_next n s u v p d k i w section ts kids l o r h =
    let o' = object_replaced_owned n s u (a_struct p d k) _ _ o r in
    let x = struct_of_child n u v p d k i w section (with_first i ts kids) (child ts i) l o' h in
    subst (λ (us : Trees). ReplacesObject n s v (a_struct p d k) (structure w section us)) (first_next i ts kids (omega (arith, l, struct_counted n s p d k w section kids o))) (object_replaced_then n s u v (a_struct p d k) _ _ r x)

pub struct_done : (n : ℕ) (s : Segments) (p : Place) (d k w section : ℕ) (ts kids : Trees) → OwnsObject n s (a_struct p d k) (structure w section kids) → with_first k ts kids ≡ resized k ts
struct_done n s p d k w section ts kids o = first_all k ts kids (struct_counted n s p d k w section kids o)

pub struct_shape : (n : ℕ) (s : Segments) (p : Place) (d k : ℕ) (t : Tree) → OwnsObject n s (a_struct p d k) t → (section : ℕ) × (kids : Trees) × (t ≡ structure d section kids)
struct_shape n s p d k t o =
    let x = bind_some (words_at s p (d + k)) _ t o.means in
    let y = bind_some (each (tree_at n s) (after p d) k) _ t x.2 in
    (section_of (take d x.0), y.0, sym (some_is _ _ y.2))

-- ---- lists of pointers

pub list_counted : (n : ℕ) (s : Segments) (p : Place) (k : ℕ) (kids : Trees) → OwnsObject n s (a_list p 6 k) (pointer_list kids) → tree_count kids ≡ k
list_counted n s p k kids o = each_count (tree_at n s) p k kids (list_parts n s p k kids o.means).kids_are

pub list_here : (n : ℕ) (s u : Segments) (p : Place) (k i : ℕ) (ts kids : Trees) → i < k → OwnsObject n s (a_list p 6 k) (pointer_list kids) → ReplacesObject n s u (a_list p 6 k) (pointer_list (with_first i ts kids)) → Owns n u (after p i) (child kids i)
list_here n s u p k i ts kids l o r =
    subst (Owns n u (after p i)) (first_here i ts kids) (child_of_list n u p k i (with_first i ts kids) l (object_replaced_owned n s u (a_list p 6 k) _ _ o r))

pub list_next : (n : ℕ) (s u v : Segments) (p : Place) (k i : ℕ) (ts kids : Trees) → i < k → OwnsObject n s (a_list p 6 k) (pointer_list kids) → ReplacesObject n s u (a_list p 6 k) (pointer_list (with_first i ts kids)) → Replaces n u v (after p i) (child ts i) → ReplacesObject n s v (a_list p 6 k) (pointer_list (with_first (suc i) ts kids))
list_next n s u v p k i ts kids l o r h =
    let o' = object_replaced_owned n s u (a_list p 6 k) _ _ o r in
    let x = list_of_child n u v p k i (with_first i ts kids) (child ts i) l o' h in
    subst (λ (us : Trees). ReplacesObject n s v (a_list p 6 k) (pointer_list us)) (first_next i ts kids (omega (arith, l, list_counted n s p k kids o))) (object_replaced_then n s u v (a_list p 6 k) _ _ r x)

pub list_done : (n : ℕ) (s : Segments) (p : Place) (k : ℕ) (ts kids : Trees) → OwnsObject n s (a_list p 6 k) (pointer_list kids) → with_first k ts kids ≡ resized k ts
list_done n s p k ts kids o = first_all k ts kids (list_counted n s p k kids o)

pub list_shape : (n : ℕ) (s : Segments) (p : Place) (k : ℕ) (t : Tree) → OwnsObject n s (a_list p 6 k) t → (kids : Trees) × (t ≡ pointer_list kids)
list_shape n s p k t o =
    let x = bind_some (words_at s p k) _ t o.means in
    let y = bind_some (each (tree_at n s) p k) _ t x.2 in
    (y.0, sym (some_is _ _ y.2))

-- ---- lists of structs

pub elements_next : (d i section : ℕ) (kids : Trees) (es fs : Elements) → i < element_count es → i < element_count fs → element_at d es i ≡ structure d section kids → with_element (with_first_elements i es fs) i section kids ≡ with_first_elements (suc i) es fs
elements_next d i section kids no_elements fs l m e = absurd (omega (arith, l))
elements_next d i section kids es no_elements l m e = absurd (omega (arith, m))
elements_next d zero section kids (element a ts es) (element b us fs) l m e =
    let x : a ≡ section = cc in
    let y : ts ≡ kids = cc in
    ap (λ (z : ℕ). element z kids fs) (sym x) ∙ ap (λ (zs : Trees). element a zs fs) (sym y)
elements_next d (suc i) section kids (element a ts es) (element b us fs) l m e = ap (λ (gs : Elements). element a ts gs) (elements_next d i section kids es fs (omega (arith, l)) (omega (arith, m)) e)

pub elements_here : (d i : ℕ) (es fs : Elements) → element_at d (with_first_elements i es fs) i ≡ element_at d fs i
elements_here d zero es fs = refl
elements_here d (suc i) es no_elements = refl
elements_here d (suc i) no_elements (element b us fs) = refl
elements_here d (suc i) (element a ts es) (element b us fs) = elements_here d i es fs

pub elements_counted : (i : ℕ) (es fs : Elements) → element_count (with_first_elements i es fs) ≡ element_count fs
elements_counted zero es fs = refl
elements_counted (suc i) es no_elements = refl
elements_counted (suc i) no_elements (element b us fs) = refl
elements_counted (suc i) (element a ts es) (element b us fs) = ap suc (elements_counted i es fs)

pub elements_done : (es fs : Elements) → element_count es ≡ element_count fs → with_first_elements (element_count fs) es fs ≡ es
elements_done no_elements no_elements e = refl
elements_done no_elements (element b us fs) e = absurd (omega (arith, e))
elements_done (element a ts es) no_elements e = absurd (omega (arith, e))
elements_done (element a ts es) (element b us fs) e = ap (λ (gs : Elements). element a ts gs) (elements_done es fs (omega (arith, e)))

pub childless_at : (k d i section : ℕ) (kids : Trees) (es : Elements) → i < element_count es → element_at d es i ≡ structure d section kids → element_at d (childless k es) i ≡ structure d section (resized k none)
childless_at k d i section kids no_elements l e = absurd (omega (arith, l))
childless_at k d zero section kids (element a ts es) l e = let x : a ≡ section = cc in ap (λ (z : ℕ). structure d z (resized k none)) x
childless_at k d (suc i) section kids (element a ts es) l e = childless_at k d i section kids es (omega (arith, l)) e

pub childless_count : (k : ℕ) (es : Elements) → element_count (childless k es) ≡ element_count es
childless_count k no_elements = refl
childless_count k (element a ts es) = ap suc (childless_count k es)

pub element_shape : (d i : ℕ) (es : Elements) → i < element_count es → (section : ℕ) × (kids : Trees) × (element_at d es i ≡ structure d section kids)
element_shape d i no_elements l = absurd (omega (arith, l))
element_shape d zero (element a ts es) l = (a, ts, refl)
element_shape d (suc i) (element a ts es) l = element_shape d i es (omega (arith, l))

pub structs_here : (n : ℕ) (s u : Segments) (p : Place) (m d k i : ℕ) (es fs : Elements) → i < element_count fs → OwnsObject n s (a_list p 7 m) (struct_list d k fs) → ReplacesObject n s u (a_list p 7 m) (struct_list d k (with_first_elements i es fs)) → OwnsObject n u (a_struct (after (after p 1) (i * (d + k))) d k) (element_at d fs i)
structs_here n s u p m d k i es fs l o r =
    subst (OwnsObject n u (a_struct (after (after p 1) (i * (d + k))) d k)) (elements_here d i es fs) (element_of_list n u p m d k i (with_first_elements i es fs) (omega (arith, l, elements_counted i es fs)) (object_replaced_owned n s u (a_list p 7 m) _ _ o r))

pub structs_next : (n : ℕ) (s u v : Segments) (p : Place) (m d k i section : ℕ) (kids : Trees) (es fs : Elements) → i < element_count es → i < element_count fs → element_at d es i ≡ structure d section kids → OwnsObject n s (a_list p 7 m) (struct_list d k fs) → ReplacesObject n s u (a_list p 7 m) (struct_list d k (with_first_elements i es fs)) → ReplacesObject n u v (a_struct (after (after p 1) (i * (d + k))) d k) (structure d section kids) → ReplacesObject n s v (a_list p 7 m) (struct_list d k (with_first_elements (suc i) es fs))
structs_next n s u v p m d k i section kids es fs le lf e o r h =
    let o' = object_replaced_owned n s u (a_list p 7 m) _ _ o r in
    let x = list_of_element n u v p m d k i section kids (with_first_elements i es fs) (omega (arith, lf, elements_counted i es fs)) o' h in
    subst (λ (gs : Elements). ReplacesObject n s v (a_list p 7 m) (struct_list d k gs)) (elements_next d i section kids es fs le lf e) (object_replaced_then n s u v (a_list p 7 m) _ _ r x)

pub structs_shape : (n : ℕ) (s : Segments) (p : Place) (m : ℕ) (ws : List ℕ) (tag : Tag) (t : Tree) → words_at s p (1 + m) ≡ Some ws → tag_in ws ≡ Ok tag → OwnsObject n s (a_list p 7 m) t → (es : Elements) × (t ≡ struct_list tag.data_words tag.pointers es) × (element_count es ≡ tag.count)
structs_shape n s p m ws tag t e g o =
    let x = bind_some (words_at s p (1 + m)) _ t o.means in
    let y = bind_found (tag_in x.0) _ t x.2 in
    let same : x.0 ≡ ws = some_is _ _ (sym x.1 ∙ e) in
    let is : y.0 ≡ tag = ok_is _ _ (sym y.1 ∙ ap tag_in same ∙ g) in
    let z = bind_some (each_element (tree_at n s) (after p 1) (drop 1 x.0) y.0.data_words y.0.pointers y.0.count) _ t y.2 in
    (z.0, sym (some_is _ _ z.2) ∙ ap (λ (h : Tag). struct_list h.data_words h.pointers z.0) is, each_element_count (tree_at n s) (after p 1) (drop 1 x.0) y.0.data_words y.0.pointers y.0.count z.0 z.1 ∙ ap (λ (h : Tag). h.count) is)
