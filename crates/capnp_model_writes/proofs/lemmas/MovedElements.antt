-- The elements of a list of structs that move, one after the other, to a list of wider ones beside it.
use Rattle.std.proofs.Common.{◌≡◌, ℕ, zero, suc, ◌+◌, ◌*◌, ◌%◌, ◌^◌, List, [], ◌∷◌, length, take, Some, Ok, refl, ap, sym, ◌∙◌, subst, arith, ◌≤◌, ◌<◌}
use Rattle.std.proofs.lemmas.Nat.{pow_pos}
use Rattle.capnp_model.specs.Coverage.{Span}
use Rattle.capnp_model.specs.Pointers.{a_struct, a_list, found_at}
use Rattle.capnp_model.specs.Sections.{section_of, number_of}
use Rattle.capnp_model.specs.Segments.{Segments, Place, after, words_at}
use Rattle.capnp_model.specs.Trees.{Trees, Elements, no_elements, element, none, structure, struct_list, resized, element_count}
use Rattle.capnp_model.specs.Trimming.{with_pointers}
use Rattle.capnp_model.proofs.lemmas.TrimFits.{count-with_pointers}
use Rattle.capnp_model.proofs.lemmas.ReadFits.{words_length}
use Rattle.capnp_model_writes.specs.Changes.{ReplacesObject}
use Rattle.capnp_model_writes.specs.Children.{with_first_elements, childless}
use Rattle.capnp_model_writes.specs.Detached.{Detached}
use Rattle.capnp_model_writes.specs.Elements.{element_at, with_element}
use Rattle.capnp_model_writes.specs.Footprints.{OwnsObject}
use Rattle.capnp_model_writes.specs.NewObjects.{zero_elements}
use Rattle.capnp_model_writes.specs.Writes.{spliced, with_words}
use Rattle.capnp_model_writes.proofs.lemmas.Cells.{element_of_list}
use Rattle.capnp_model_writes.proofs.lemmas.Detached.{detached_owns}
use Rattle.capnp_model_writes.proofs.lemmas.Lift.{object_of_pointer, struct_parts}
use Rattle.capnp_model_writes.proofs.lemmas.Rows.{after_none}
use Rattle.capnp_model_writes.proofs.lemmas.Spans.{words_front}
use Rattle.capnp_model_writes.proofs.lemmas.Turns.{elements_here, elements_next, elements_counted, childless_at, childless_count}
use Rattle.capnp_model_writes.proofs.lemmas.Writing.{struct_words}
use Rattle.capnp_model_writes.proofs.lemmas.NewKinds.{zero_counted}

-- ---- trees

pub zero_element : (d k count j : ℕ) → j < count → element_at d (zero_elements count k) j ≡ structure d 0 (resized k none)
zero_element d k zero j l = absurd (omega (arith, l))
zero_element d k (suc count) zero l = refl
zero_element d k (suc count) (suc j) l = zero_element d k count j (omega (arith, l))

pub wider_element : (d0 d k j section : ℕ) (kids : Trees) (es : Elements) → j < element_count es → element_at d0 es j ≡ structure d0 section kids → element_at d (with_pointers k es) j ≡ structure d section (resized k kids)
wider_element d0 d k j section kids no_elements l e = absurd (omega (arith, l))
wider_element d0 d k zero section kids (element s ts es) l e =
    let x : s ≡ section = cc in
    let y : ts ≡ kids = cc in
    ap (λ (z : ℕ). structure d z (resized k ts)) x ∙ ap (λ (zs : Trees). structure d section (resized k zs)) y
wider_element d0 d k (suc j) section kids (element s ts es) l e = wider_element d0 d k j section kids es (omega (arith, l)) e

pub element_same : (d j section : ℕ) (kids : Trees) (es : Elements) → j < element_count es → element_at d es j ≡ structure d section kids → with_element es j section kids ≡ es
element_same d j section kids no_elements l e = absurd (omega (arith, l))
element_same d zero section kids (element s ts es) l e =
    let x : s ≡ section = cc in
    let y : ts ≡ kids = cc in
    ap (λ (z : ℕ). element z kids es) (sym x) ∙ ap (λ (zs : Trees). element s zs es) (sym y)
element_same d (suc j) section kids (element s ts es) l e = ap (λ (fs : Elements). element s ts fs) (element_same d j section kids es (omega (arith, l)) e)

-- ---- a section over zeros

over_zeros : (w : ℕ) (vs ws : List ℕ) → number_of w ws ≡ 0 → length vs ≤ length ws → number_of w (spliced 0 vs ws) ≡ number_of w vs
unfolding spliced
over_zeros w [] [] z l = refl
over_zeros w (v ∷ vs) [] z l = absurd (omega (arith, l))
over_zeros w [] (x ∷ ws) z l = z
over_zeros w (v ∷ vs) (x ∷ ws) z l = ap (λ (n : ℕ). n * 2 ^ w + v % 2 ^ w) (over_zeros w vs ws (none_left (number_of w ws) (x % 2 ^ w) z) (omega (arith, l)))
  where
    none_left : (n r : ℕ) → n * 2 ^ w + r ≡ 0 → n ≡ 0
    none_left zero r e = refl
    none_left (suc n) r e = absurd (let p = pow_pos w in omega (arith, e, p))

-- the data words of one struct are written at the front of another's, which are zero
pub struct_filled : (n : ℕ) (s : Segments) (a b : Place) (d0 k0 d k w section : ℕ) (kids kids' : Trees) → d0 ≤ d → OwnsObject n s (a_struct a d0 k0) (structure d0 section kids) → OwnsObject n s (a_struct b d k) (structure w 0 kids')
    → (ws : List ℕ) × (words_at s a d0 ≡ Some ws) × ReplacesObject n s (with_words s b ws) (a_struct b d k) (structure w section kids')
struct_filled n s a b d0 k0 d k w section kids kids' l o o' =
    let parts = (struct_parts n s a d0 k0 d0 section kids o.means).1 in
    let parts' = (struct_parts n s b d k w 0 kids' o'.means).1 in
    let there : words_at s a d0 ≡ Some (take d0 parts.words) = words_front s a d0 k0 parts.words parts.there in
    let there' : words_at s b d ≡ Some (take d parts'.words) = words_front s b d k parts'.words parts'.there in
    let long : length (take d0 parts.words) ≡ d0 = words_length s a d0 (take d0 parts.words) there in
    let long' : length (take d parts'.words) ≡ d = words_length s b d (take d parts'.words) there' in
    let r = struct_words n s b d k 0 w 0 kids' (take d0 parts.words) (take d parts'.words) (omega (arith, long, l)) there' o' in
    let r' : ReplacesObject n s (with_words s b (take d0 parts.words)) (a_struct b d k) (structure w (section_of (spliced 0 (take d0 parts.words) (take d parts'.words))) kids') = subst (λ (q : Place). ReplacesObject n s (with_words s q (take d0 parts.words)) (a_struct b d k) (structure w (section_of (spliced 0 (take d0 parts.words) (take d parts'.words))) kids')) (after_none b) r in
    let is : section_of (spliced 0 (take d0 parts.words) (take d parts'.words)) ≡ section = over_zeros 64 (take d0 parts.words) (take d parts'.words) parts'.section_is (omega (arith, long, long', l)) ∙ parts.section_is in
    (take d0 parts.words, there, subst (λ (j : ℕ). ReplacesObject n s (with_words s b (take d0 parts.words)) (a_struct b d k) (structure w j kids')) is r')

-- ---- the jth element

module _ (n : ℕ) (z u : Segments) (p a b : Place) (pads m0 d0 k0 m d k count j : ℕ) (es : Elements) (spare : List Span) (l : j < count) (counted : element_count es ≡ count) (e : found_at u p ≡ Ok (record { pads = pads; object = a_list a 7 m0 })) (h : Detached n z u p (struct_list d0 k0 (with_first_elements j (childless k0 es) es)) spare (a_list b 7 m) (struct_list d k (with_first_elements j (with_pointers k es) (zero_elements count k)))) where
  few : j < element_count es
  few = omega (arith, l, counted)

  few_here : j < element_count (with_first_elements j (childless k0 es) es)
  few_here = omega (arith, few, elements_counted j (childless k0 es) es)

  few_there : j < element_count (with_first_elements j (with_pointers k es) (zero_elements count k))
  few_there = omega (arith, l, elements_counted j (with_pointers k es) (zero_elements count k), zero_counted count k)

  outer : OwnsObject n u (a_list a 7 m0) (struct_list d0 k0 (with_first_elements j (childless k0 es) es))
  outer = object_of_pointer n u p (record { pads = pads; object = a_list a 7 m0 }) _ e (detached_owns n z u p _ _ spare (a_list b 7 m) h).0

  beside : OwnsObject n u (a_list b 7 m) (struct_list d k (with_first_elements j (with_pointers k es) (zero_elements count k)))
  beside = (detached_owns n z u p _ _ spare (a_list b 7 m) h).1

  pub old_element : OwnsObject n u (a_struct (after (after a 1) (j * (d0 + k0))) d0 k0) (element_at d0 es j)
  old_element = subst (OwnsObject n u (a_struct (after (after a 1) (j * (d0 + k0))) d0 k0)) (elements_here d0 j (childless k0 es) es) (element_of_list n u a m0 d0 k0 j (with_first_elements j (childless k0 es) es) few_here outer)

  pub new_element : OwnsObject n u (a_struct (after (after b 1) (j * (d + k))) d k) (structure d 0 (resized k none))
  new_element = subst (OwnsObject n u (a_struct (after (after b 1) (j * (d + k))) d k)) (elements_here d j (with_pointers k es) (zero_elements count k) ∙ zero_element d k count j l) (element_of_list n u b m d k j (with_first_elements j (with_pointers k es) (zero_elements count k)) few_there beside)

-- what the jth elements become when the struct of the one moved to that of the other
pub moved_source : (d0 k0 j section : ℕ) (kids : Trees) (es : Elements) → j < element_count es → element_at d0 es j ≡ structure d0 section kids → with_element (with_first_elements j (childless k0 es) es) j section (resized k0 none) ≡ with_first_elements (suc j) (childless k0 es) es
moved_source d0 k0 j section kids es l e = elements_next d0 j section (resized k0 none) (childless k0 es) es (omega (arith, l, childless_count k0 es)) l (childless_at k0 d0 j section kids es l e)

pub moved_target : (d0 d k count j section : ℕ) (kids : Trees) (es : Elements) → j < element_count es → element_count es ≡ count → element_at d0 es j ≡ structure d0 section kids → with_element (with_first_elements j (with_pointers k es) (zero_elements count k)) j section (resized k kids) ≡ with_first_elements (suc j) (with_pointers k es) (zero_elements count k)
moved_target d0 d k count j section kids es l c e = elements_next d j section (resized k kids) (with_pointers k es) (zero_elements count k) (omega (arith, l, count-with_pointers k es)) (omega (arith, l, c, zero_counted count k)) (wider_element d0 d k j section kids es l e)
