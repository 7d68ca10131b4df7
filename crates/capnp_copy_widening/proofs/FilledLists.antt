-- Lists whose elements moved to a new list of structs.
use Rattle.std.proofs.Common.{◌≡◌, ℕ, zero, suc, max, ◌+◌, ◌*◌, ◌≤◌, List, ◌++◌, drop, Option, Some, Ok, refl, ap, sym, ◌∙◌, subst, arith}
use Rattle.capnp_model.specs.Sections.{words_for}
use Rattle.capnp_model.specs.Segments.{Segments, Place, after, words_at}
use Rattle.capnp_model.specs.Pointers.{a_list, found_at}
use Rattle.capnp_model.specs.Trees.{Tree, struct_list, Elements, element_count}
use Rattle.capnp_model.specs.Traversal.{tag_in, each, each_element, tree_at}
use Rattle.capnp_model.specs.Trimming.{with_pointers}
use Rattle.capnp_model.specs.Edits.{padded_elements}
use Rattle.capnp_model.proofs.lemmas.Chaining.{bind_some, bind_found, some_is}
use Rattle.capnp_units.specs.Sizes.{size_number}
use Rattle.capnp_wire_objects.specs.Places.{place_view}
use Rattle.capnp_wire.specs.Elements.{element_bits, element_pointers}
use Rattle.capnp_wire_objects.specs.declared.place.Place as code
use Rattle.capnp_model_writes.specs.Children.{with_first_elements, childless}
use Rattle.capnp_model_writes.specs.Detached.{Detached}
use Rattle.capnp_model_writes.specs.Footprints.{OwnsObject}
use Rattle.capnp_model_writes.specs.NewObjects.{zero_elements}
use Rattle.capnp_model_writes.proofs.lemmas.Cells.{element_parts}
use Rattle.capnp_model_writes.proofs.lemmas.Detached.{detached_owns}
use Rattle.capnp_model_writes.proofs.lemmas.Lift.{object_of_pointer}
use Rattle.capnp_model_writes.proofs.lemmas.Turns.{resized_padded, elements_done}
use Rattle.capnp_copy_arenas.specs.declared.init.ListPlace.{ListPlace}
use Rattle.capnp_model_writes.proofs.lemmas.NewKinds.{zero_counted}
use Rattle.capnp_model.proofs.lemmas.TrimFits.{count-with_pointers}
use Rattle.capnp_model.proofs.lemmas.Counts.{each_count}
use Rattle.capnp_copy_widening.specs.Moves.{pads_of}
use Rattle.capnp_copy_widening.specs.MovedElements.{least_data_words, least_pointers, IsOfList, zeros_at, FillsAsStructs, as_structs}
use Rattle.capnp_copy_widening.proofs.MovedRows.{none_left}
use Rattle.capnp_copy_widening.proofs.MovedLists.{ElementsSoFar}

-- ---- lists of structs

pub structs_shape : (n : ℕ) (s : Segments) (p : Place) (m : ℕ) (t : Tree) → OwnsObject n s (a_list p 7 m) t → (d : ℕ) × (k : ℕ) × (es : Elements) × (t ≡ struct_list d k es)
structs_shape n s p m t o =
    let x = bind_some (words_at s p (1 + m)) _ t o.means in
    let y = bind_found (tag_in x.0) _ t x.2 in
    let z = bind_some (each_element (tree_at n s) (after p 1) (drop 1 x.0) y.0.data_words y.0.pointers y.0.count) _ t y.2 in
    (y.0.data_words, y.0.pointers, z.0, sym (some_is _ _ z.2))

each_padded : (f : Place → Option Tree) (p : Place) (ws : List ℕ) (d k c j : ℕ) (es : Elements) → k ≤ j → each_element f p ws d k c ≡ Some es → with_pointers j es ≡ padded_elements j es
each_padded f p ws d k zero j es l e = subst (λ (fs : Elements). with_pointers j fs ≡ padded_elements j fs) (some_is _ _ e) refl
each_padded f p ws d k (suc c) j es l e =
    let x = bind_some (each f (after p d) k) _ es e in
    let y = bind_some (each_element f (after p (d + k)) (drop (d + k) ws) d k c) _ es x.2 in
    let count = each_count f (after p d) k x.0 x.1 in
    let first = resized_padded j x.0 (omega (arith, count, l)) in
    let rest = each_padded f (after p (d + k)) (drop (d + k) ws) d k c j y.0 l y.1 in
    subst (λ (fs : Elements). with_pointers j fs ≡ padded_elements j fs) (some_is _ _ y.2) (rw (first, rest) refl)

pub elements_padded : (n : ℕ) (s : Segments) (p : Place) (m d k j : ℕ) (es : Elements) → k ≤ j → OwnsObject n s (a_list p 7 m) (struct_list d k es) → with_pointers j es ≡ padded_elements j es
elements_padded n s p m d k j es l o = let x = element_parts n s p m d k es o.means in each_padded (tree_at n s) (after p 1) (drop 1 x.words) d k (element_count es) j es l x.elements_are

pub struct_words : (size d : ℕ) → size ≡ 7 → words_for (element_bits size d) ≡ d
struct_words size d e = rw e (omega arith)

pub struct_pointers : (size k : ℕ) → size ≡ 7 → element_pointers size k ≡ k
struct_pointers size k e = rw e refl

pub fills_structs : (s u : Segments) (old new : ListPlace) (pads : Option code.Place) → size_number old.size ≡ 7 → size_number new.size ≡ 7 → new.count ≡ old.count → least_data_words old ≤ new.data_words → least_pointers old ≤ new.pointers
    → ElementsSoFar s u (place_view old.start) (place_view new.start) old.claimed old.data_words old.pointers new.claimed new.data_words new.pointers old.count pads old.count → FillsAsStructs s u old new (pads_of pads (old.count * least_pointers old))
unfolding ElementsSoFar
fills_structs s u old new pads e7 n7 many lw lp all = λ n q z p t spare is e h. (
    let a = place_view old.start in
    let b = place_view new.start in
    let d0 = old.data_words in
    let k0 = old.pointers in
    let d = new.data_words in
    let k = new.pointers in
    let c = old.count in
    let words = struct_words (size_number old.size) old.data_words e7 in
    let pointers = struct_pointers (size_number old.size) old.pointers e7 in
    let ld : old.data_words ≤ new.data_words = omega (arith, lw, words) in
    let lk : old.pointers ≤ new.pointers = omega (arith, lp, pointers) in
    let e' : found_at s p ≡ Ok (record { pads = q; object = a_list (place_view old.start) 7 old.claimed }) = subst (λ (x : ℕ). found_at s p ≡ Ok (record { pads = q; object = a_list (place_view old.start) x old.claimed })) e7 e in
    let h1 = subst (λ (x : ℕ). Detached n z s p t (pads_of pads (old.count * least_pointers old) ++ spare) (a_list (place_view new.start) x new.claimed) (zeros_at new)) n7 h in
    let h2 = subst (λ (x : ℕ). Detached n z s p t (pads_of pads (old.count * x) ++ spare) (a_list (place_view new.start) 7 new.claimed) (zeros_at new)) pointers h1 in
    let h3 = subst (λ (x : ℕ). Detached n z s p t (pads_of pads (old.count * old.pointers) ++ spare) (a_list (place_view new.start) 7 new.claimed) (struct_list new.data_words new.pointers (zero_elements x new.pointers))) many h2 in
    let own = object_of_pointer n s p (record { pads = q; object = a_list (place_view old.start) 7 old.claimed }) t e' (detached_owns n z s p t _ _ _ h3).0 in
    let shape = structs_shape n s a old.claimed t own in
    let es = shape.2 in
    let known : IsOfList old (struct_list shape.0 shape.1 shape.2) = subst (IsOfList old) shape.3 is in
    let tree : t ≡ struct_list old.data_words old.pointers shape.2 = shape.3 ∙ ap (λ (x : ℕ). struct_list x shape.1 shape.2) known.0 ∙ ap (λ (x : ℕ). struct_list old.data_words x shape.2) known.1 in
    let count : element_count shape.2 ≡ old.count = known.2 in
    let h4 = subst (λ (v : Tree). Detached n z s p v (pads_of pads (old.count * old.pointers) ++ spare) (a_list (place_view new.start) 7 new.claimed) (struct_list new.data_words new.pointers (zero_elements old.count new.pointers))) tree h3 in
    let y = all n q z p es spare count e' h4 in
    let old_tree : Tree = struct_list old.data_words old.pointers (with_first_elements old.count (childless old.pointers shape.2) shape.2) in
    let y1 = none_left n z u p old_tree (struct_list d k (with_first_elements c (with_pointers k es) (zero_elements c k))) pads (old.count * old.pointers) spare (a_list (place_view new.start) 7 new.claimed) y.0 in
    let zeros : element_count (zero_elements old.count new.pointers) ≡ old.count = zero_counted old.count new.pointers in
    let done : with_first_elements old.count (with_pointers new.pointers shape.2) (zero_elements old.count new.pointers) ≡ with_pointers new.pointers shape.2 =
    ap (λ (x : ℕ). with_first_elements x (with_pointers new.pointers shape.2) (zero_elements old.count new.pointers)) (sym zeros) ∙ elements_done (with_pointers new.pointers shape.2) (zero_elements old.count new.pointers) (count-with_pointers new.pointers shape.2 ∙ count ∙ sym zeros) in
    let own' : OwnsObject n s (a_list (place_view old.start) 7 old.claimed) (struct_list old.data_words old.pointers shape.2) = subst (OwnsObject n s (a_list (place_view old.start) 7 old.claimed)) tree own in
    let padded = elements_padded n s a old.claimed d0 k0 k es lk own' in
    let most_words : new.data_words ≡ max new.data_words old.data_words = omega (arith, ld) in
    let most_pointers : new.pointers ≡ max new.pointers old.pointers = omega (arith, lk) in
    let wide : struct_list new.data_words new.pointers (with_first_elements old.count (with_pointers new.pointers shape.2) (zero_elements old.count new.pointers)) ≡ as_structs new.data_words new.pointers t =
    ap (struct_list new.data_words new.pointers) (done ∙ padded) ∙ ap (λ (x : ℕ). struct_list x new.pointers (padded_elements new.pointers shape.2)) most_words ∙ ap (λ (x : ℕ). struct_list (max new.data_words old.data_words) x (padded_elements new.pointers shape.2)) most_pointers ∙ ap (as_structs new.data_words new.pointers) (sym tree) in
    let y2 = subst (λ (v : Tree). Detached n z u p old_tree spare (a_list (place_view new.start) 7 new.claimed) v) wide y1 in
    (old_tree, subst (λ (x : ℕ). Detached n z u p old_tree spare (a_list (place_view new.start) x new.claimed) (as_structs new.data_words new.pointers t)) (sym n7) y2)
    )
