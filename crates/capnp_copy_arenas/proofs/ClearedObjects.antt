-- Objects of which all words become zero.
use Rattle.std.proofs.Common.{◌≡◌, ℕ, ◌+◌, ◌*◌, ◌<◌, ◌≤◌, true, ltb, List, [], ◌∷◌, ◌++◌, drop, Option, Some, refl, ap, sym, ◌∙◌, subst, arith}
use Rattle.std.specs.Option.{is_some}
use Rattle.std.specs.Result.{result_ok}
use Rattle.std.proofs.lemmas.Bool.{lt-ltb}
use Rattle.capnp_model.specs.Chains.{◌>>=◌}
use Rattle.capnp_model.specs.Sections.{section_of, words_for}
use Rattle.capnp_model.specs.Segments.{Segments, Place, after, words_at}
use Rattle.capnp_model.specs.Pointers.{Object, nothing, a_struct, a_list, a_capability}
use Rattle.capnp_model.specs.Trees.{Tree, structure, pointer_list, struct_list, Trees, none, resized, Elements, element_count, size_bits}
use Rattle.capnp_model.specs.Traversal.{Tag, tag_in, each, each_element, ListKind, of_bits, list_kind, list_words, list_tree, tree_of, tree_at}
use Rattle.capnp_model.specs.Coverage.{Span, span, times_held, from_each, from_elements, covered_tag, covered_object}
use Rattle.capnp_model.proofs.lemmas.PointerWords.{list_kind_small}
use Rattle.capnp_units.specs.Sizes.{data_bits}
use Rattle.capnp_model.proofs.lemmas.Chaining.{bind_some, bind_found, some_is}
use Rattle.capnp_model_writes.specs.Footprints.{behind, object_footprint, OwnsObject}
use Rattle.capnp_model_writes.specs.Changes.{Changes, ReplacesObject}
use Rattle.capnp_model_writes.proofs.lemmas.Spans.{held, held_is}
use Rattle.capnp_model_writes.proofs.lemmas.Rows.{after_none}
use Rattle.capnp_model_writes.proofs.lemmas.There.{words_there}
use Rattle.capnp_model_writes.proofs.lemmas.Algebra.{On, changes_nothing, changes_then, changes_alike}
use Rattle.capnp_model_writes.proofs.lemmas.Lift.{struct_parts, struct_of_parts, list_parts}
use Rattle.capnp_model_writes.proofs.lemmas.Writing.{plain_is}
use Rattle.capnp_model_writes.proofs.lemmas.Cells.{element_parts}
use Rattle.capnp_model_writes.specs.Children.{childless}
use Rattle.capnp_copy_arenas.specs.Clearing.{zeroed_there, ClearsObject, ClearsKids, ClearsElements}
use Rattle.capnp_model_writes.proofs.lemmas.Nulls.{nulls_behind}
use Rattle.capnp_copy_arenas.proofs.ClearedElements.{childless_behind}
use Rattle.capnp_copy_arenas.proofs.lemmas.ZeroedWords.{vanish}

-- an object whose words alone are left loses them
words_go : (s u : Segments) (c : Place → ℕ) (p : Place) (m : ℕ) (ws : List ℕ) (xs : List Span) (d : Place → ℕ) → xs ≡ [] → ((q : Place) → d q ≡ times_held (span p m ∷ xs) q) → words_at u p m ≡ Some ws → Changes s u c d → Changes s (zeroed_there u p m) c (λ q. 0)
words_go s u c p m ws xs d e is there h =
    let alone : (q : Place) → held p m q ≡ d q = λ q. (let a : times_held (span p m ∷ xs) q ≡ times_held (span p m ∷ []) q = ap (λ (ys : List Span). times_held (span p m ∷ ys) q) e in let b = held_is p m [] q in omega (arith, a, b, is q)) in
    let own : Changes s u c (held p m) = changes_alike s u c d c (held p m) h (λ q. refl) alone in
    let on : On u (held p m) = λ q l. words_there u (span p m ∷ []) q ((ws, there), tt) (omega (arith, l, held_is p m [] q)) in
    changes_then s u (zeroed_there u p m) c (held p m) (λ q. 0) own (vanish u p m (λ l. ap is_some there)) on

pub nothing_goes : (s : Segments) → ClearsObject s s nothing
nothing_goes s = λ n t o. changes_nothing s (object_footprint n s nothing)

pub capability_goes : (s : Segments) (i : ℕ) → ClearsObject s s (a_capability i)
capability_goes s i = λ n t o. changes_nothing s (object_footprint n s (a_capability i))

pub struct_goes : (s u : Segments) (p : Place) (d k : ℕ) → ClearsKids s u p d k → ClearsObject s (zeroed_there u p (d + k)) (a_struct p d k)
struct_goes s u p d k h = λ n t o. (
    let x = bind_some (words_at s p (d + k)) _ t o.means in
    let y = bind_some (each (tree_at n s) (after p d) k) _ t x.2 in
    let is : structure d (section_of _) y.0 ≡ t = some_is _ _ y.2 in
    let o' : OwnsObject n s (a_struct p d k) (structure d (section_of _) y.0) = subst (λ (v : Tree). OwnsObject n s (a_struct p d k) v) (sym is) o in
    let r = h n d _ y.0 o' in
    let parts = (struct_parts n u p d k d _ (resized k none) r.means).1 in
    words_go s u (object_footprint n s (a_struct p d k)) p (d + k) parts.words (from_each (behind n u) (after p d) k) (object_footprint n u (a_struct p d k)) (nulls_behind n u (after p d) k parts.kids_are) (λ q. refl) parts.there r.changes
    )

pub pointers_go : (s u : Segments) (p : Place) (k : ℕ) → ClearsKids s u p 0 k → ClearsObject s (zeroed_there u p k) (a_list p 6 k)
pointers_go s u p k h = λ n t o. (
    let x = bind_some (words_at s p k) _ t o.means in
    let y = bind_some (each (tree_at n s) p k) _ t x.2 in
    let sum : 0 + k ≡ k = omega arith in
    let there : words_at s p (0 + k) ≡ Some x.0 = ap (words_at s p) sum ∙ x.1 in
    let kids : each (tree_at n s) (after p 0) k ≡ Some y.0 = ap (λ (q : Place). each (tree_at n s) q k) (after_none p) ∙ y.1 in
    let alike : (v : Segments) (q : Place) → object_footprint n v (a_list p 6 k) q ≡ object_footprint n v (a_struct p 0 k) q = λ v q. ap (λ (m : ℕ). times_held (span p m ∷ from_each (behind n v) p k) q) (sym sum) ∙ ap (λ (r : Place). times_held (span p (0 + k) ∷ from_each (behind n v) r k) q) (sym (after_none p)) in
    let o' : OwnsObject n s (a_struct p 0 k) (structure 0 0 y.0) = record { means = struct_of_parts n s p 0 k 0 y.0 (record { words = x.0; there = there; section_is = refl; kids_are = kids }); apart = λ q. omega (arith, o.apart q, alike s q) } in
    let r = h n 0 0 y.0 o' in
    let parts = (struct_parts n u p 0 k 0 0 (resized k none) r.means).1 in
    let all = words_go s u (object_footprint n s (a_struct p 0 k)) p (0 + k) parts.words (from_each (behind n u) (after p 0) k) (object_footprint n u (a_struct p 0 k)) (nulls_behind n u (after p 0) k parts.kids_are) (λ q. refl) parts.there r.changes in
    let all' : Changes s (zeroed_there u p k) (object_footprint n s (a_struct p 0 k)) (λ q. 0) = subst (λ (m : ℕ). Changes s (zeroed_there u p m) (object_footprint n s (a_struct p 0 k)) (λ q. 0)) sum all in
    changes_alike s (zeroed_there u p k) (object_footprint n s (a_struct p 0 k)) (λ q. 0) (object_footprint n s (a_list p 6 k)) (λ q. 0) all' (λ q. alike s q) (λ q. refl)
    )

pub plain_goes : (s : Segments) (p : Place) (size count : ℕ) → list_kind size ≡ of_bits → ClearsObject s (zeroed_there s p (words_for (size_bits size * count))) (a_list p size count)
plain_goes s p size count k = λ n t o. (
    let m = words_for (size_bits size * count) in
    let e : tree_of s (tree_at n s) (a_list p size count) ≡ Some t = o.means in
    let there : (ws : List ℕ) × (words_at s p (words_for (size_bits size * count)) ≡ Some ws) = plain_there n t e in
    words_go s s (object_footprint n s (a_list p size count)) p (words_for (size_bits size * count)) there.0 [] (object_footprint n s (a_list p size count)) refl (λ q. plain_is n s p size count q k ∙ (omega (arith, held_is p (words_for (size_bits size * count)) [] q))) there.1 (changes_nothing s (object_footprint n s (a_list p size count)))
    )
  where
    plain_there : (n : ℕ) (t : Tree) → tree_of s (tree_at n s) (a_list p size count) ≡ Some t → (ws : List ℕ) × (words_at s p (words_for (size_bits size * count)) ≡ Some ws)
    plain_there n t e = let e' = subst (λ (kind : ListKind). (words_at s p (list_words kind size count) >>= λ ws. list_tree (tree_at n s) p kind size count ws) ≡ Some t) k e in let x = bind_some (words_at s p (words_for (size_bits size * count))) _ t e' in (x.0, x.1)

pub elements_go : (s u : Segments) (p : Place) (m : ℕ) → ClearsElements s u p m → ClearsObject s (zeroed_there u p (1 + m)) (a_list p 7 m)
elements_go s u p m h = λ n t o. (
    let x = bind_some (words_at s p (1 + m)) _ t o.means in
    let y = bind_found (tag_in x.0) _ t x.2 in
    let z = bind_some (each_element (tree_at n s) (after p 1) (drop 1 x.0) y.0.data_words y.0.pointers y.0.count) _ t y.2 in
    let d = y.0.data_words in
    let k = y.0.pointers in
    let is : struct_list y.0.data_words y.0.pointers z.0 ≡ t = some_is _ _ z.2 in
    let o' : OwnsObject n s (a_list p 7 m) (struct_list y.0.data_words y.0.pointers z.0) = subst (λ (v : Tree). OwnsObject n s (a_list p 7 m) v) (sym is) o in
    let r = h n y.0.data_words y.0.pointers z.0 o' in
    let parts = element_parts n u p m y.0.data_words y.0.pointers (childless y.0.pointers z.0) r.means in
    let there : words_at u p (1 + m) ≡ Some parts.words = parts.there in
    let c = element_count (childless y.0.pointers z.0) in
    let read : (words_at u p (1 + m) >>= λ ws. result_ok (tag_in ws)) ≡ Some (record { count = element_count (childless y.0.pointers z.0); data_words = y.0.data_words; pointers = y.0.pointers }) = rw there (ap result_ok parts.tag_is) in
    let foot : (q : Place) → object_footprint n u (a_list p 7 m) q ≡ times_held (span p (1 + m) ∷ from_elements (behind n u) (after p 1) y.0.data_words y.0.pointers (element_count (childless y.0.pointers z.0))) q = λ q. ap (λ (g : Option Tag). times_held (span p (1 + m) ∷ covered_tag (behind n u) p g) q) read in
    words_go s u (object_footprint n s (a_list p 7 m)) p (1 + m) parts.words (from_elements (behind n u) (after p 1) y.0.data_words y.0.pointers (element_count (childless y.0.pointers z.0))) (object_footprint n u (a_list p 7 m)) (childless_behind n u (after p 1) (drop 1 parts.words) y.0.data_words y.0.pointers (element_count (childless y.0.pointers z.0)) z.0 parts.elements_are) foot parts.there r.changes
    )

-- ---- as the code goes

pub after_kids : (s v u : Segments) (p : Place) (d k m : ℕ) (o : Object) → o ≡ a_struct p d k → m ≡ d + k → ClearsKids s v p d k → u ≡ zeroed_there v p m → ClearsObject s u o
after_kids s v u p d k m o oe me h ue =
    let there : zeroed_there v p (d + k) ≡ u = ap (zeroed_there v p) (sym me) ∙ sym ue in
    subst (λ (x : Object). ClearsObject s u x) (sym oe) (subst (λ (x : Segments). ClearsObject s x (a_struct p d k)) there (struct_goes s v p d k h))

pub after_pointers : (s v u : Segments) (p : Place) (size k : ℕ) → size ≡ 6 → ClearsKids s v p 0 k → u ≡ zeroed_there v p k → ClearsObject s u (a_list p size k)
after_pointers s v u p size k e h ue = subst (λ (x : ℕ). ClearsObject s u (a_list p x k)) (sym e) (subst (λ (x : Segments). ClearsObject s x (a_list p 6 k)) (sym ue) (pointers_go s v p k h))

pub after_elements : (s v u : Segments) (p : Place) (size k : ℕ) → size ≡ 7 → ClearsElements s v p k → u ≡ zeroed_there v p (1 + k) → ClearsObject s u (a_list p size k)
after_elements s v u p size k e h ue = subst (λ (x : ℕ). ClearsObject s u (a_list p x k)) (sym e) (subst (λ (x : Segments). ClearsObject s x (a_list p 7 k)) (sym ue) (elements_go s v p k h))

pub after_plain : (s u : Segments) (p : Place) (size k m : ℕ) → size < 6 → m ≡ words_for (data_bits size * k) → u ≡ zeroed_there s p m → ClearsObject s u (a_list p size k)
after_plain s u p size k m l me ue =
    let small : ltb size 6 ≡ true = lt-ltb size 6 l in
    let bits : data_bits size ≡ size_bits size = rw small refl in
    let there : zeroed_there s p (words_for (size_bits size * k)) ≡ u = ap (λ (b : ℕ). zeroed_there s p (words_for (b * k))) (sym bits) ∙ ap (zeroed_there s p) (sym me) ∙ sym ue in
    subst (λ (x : Segments). ClearsObject s x (a_list p size k)) there (plain_goes s p size k (list_kind_small size l))
