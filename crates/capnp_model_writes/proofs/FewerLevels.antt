-- What belongs to a value is the same at all nesting limits that its depth keeps.
use Rattle.std.proofs.Common.{◌≡◌, ℕ, zero, suc, ◌+◌, ◌≤◌, max, List, ◌∷◌, ◌++◌, take, drop, Option, Some, Ok, refl, ap, sym, ◌∙◌, subst, arith, inl, inr}
use Rattle.std.specs.Result.{result_ok}
use Rattle.std.proofs.lemmas.Bool.{cases_lt}
use Rattle.capnp_model.specs.Chains.{◌>>=◌}
use Rattle.capnp_model.specs.Sections.{section_of}
use Rattle.capnp_model.specs.Segments.{Segments, Place, after, words_at}
use Rattle.capnp_model.specs.Pointers.{Object, nothing, a_struct, a_list, a_capability}
use Rattle.capnp_model.specs.Trees.{Tree, Trees, Elements, ◌▸◌, element, depth, depths, element_depths}
use Rattle.capnp_model.specs.Traversal.{tag_in, each, each_element, ListKind, of_bits, of_pointers, of_structs, list_kind, list_words, list_tree, tree_of, tree_at}
use Rattle.capnp_model.specs.Coverage.{Span, span, times_held, from_each, from_elements, covered_tag, covered_list, covered_object}
use Rattle.capnp_model.proofs.lemmas.Chaining.{bind_some, bind_found, some_is}
use Rattle.capnp_model.proofs.lemmas.Levels.{tree_at_reads}
use Rattle.capnp_model_writes.specs.Changes.{Replaces, ReplacesObject}
use Rattle.capnp_model_writes.specs.Footprints.{behind, footprint, object_footprint, Owns, OwnsObject}
use Rattle.capnp_model_writes.proofs.lemmas.Algebra.{changes_alike}
use Rattle.capnp_model_writes.proofs.lemmas.Levels.{behind_more}

-- one level: what `f` and `b` tell of values that are at most m deep, `g` and `c` tell too
module _ (m : ℕ) (s : Segments) (f g : Place → Option Tree) (b c : Place → List Span) (h : (p : Place) (t : Tree) → f p ≡ Some t → depth t ≤ m → (g p ≡ Some t) × (c p ≡ b p)) where
  each_alike : (p : Place) (k : ℕ) (ts : Trees) → each f p k ≡ Some ts → depths ts ≤ m → (each g p k ≡ Some ts) × (from_each c p k ≡ from_each b p k)
  each_alike p zero ts e l = (e, refl)
  each_alike p (suc k) ts e l =
      let x = bind_some (f p) _ ts e in
      let y = bind_some (each f (after p 1) k) _ ts x.2 in
      let is : (x.0 ▸ y.0) ≡ ts = some_is _ _ y.2 in
      let deep : max (depth x.0) (depths y.0) ≤ m = subst (λ (us : Trees). depths us ≤ m) (sym is) l in
      let here = h p x.0 x.1 (omega arith) in
      let rest = each_alike (after p 1) k y.0 y.1 (omega arith) in
      let t : g p ≡ Some x.0 = here.0 in
      let ts' : each g (after p 1) k ≡ Some y.0 = rest.0 in
      (rw (t, ts') y.2, ap (λ (xs : List Span). xs ++ from_each c (after p 1) k) here.1 ∙ ap (λ (xs : List Span). b p ++ xs) rest.1)

  elements_alike : (p : Place) (ws : List ℕ) (d k n : ℕ) (es : Elements) → each_element f p ws d k n ≡ Some es → element_depths es ≤ m → (each_element g p ws d k n ≡ Some es) × (from_elements c p d k n ≡ from_elements b p d k n)
  elements_alike p ws d k zero es e l = (e, refl)
  elements_alike p ws d k (suc n) es e l =
      let x = bind_some (each f (after p d) k) _ es e in
      let y = bind_some (each_element f (after p (d + k)) (drop (d + k) ws) d k n) _ es x.2 in
      let is : element (section_of (take d ws)) x.0 y.0 ≡ es = some_is _ _ y.2 in
      let deep : max (depths x.0) (element_depths y.0) ≤ m = subst (λ (us : Elements). element_depths us ≤ m) (sym is) l in
      let here = each_alike (after p d) k x.0 x.1 (omega arith) in
      let rest = elements_alike (after p (d + k)) (drop (d + k) ws) d k n y.0 y.1 (omega arith) in
      let t : each g (after p d) k ≡ Some x.0 = here.0 in
      let ts' : each_element g (after p (d + k)) (drop (d + k) ws) d k n ≡ Some y.0 = rest.0 in
      (rw (t, ts') y.2, ap (λ (xs : List Span). xs ++ from_elements c (after p (d + k)) d k n) here.1 ∙ ap (λ (xs : List Span). from_each b (after p d) k ++ xs) rest.1)

  list_alike : (p : Place) (kind : ListKind) (size n : ℕ) (ws : List ℕ) (t : Tree) → words_at s p (list_words kind size n) ≡ Some ws → list_tree f p kind size n ws ≡ Some t → depth t ≤ suc m → (list_tree g p kind size n ws ≡ Some t) × (covered_list s c p kind size n ≡ covered_list s b p kind size n)
  list_alike p of_bits size n ws t w e l = (e, refl)
  list_alike p of_pointers size n ws t w e l =
      let x = bind_some (each f p n) _ t e in
      let deep : suc (depths x.0) ≤ suc m = subst (λ (u : Tree). depth u ≤ suc m) (sym (some_is _ _ x.2)) l in
      let here = each_alike p n x.0 x.1 (omega arith) in
      let is : each g p n ≡ Some x.0 = here.0 in
      (rw is x.2, here.1)
  list_alike p of_structs size n ws t w e l =
      let x = bind_found (tag_in ws) _ t e in
      let tag = x.0 in
      let y = bind_some (each_element f (after p 1) (drop 1 ws) tag.data_words tag.pointers tag.count) _ t x.2 in
      let deep : suc (element_depths y.0) ≤ suc m = subst (λ (u : Tree). depth u ≤ suc m) (sym (some_is _ _ y.2)) l in
      let here = elements_alike (after p 1) (drop 1 ws) tag.data_words tag.pointers tag.count y.0 y.1 (omega arith) in
      let found : tag_in ws ≡ Ok tag = x.1 in
      let is : each_element g (after p 1) (drop 1 ws) tag.data_words tag.pointers tag.count ≡ Some y.0 = here.0 in
      let read : (words_at s p (1 + n) >>= λ vs. result_ok (tag_in vs)) ≡ Some tag = rw w (ap result_ok found) in
      (rw (found, is) y.2, ap (covered_tag c p) read ∙ here.1 ∙ sym (ap (covered_tag b p) read))

  object_alike : (o : Object) (t : Tree) → tree_of s f o ≡ Some t → depth t ≤ suc m → (tree_of s g o ≡ Some t) × (covered_object s c o ≡ covered_object s b o)
  object_alike nothing t e l = (e, refl)
  object_alike (a_capability i) t e l = (e, refl)
  object_alike (a_struct p d k) t e l =
      let x = bind_some (words_at s p (d + k)) _ t e in
      let y = bind_some (each f (after p d) k) _ t x.2 in
      let deep : suc (depths y.0) ≤ suc m = subst (λ (u : Tree). depth u ≤ suc m) (sym (some_is _ _ y.2)) l in
      let here = each_alike (after p d) k y.0 y.1 (omega arith) in
      let there : words_at s p (d + k) ≡ Some x.0 = x.1 in
      let is : each g (after p d) k ≡ Some y.0 = here.0 in
      (rw (there, is) y.2, ap (λ (xs : List Span). span p (d + k) ∷ xs) here.1)
  object_alike (a_list p size n) t e l =
      let x = bind_some (words_at s p (list_words (list_kind size) size n)) _ t e in
      let there : words_at s p (list_words (list_kind size) size n) ≡ Some x.0 = x.1 in
      let here = list_alike p (list_kind size) size n x.0 t x.1 x.2 l in
      (rw there here.0, ap (λ (xs : List Span). span p (list_words (list_kind size) size n) ∷ xs) here.1)

-- ---- at levels that the depth keeps, more or fewer

behind_at : (n m : ℕ) (s : Segments) (p : Place) (t : Tree) → tree_at n s p ≡ Some t → tree_at m s p ≡ Some t → behind m s p ≡ behind n s p
behind_at n m s p t e f = elim (cases_lt n m) [ inl l ↦ behind_more n m s p t (omega arith) e | inr l ↦ sym (behind_more m n s p t l f) ]

value_at : (n m : ℕ) (s : Segments) (p : Place) (t : Tree) → tree_at n s p ≡ Some t → depth t ≤ m → (tree_at m s p ≡ Some t) × (behind m s p ≡ behind n s p)
value_at n m s p t e l = let f = tree_at_reads n m s p t e l in (f, behind_at n m s p t e f)

object_at : (n m : ℕ) (s : Segments) (o : Object) (t : Tree) → tree_of s (tree_at n s) o ≡ Some t → depth t ≤ suc m → (tree_of s (tree_at m s) o ≡ Some t) × (covered_object s (behind m s) o ≡ covered_object s (behind n s) o)
object_at n m s o t e l = object_alike m s (tree_at n s) (tree_at m s) (behind n s) (behind m s) (λ p u f d. value_at n m s p u f d) o t e l

footprint_at : (n m : ℕ) (s : Segments) (p : Place) (t : Tree) (q : Place) → tree_at n s p ≡ Some t → depth t ≤ m → footprint m s p q ≡ footprint n s p q
footprint_at n m s p t q e l = ap (λ (xs : List Span). times_held (span p 1 ∷ xs) q) (value_at n m s p t e l).1

object_footprint_at : (n m : ℕ) (s : Segments) (o : Object) (t : Tree) (q : Place) → tree_of s (tree_at n s) o ≡ Some t → depth t ≤ suc m → object_footprint m s o q ≡ object_footprint n s o q
object_footprint_at n m s o t q e l = ap (λ (xs : List Span). times_held xs q) (object_at n m s o t e l).1

-- THE LAWS
pub owned_at : (n m : ℕ) (s : Segments) (p : Place) (t : Tree) → depth t ≤ m → Owns n s p t → Owns m s p t
owned_at n m s p t l o =
    record {
      means = (value_at n m s p t o.means l).0;
      apart = λ q. omega (arith, o.apart q, footprint_at n m s p t q o.means l);
    }

pub replaced_at : (n m : ℕ) (s u : Segments) (p : Place) (t v : Tree) → depth t ≤ m → depth v ≤ m → Owns n s p t → Replaces n s u p v → Replaces m s u p v
replaced_at n m s u p t v l k o r =
    record {
      means = (value_at n m u p v r.means k).0;
      changes = changes_alike s u (footprint n s p) (footprint n u p) (footprint m s p) (footprint m u p) r.changes (λ q. footprint_at n m s p t q o.means l) (λ q. footprint_at n m u p v q r.means k);
    }

pub owned_object_at : (n m : ℕ) (s : Segments) (o : Object) (t : Tree) → depth t ≤ suc m → OwnsObject n s o t → OwnsObject m s o t
owned_object_at n m s o t l w =
    record {
      means = (object_at n m s o t w.means l).0;
      apart = λ q. omega (arith, w.apart q, object_footprint_at n m s o t q w.means l);
    }

pub replaced_object_at : (n m : ℕ) (s u : Segments) (o : Object) (t v : Tree) → depth t ≤ suc m → depth v ≤ suc m → OwnsObject n s o t → ReplacesObject n s u o v → ReplacesObject m s u o v
replaced_object_at n m s u o t v l k w r =
    record {
      means = (object_at n m u o v r.means k).0;
      changes = changes_alike s u (object_footprint n s o) (object_footprint n u o) (object_footprint m s o) (object_footprint m u o) r.changes (λ q. object_footprint_at n m s o t q w.means l) (λ q. object_footprint_at n m u o v q r.means k);
    }
