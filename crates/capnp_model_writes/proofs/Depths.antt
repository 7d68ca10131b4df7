-- A value is no deeper than it takes words: each pointer on the way down is a word of its own.
use Rattle.std.proofs.Common.{◌≡◌, ℕ, zero, suc, ◌+◌, ◌<◌, ◌≤◌, List, ◌∷◌, drop, Option, Some, Result, ap, sym, subst, arith}
use Rattle.std.specs.Result.{result_ok}
use Rattle.capnp_model.specs.Kinds.{Kind}
use Rattle.capnp_model.specs.Chains.{◌>>=◌}
use Rattle.capnp_model.specs.Segments.{Segments, Place, after, words_at}
use Rattle.capnp_model.specs.Pointers.{Object, nothing, a_struct, a_list, a_capability, found_at}
use Rattle.capnp_model.specs.Trees.{Tree, Trees, Elements, depth, depths, element_depths}
use Rattle.capnp_model.specs.Traversal.{Tag, tag_in, each, each_element, ListKind, of_bits, of_pointers, of_structs, list_kind, list_words, list_tree, tree_of, tree_at}
use Rattle.capnp_model.specs.Coverage.{Span, span, pads_at, from_each, from_elements, covered_tag, covered_list, covered_object, covered_found}
use Rattle.capnp_model.proofs.lemmas.Chaining.{bind_some, bind_found, some_is}
use Rattle.capnp_model.proofs.lemmas.Depth.{tree_at_deep}
use Rattle.capnp_model_writes.specs.Footprints.{behind, Owns, OwnsObject}
use Rattle.capnp_model_writes.specs.Totals.{words_of_segments}
use Rattle.capnp_model_writes.proofs.Counting.{words_of_spans, spans_append, spans_within}
use Rattle.capnp_model_writes.proofs.lemmas.There.{behind_full, object_full, value_full}

-- one level: what `f` reads at a pointer is no deeper than what `b` covers there has words, and one level more
module _ (s : Segments) (f : Place → Option Tree) (b : Place → List Span) (h : (p : Place) (t : Tree) → f p ≡ Some t → depth t ≤ 1 + words_of_spans (b p)) where
  -- one level for all pointers, where there is one
  each_within : (m : ℕ) (p : Place) (k : ℕ) (ts : Trees) → ((0 < k) → 0 < m) → each f p k ≡ Some ts → depths ts ≤ m + words_of_spans (from_each b p k)
  each_within m p zero ts l e = subst (λ (us : Trees). depths us ≤ m + 0) (some_is _ _ e) (omega arith)
  each_within m p (suc k) ts l e =
      let x = bind_some (f p) _ ts e in
      let y = bind_some (each f (after p 1) k) _ ts x.2 in
      let some : 0 < m = l (omega arith) in
      let here : depth x.0 ≤ 1 + words_of_spans (b p) = h p x.0 x.1 in
      let rest : depths y.0 ≤ m + words_of_spans (from_each b (after p 1) k) = each_within m (after p 1) k y.0 (λ g. some) y.1 in
      let sum = spans_append (b p) (from_each b (after p 1) k) in
      subst (λ (us : Trees). depths us ≤ m + words_of_spans (from_each b p (suc k))) (some_is _ _ y.2) (omega (arith, some, here, rest, sum))

  elements_within : (p : Place) (ws : List ℕ) (d k n : ℕ) (es : Elements) → each_element f p ws d k n ≡ Some es → element_depths es ≤ 1 + words_of_spans (from_elements b p d k n)
  elements_within p ws d k zero es e = subst (λ (us : Elements). element_depths us ≤ 1) (some_is _ _ e) (omega arith)
  elements_within p ws d k (suc n) es e =
      let x = bind_some (each f (after p d) k) _ es e in
      let y = bind_some (each_element f (after p (d + k)) (drop (d + k) ws) d k n) _ es x.2 in
      let here : depths x.0 ≤ 1 + words_of_spans (from_each b (after p d) k) = each_within 1 (after p d) k x.0 (λ g. omega arith) x.1 in
      let rest : element_depths y.0 ≤ 1 + words_of_spans (from_elements b (after p (d + k)) d k n) = elements_within (after p (d + k)) (drop (d + k) ws) d k n y.0 y.1 in
      let sum = spans_append (from_each b (after p d) k) (from_elements b (after p (d + k)) d k n) in
      subst (λ (us : Elements). element_depths us ≤ 1 + words_of_spans (from_elements b p d k (suc n))) (some_is _ _ y.2) (omega (arith, here, rest, sum))

  list_within : (p : Place) (kind : ListKind) (size n : ℕ) (ws : List ℕ) (t : Tree) → words_at s p (list_words kind size n) ≡ Some ws → list_tree f p kind size n ws ≡ Some t → depth t ≤ 1 + (list_words kind size n + words_of_spans (covered_list s b p kind size n))
  list_within p of_bits size n ws t w e = subst (λ (u : Tree). depth u ≤ 1 + (list_words of_bits size n + 0)) (some_is _ _ e) (omega arith)
  list_within p of_pointers size n ws t w e =
      let x = bind_some (each f p n) _ t e in
      let here : depths x.0 ≤ n + words_of_spans (from_each b p n) = each_within n p n x.0 (λ g. g) x.1 in
      subst (λ (u : Tree). depth u ≤ 1 + (n + words_of_spans (from_each b p n))) (some_is _ _ x.2) (omega (arith, here))
  list_within p of_structs size n ws t w e =
      let x = bind_found (tag_in ws) _ t e in
      let y = bind_some (each_element f (after p 1) (drop 1 ws) x.0.data_words x.0.pointers x.0.count) _ t x.2 in
      let read : (words_at s p (1 + n) >>= λ vs. result_ok (tag_in vs)) ≡ Some x.0 = rw w (ap result_ok x.1) in
      let here : element_depths y.0 ≤ 1 + words_of_spans (covered_tag b p (Some x.0)) = elements_within (after p 1) (drop 1 ws) x.0.data_words x.0.pointers x.0.count y.0 y.1 in
      let deep : depth t ≤ 1 + ((1 + n) + words_of_spans (covered_tag b p (Some x.0))) = subst (λ (u : Tree). depth u ≤ 1 + ((1 + n) + words_of_spans (covered_tag b p (Some x.0)))) (some_is _ _ y.2) (omega (arith, here)) in
      subst (λ (o : Option Tag). depth t ≤ 1 + ((1 + n) + words_of_spans (covered_tag b p o))) (sym read) deep

  object_within : (o : Object) (t : Tree) → tree_of s f o ≡ Some t → depth t ≤ 1 + words_of_spans (covered_object s b o)
  object_within nothing t e = subst (λ (u : Tree). depth u ≤ 1) (some_is _ _ e) (omega arith)
  object_within (a_capability i) t e = subst (λ (u : Tree). depth u ≤ 1) (some_is _ _ e) (omega arith)
  object_within (a_struct p d k) t e =
      let x = bind_some (words_at s p (d + k)) _ t e in
      let y = bind_some (each f (after p d) k) _ t x.2 in
      let here : depths y.0 ≤ (d + k) + words_of_spans (from_each b (after p d) k) = each_within (d + k) (after p d) k y.0 (λ g. omega (arith, g)) y.1 in
      subst (λ (u : Tree). depth u ≤ 1 + ((d + k) + words_of_spans (from_each b (after p d) k))) (some_is _ _ y.2) (omega (arith, here))
  object_within (a_list p size n) t e =
      let x = bind_some (words_at s p (list_words (list_kind size) size n)) _ t e in
      list_within p (list_kind size) size n x.0 t x.1 x.2

value_within : (n : ℕ) (s : Segments) (p : Place) (t : Tree) → tree_at n s p ≡ Some t → depth t ≤ 1 + words_of_spans (behind n s p)
unfolding tree_at behind
value_within zero s p t e = let l = tree_at_deep zero s p t e in omega (arith, l)
value_within (suc n) s p t e =
    let x = bind_found (found_at s p) _ t e in
    let inner = object_within s (tree_at n s) (behind n s) (λ q u g. value_within n s q u g) x.0.object t x.2 in
    let sum = spans_append (pads_at s p) (covered_found (covered_object s (behind n s)) (found_at s p)) in
    let same : words_of_spans (covered_found (covered_object s (behind n s)) (found_at s p)) ≡ words_of_spans (covered_object s (behind n s) x.0.object) = ap (λ (r : Result _ Kind). words_of_spans (covered_found (covered_object s (behind n s)) r)) x.1 in
    omega (arith, inner, sum, same)

-- THE LAWS
pub owned_depth : (n : ℕ) (s : Segments) (p : Place) (t : Tree) → Owns n s p t → depth t ≤ words_of_segments s
owned_depth n s p t o =
    let deep = value_within n s p t o.means in
    let few = spans_within s (span p 1 ∷ behind n s p) (value_full n s p t o.means) o.apart in
    omega (arith, deep, few)

pub owned_object_depth : (n : ℕ) (s : Segments) (o : Object) (t : Tree) → OwnsObject n s o t → depth t ≤ 1 + words_of_segments s
owned_object_depth n s o t w =
    let deep = object_within s (tree_at n s) (behind n s) (value_within n s) o t w.means in
    let few = spans_within s (covered_object s (behind n s) o) (object_full s (tree_at n s) (behind n s) (behind_full n s) o t w.means) w.apart in
    omega (arith, deep, few)
