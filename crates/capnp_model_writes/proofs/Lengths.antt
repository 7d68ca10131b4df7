-- The canonical words of a value are no more than it takes words.
use Rattle.std.proofs.Common.{◌≡◌, ℕ, zero, suc, ◌+◌, ◌*◌, ◌%◌, ◌^◌, ◌≤◌, List, ◌∷◌, ◌++◌, take, drop, length, Option, Some, Result, ap, sym, subst, arith}
use Rattle.std.specs.Result.{result_ok}
use Rattle.std.proofs.lemmas.List.{length-append, length-drop}
use Rattle.capnp_model.specs.Kinds.{Kind}
use Rattle.capnp_model.specs.Chains.{◌>>=◌}
use Rattle.capnp_model.specs.Sections.{words_of, words_for, section_of}
use Rattle.capnp_model.specs.Segments.{Segments, Place, after, words_at}
use Rattle.capnp_model.specs.Pointers.{Object, nothing, a_struct, a_list, a_capability, found_at}
use Rattle.capnp_model.specs.Trees.{Tree, Trees, Elements, tree_count, element_count, size_bits}
use Rattle.capnp_model.specs.Trimming.{trim}
use Rattle.capnp_model.specs.Traversal.{Tag, tag_in, each, each_element, ListKind, of_bits, of_pointers, of_structs, list_kind, list_words, list_tree, leaf_of, tree_of, tree_at}
use Rattle.capnp_model.specs.Encoding.{body, bodies, links, cells, element_bodies, canonical_words}
use Rattle.capnp_model.specs.Coverage.{Span, span, pads_at, from_each, from_elements, covered_tag, covered_list, covered_object, covered_found}
use Rattle.capnp_model.proofs.lemmas.Chaining.{bind_some, bind_found, some_is}
use Rattle.capnp_model.proofs.lemmas.Numbers.{length-numbers_in}
use Rattle.capnp_model.proofs.lemmas.RoundTrip.{links_length}
use Rattle.capnp_model.proofs.lemmas.Canonical.{size-trim}
use Rattle.capnp_model.proofs.lemmas.ReadFits.{tree_at_fits, words_length}
use Rattle.capnp_model.proofs.lemmas.Size.{leaf_size}
use Rattle.capnp_model.proofs.lemmas.Counts.{each_count}
use Rattle.capnp_model_writes.specs.Footprints.{behind, Owns}
use Rattle.capnp_model_writes.specs.Totals.{words_of_segments}
use Rattle.capnp_model_writes.proofs.Counting.{words_of_spans, spans_append, spans_within}
use Rattle.capnp_model_writes.proofs.lemmas.Kept.{tag_fits}
use Rattle.capnp_model_writes.proofs.lemmas.There.{value_full}

-- one level: what `f` reads at a pointer has no more words than what `b` covers there
module _ (s : Segments) (f : Place → Option Tree) (b : Place → List Span) (h : (p : Place) (t : Tree) → f p ≡ Some t → length (body t) ≤ words_of_spans (b p)) where
  each_within : (p : Place) (k : ℕ) (ts : Trees) → each f p k ≡ Some ts → length (bodies ts) ≤ words_of_spans (from_each b p k)
  each_within p zero ts e = subst (λ (us : Trees). length (bodies us) ≤ 0) (some_is _ _ e) (omega arith)
  each_within p (suc k) ts e =
      let x = bind_some (f p) _ ts e in
      let y = bind_some (each f (after p 1) k) _ ts x.2 in
      let here : length (body x.0) ≤ words_of_spans (b p) = h p x.0 x.1 in
      let rest : length (bodies y.0) ≤ words_of_spans (from_each b (after p 1) k) = each_within (after p 1) k y.0 y.1 in
      let sum = spans_append (b p) (from_each b (after p 1) k) in
      subst (λ (us : Trees). length (bodies us) ≤ words_of_spans (from_each b p (suc k))) (some_is _ _ y.2) (omega (arith, here, rest, sum, length-append (body x.0) (bodies y.0)))

  elements_within : (p : Place) (ws : List ℕ) (d k n before : ℕ) (es : Elements) → each_element f p ws d k n ≡ Some es
      → (length (cells before d k es) ≡ n * (d + k)) × (length (element_bodies es) ≤ words_of_spans (from_elements b p d k n))
  elements_within p ws d k zero before es e = subst (λ (us : Elements). (length (cells before d k us) ≡ 0 * (d + k)) × (length (element_bodies us) ≤ 0)) (some_is _ _ e) (omega arith, omega arith)
  elements_within p ws d k (suc n) before es e =
      let x = bind_some (each f (after p d) k) _ es e in
      let y = bind_some (each_element f (after p (d + k)) (drop (d + k) ws) d k n) _ es x.2 in
      let here : length (bodies x.0) ≤ words_of_spans (from_each b (after p d) k) = each_within (after p d) k x.0 x.1 in
      let rest = elements_within (after p (d + k)) (drop (d + k) ws) d k n (before + length (bodies x.0)) y.0 y.1 in
      let sum = spans_append (from_each b (after p d) k) (from_elements b (after p (d + k)) d k n) in
      let count : tree_count x.0 ≡ k = each_count f (after p d) k x.0 x.1 in
      subst (λ (us : Elements). (length (cells before d k us) ≡ (suc n) * (d + k)) × (length (element_bodies us) ≤ words_of_spans (from_elements b p d k (suc n)))) (some_is _ _ y.2) (
        (
            let sec = section_of (take d ws) in
            let l = links (element_count y.0 * (d + k)) before x.0 in
            let c = cells (before + length (bodies x.0)) d k y.0 in
            omega (arith, length-numbers_in 64 d sec, length-append (words_of d sec) (l ++ c), length-append l c, links_length x.0 (element_count y.0 * (d + k)) before, rest.0, count)
            ),
        omega (arith, here, rest.1, sum, length-append (bodies x.0) (element_bodies y.0)),
      )

  list_within : (p : Place) (kind : ListKind) (size n : ℕ) (ws : List ℕ) (t : Tree) → words_at s p (list_words kind size n) ≡ Some ws → list_tree f p kind size n ws ≡ Some t → length (body t) ≤ list_words kind size n + words_of_spans (covered_list s b p kind size n)
  list_within p of_bits size n ws t w e = subst (λ (u : Tree). length (body u) ≤ list_words of_bits size n + 0) (some_is _ _ e) (omega (arith, length-numbers_in 64 (words_for (size_bits size * n)) (section_of ws % 2 ^ (size_bits size * n))))
  list_within p of_pointers size n ws t w e =
      let x = bind_some (each f p n) _ t e in
      let here : length (bodies x.0) ≤ words_of_spans (from_each b p n) = each_within p n x.0 x.1 in
      let count : tree_count x.0 ≡ n = each_count f p n x.0 x.1 in
      subst (λ (u : Tree). length (body u) ≤ n + words_of_spans (from_each b p n)) (some_is _ _ x.2) (omega (arith, here, count, links_length x.0 0 0, length-append (links 0 0 x.0) (bodies x.0)))
  list_within p of_structs size n ws t w e =
      let x = bind_found (tag_in ws) _ t e in
      let d = x.0.data_words in
      let k = x.0.pointers in
      let y = bind_some (each_element f (after p 1) (drop 1 ws) d k x.0.count) _ t x.2 in
      let read : (words_at s p (1 + n) >>= λ vs. result_ok (tag_in vs)) ≡ Some x.0 = rw w (ap result_ok x.1) in
      let inside = elements_within (after p 1) (drop 1 ws) d k x.0.count 0 y.0 y.1 in
      let fits : x.0.count * (d + k) ≤ length (drop 1 ws) = tag_fits ws x.0 x.1 in
      let all : length ws ≡ 1 + n = words_length s p (1 + n) ws w in
      let front = length-drop 1 ws in
      let whole : length (body t) ≤ (1 + n) + words_of_spans (covered_tag b p (Some x.0)) =
      subst (λ (u : Tree). length (body u) ≤ (1 + n) + words_of_spans (covered_tag b p (Some x.0))) (some_is _ _ y.2)
      (omega (arith, inside.0, inside.1, fits, all, front, length-append (cells 0 d k y.0) (element_bodies y.0))) in
      subst (λ (o : Option Tag). length (body t) ≤ (1 + n) + words_of_spans (covered_tag b p o)) (sym read) whole

  object_within : (o : Object) (t : Tree) → tree_of s f o ≡ Some t → length (body t) ≤ words_of_spans (covered_object s b o)
  object_within nothing t e = subst (λ (u : Tree). length (body u) ≤ 0) (some_is _ _ e) (omega arith)
  object_within (a_capability i) t e = subst (λ (u : Tree). length (body u) ≤ 0) (some_is _ _ e) (omega arith)
  object_within (a_struct p d k) t e =
      let x = bind_some (words_at s p (d + k)) _ t e in
      let y = bind_some (each f (after p d) k) _ t x.2 in
      let here : length (bodies y.0) ≤ words_of_spans (from_each b (after p d) k) = each_within (after p d) k y.0 y.1 in
      let count : tree_count y.0 ≡ k = each_count f (after p d) k y.0 y.1 in
      let sec = section_of (take d x.0) in
      subst (λ (u : Tree). length (body u) ≤ (d + k) + words_of_spans (from_each b (after p d) k)) (some_is _ _ y.2)
      (omega (arith, here, count, length-numbers_in 64 d sec, links_length y.0 0 0, length-append (words_of d sec) (links 0 0 y.0 ++ bodies y.0), length-append (links 0 0 y.0) (bodies y.0)))
  object_within (a_list p size n) t e =
      let x = bind_some (words_at s p (list_words (list_kind size) size n)) _ t e in
      list_within p (list_kind size) size n x.0 t x.1 x.2

value_within : (n : ℕ) (s : Segments) (p : Place) (t : Tree) → tree_at n s p ≡ Some t → length (body t) ≤ words_of_spans (behind n s p)
unfolding tree_at behind
value_within zero s p t e =
    let x = bind_found (found_at s p) _ t e in
    let l = leaf_size x.0.object t x.2 in
    omega (arith, l)
value_within (suc n) s p t e =
    let x = bind_found (found_at s p) _ t e in
    let inner = object_within s (tree_at n s) (behind n s) (λ q u g. value_within n s q u g) x.0.object t x.2 in
    let sum = spans_append (pads_at s p) (covered_found (covered_object s (behind n s)) (found_at s p)) in
    let same : words_of_spans (covered_found (covered_object s (behind n s)) (found_at s p)) ≡ words_of_spans (covered_object s (behind n s) x.0.object) = ap (λ (r : Result _ Kind). words_of_spans (covered_found (covered_object s (behind n s)) r)) x.1 in
    omega (arith, inner, sum, same)

-- THE LAWS
pub owned_length : (n : ℕ) (s : Segments) (p : Place) (t : Tree) → Owns n s p t → length (canonical_words t) ≤ words_of_segments s
unfolding canonical_words
owned_length n s p t o =
    let inner = value_within n s p t o.means in
    let few = spans_within s (span p 1 ∷ behind n s p) (value_full n s p t o.means) o.apart in
    omega (arith, inner, few)

pub trimmed_length : (n : ℕ) (s : Segments) (p : Place) (t : Tree) → Owns n s p t → length (canonical_words (trim t)) ≤ words_of_segments s
unfolding canonical_words
trimmed_length n s p t o =
    let whole = owned_length n s p t o in
    let less = size-trim t (tree_at_fits n s p t o.means) in
    omega (arith, whole, less)
