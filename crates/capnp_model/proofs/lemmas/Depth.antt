-- What is read with n levels is at most n deep, and is read with any more.
use Rattle.std.proofs.Common.{◌≡◌, ℕ, zero, suc, ◌+◌, ◌≤◌, List, drop, Option, Some, subst, arith}
use Rattle.capnp_model.specs.Segments.{Segments, Place, after, words_at}
use Rattle.capnp_model.specs.Pointers.{Object, nothing, a_struct, a_list, a_capability, found_at}
use Rattle.capnp_model.specs.Trees.{Tree, Trees, Elements, depth, depths, element_depths}
use Rattle.capnp_model.specs.Traversal.{tag_in, each, each_element, ListKind, of_bits, of_pointers, of_structs, list_kind, list_words, list_tree, leaf_of, tree_of, tree_at}
use Rattle.capnp_model.proofs.lemmas.Chaining.{bind_some, bind_found, some_is}
use Rattle.capnp_model.proofs.lemmas.Levels.{tree_at_reads}

module _ (m : ℕ) (f : Place → Option Tree) (h : (p : Place) (t : Tree) → f p ≡ Some t → depth t ≤ m) where
  each_deep : (p : Place) (k : ℕ) (ts : Trees) → each f p k ≡ Some ts → depths ts ≤ m
  each_deep p zero ts e = subst (λ (us : Trees). depths us ≤ m) (some_is _ _ e) (omega arith)
  each_deep p (suc k) ts e =
      let a = bind_some (f p) _ ts e in
      let b = bind_some (each f (after p 1) k) _ ts a.2 in
      let here : depth a.0 ≤ m = h p a.0 a.1 in
      let rest : depths b.0 ≤ m = each_deep (after p 1) k b.0 b.1 in
      subst (λ (us : Trees). depths us ≤ m) (some_is _ _ b.2) (omega arith)

  each_element_deep : (p : Place) (ws : List ℕ) (d k n : ℕ) (es : Elements) → each_element f p ws d k n ≡ Some es → element_depths es ≤ m
  each_element_deep p ws d k zero es e = subst (λ (us : Elements). element_depths us ≤ m) (some_is _ _ e) (omega arith)
  each_element_deep p ws d k (suc n) es e =
      let a = bind_some (each f (after p d) k) _ es e in
      let b = bind_some (each_element f (after p (d + k)) (drop (d + k) ws) d k n) _ es a.2 in
      let here : depths a.0 ≤ m = each_deep (after p d) k a.0 a.1 in
      let rest : element_depths b.0 ≤ m = each_element_deep (after p (d + k)) (drop (d + k) ws) d k n b.0 b.1 in
      subst (λ (us : Elements). element_depths us ≤ m) (some_is _ _ b.2) (omega arith)

  list_tree_deep : (p : Place) (kind : ListKind) (size n : ℕ) (ws : List ℕ) (t : Tree) → list_tree f p kind size n ws ≡ Some t → depth t ≤ suc m
  list_tree_deep p of_bits size n ws t e = subst (λ (u : Tree). depth u ≤ suc m) (some_is _ _ e) (omega arith)
  list_tree_deep p of_pointers size n ws t e =
      let a = bind_some (each f p n) _ t e in
      let deep : depths a.0 ≤ m = each_deep p n a.0 a.1 in
      subst (λ (u : Tree). depth u ≤ suc m) (some_is _ _ a.2) (omega arith)
  list_tree_deep p of_structs size n ws t e =
      let a = bind_found (tag_in ws) _ t e in
      let b = bind_some (each_element f (after p 1) (drop 1 ws) a.0.data_words a.0.pointers a.0.count) _ t a.2 in
      let deep : element_depths b.0 ≤ m = each_element_deep (after p 1) (drop 1 ws) a.0.data_words a.0.pointers a.0.count b.0 b.1 in
      subst (λ (u : Tree). depth u ≤ suc m) (some_is _ _ b.2) (omega arith)

  tree_of_deep : (s : Segments) (o : Object) (t : Tree) → tree_of s f o ≡ Some t → depth t ≤ suc m
  tree_of_deep s nothing t e = subst (λ (u : Tree). depth u ≤ suc m) (some_is _ _ e) (omega arith)
  tree_of_deep s (a_capability i) t e = subst (λ (u : Tree). depth u ≤ suc m) (some_is _ _ e) (omega arith)
  tree_of_deep s (a_struct p d k) t e =
      let a = bind_some (words_at s p (d + k)) _ t e in
      let b = bind_some (each f (after p d) k) _ t a.2 in
      let deep : depths b.0 ≤ m = each_deep (after p d) k b.0 b.1 in
      subst (λ (u : Tree). depth u ≤ suc m) (some_is _ _ b.2) (omega arith)
  tree_of_deep s (a_list p size n) t e =
      let a = bind_some (words_at s p (list_words (list_kind size) size n)) _ t e in
      list_tree_deep p (list_kind size) size n a.0 t a.2

leaf_deep : (o : Object) (t : Tree) → leaf_of o ≡ Some t → depth t ≤ 0
leaf_deep nothing t e = subst (λ (u : Tree). depth u ≤ 0) (some_is _ _ e) (omega arith)
leaf_deep (a_capability i) t e = subst (λ (u : Tree). depth u ≤ 0) (some_is _ _ e) (omega arith)
leaf_deep (a_struct p d k) t e = absurd cc
leaf_deep (a_list p size n) t e = absurd cc

pub tree_at_deep : (n : ℕ) (s : Segments) (p : Place) (t : Tree) → tree_at n s p ≡ Some t → depth t ≤ n
unfolding tree_at
tree_at_deep zero s p t e = let a = bind_found (found_at s p) _ t e in leaf_deep a.0.object t a.2
tree_at_deep (suc n) s p t e = let a = bind_found (found_at s p) _ t e in tree_of_deep n (tree_at n s) (λ q u. tree_at_deep n s q u) s a.0.object t a.2

pub tree_at_more : (n m : ℕ) (s : Segments) (p : Place) (t : Tree) → n ≤ m → tree_at n s p ≡ Some t → tree_at m s p ≡ Some t
tree_at_more n m s p t l e = let d = tree_at_deep n s p t e in tree_at_reads n m s p t e (omega (arith, d))
