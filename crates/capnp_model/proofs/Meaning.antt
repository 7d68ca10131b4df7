-- The relation by cases is the function's graph.
use Rattle.std.proofs.Common.{◌≡◌, ℕ, zero, suc, ◌+◌, max, List, drop, Some, refl, subst, sym, ◌∙◌, arith}
use Rattle.capnp_model.specs.Segments.{Segments, Place, after, words_at}
use Rattle.capnp_model.specs.Pointers.{Object, nothing, a_struct, a_list, a_capability, found_at}
use Rattle.capnp_model.specs.Trees.{Tree, Trees, Elements}
use Rattle.capnp_model.specs.Traversal.{tag_in, each, each_element, ListKind, of_bits, of_pointers, of_structs, list_kind, list_words, list_tree, leaf_of, tree_of, tree_at}
use Rattle.capnp_model.specs.Means.{Names, Means, means_null, means_capability, means_struct, means_plain, means_pointers, means_structs, MeansEach, means_none, means_next, MeansElements, means_no_elements, means_element}
use Rattle.capnp_model.proofs.lemmas.Chaining.{bind_some, bind_found, some_is}
use Rattle.capnp_model.proofs.lemmas.Depth.{tree_at_more}

mutual
  unfolding tree_at

  meant : {n : ℕ} {s : Segments} {p : Place} {t : Tree} → Means n s p t → tree_at n s p ≡ Some t
  meant {n = zero} (means_null f) = rw (f.1) refl
  meant {n = suc n} (means_null f) = rw (f.1) refl
  meant {n = zero} (means_capability f) = rw (f.1) refl
  meant {n = suc n} (means_capability f) = rw (f.1) refl
  meant (means_struct q d k ws f w a) = let here = meant_each a in rw (f.1, w, here) refl
  meant (means_plain q size m ws f e w) = rw (f.1, e, w) refl
  meant (means_pointers q size m ws f e w a) = let here = meant_each a in rw (f.1, e, w, here) refl
  meant (means_structs q size m ws tag f e w g a) = let here = meant_elements a in rw (f.1, e, w, g, here) refl

  meant_each : {n : ℕ} {s : Segments} {p : Place} {k : ℕ} {ts : Trees} → MeansEach n s p k ts → each (tree_at n s) p k ≡ Some ts
  meant_each means_none = refl
  meant_each (means_next i a) = let here = meant i in let rest = meant_each a in rw (here, rest) refl

  meant_elements : {n : ℕ} {s : Segments} {p : Place} {ws : List ℕ} {d k m : ℕ} {es : Elements} → MeansElements n s p ws d k m es → each_element (tree_at n s) p ws d k m ≡ Some es
  meant_elements means_no_elements = refl
  meant_elements (means_element a r) = let here = meant_each a in let rest = meant_elements r in rw (here, rest) refl

module _ (s : Segments) (n : ℕ) (h : (p : Place) (t : Tree) → tree_at n s p ≡ Some t → Means n s p t) where
  each_means : (p : Place) (k : ℕ) (ts : Trees) → each (tree_at n s) p k ≡ Some ts → MeansEach n s p k ts
  each_means p zero ts e = subst (λ (us : Trees). MeansEach n s p 0 us) (some_is _ _ e) means_none
  each_means p (suc k) ts e =
      let a = bind_some (tree_at n s p) _ ts e in
      let b = bind_some (each (tree_at n s) (after p 1) k) _ ts a.2 in
      subst (λ (us : Trees). MeansEach n s p (suc k) us) (some_is _ _ b.2) (means_next (h p a.0 a.1) (each_means (after p 1) k b.0 b.1))

  elements_mean : (p : Place) (ws : List ℕ) (d k m : ℕ) (es : Elements) → each_element (tree_at n s) p ws d k m ≡ Some es → MeansElements n s p ws d k m es
  elements_mean p ws d k zero es e = subst (λ (us : Elements). MeansElements n s p ws d k 0 us) (some_is _ _ e) means_no_elements
  elements_mean p ws d k (suc m) es e =
      let a = bind_some (each (tree_at n s) (after p d) k) _ es e in
      let b = bind_some (each_element (tree_at n s) (after p (d + k)) (drop (d + k) ws) d k m) _ es a.2 in
      subst (λ (us : Elements). MeansElements n s p ws d k (suc m) us) (some_is _ _ b.2) (means_element (each_means (after p d) k a.0 a.1) (elements_mean (after p (d + k)) (drop (d + k) ws) d k m b.0 b.1))

  list_means : (p q : Place) (kind : ListKind) (size m : ℕ) (ws : List ℕ) (t : Tree) → Names s p (a_list q size m) → list_kind size ≡ kind → words_at s q (list_words kind size m) ≡ Some ws → list_tree (tree_at n s) q kind size m ws ≡ Some t → Means (suc n) s p t
  list_means p q of_bits size m ws t f k w e = subst (λ (u : Tree). Means (suc n) s p u) (some_is _ _ e) (means_plain q size m ws f k w)
  list_means p q of_pointers size m ws t f k w e =
      let a = bind_some (each (tree_at n s) q m) _ t e in
      subst (λ (u : Tree). Means (suc n) s p u) (some_is _ _ a.2) (means_pointers q size m ws f k w (each_means q m a.0 a.1))
  list_means p q of_structs size m ws t f k w e =
      let a = bind_found (tag_in ws) _ t e in
      let b = bind_some (each_element (tree_at n s) (after q 1) (drop 1 ws) a.0.data_words a.0.pointers a.0.count) _ t a.2 in
      subst (λ (u : Tree). Means (suc n) s p u) (some_is _ _ b.2) (means_structs q size m ws a.0 f k w a.1 (elements_mean (after q 1) (drop 1 ws) a.0.data_words a.0.pointers a.0.count b.0 b.1))

  object_means : (p : Place) (o : Object) (t : Tree) → Names s p o → tree_of s (tree_at n s) o ≡ Some t → Means (suc n) s p t
  object_means p nothing t f e = subst (λ (u : Tree). Means (suc n) s p u) (some_is _ _ e) (means_null f)
  object_means p (a_capability i) t f e = subst (λ (u : Tree). Means (suc n) s p u) (some_is _ _ e) (means_capability f)
  object_means p (a_struct q d k) t f e =
      let a = bind_some (words_at s q (d + k)) _ t e in
      let b = bind_some (each (tree_at n s) (after q d) k) _ t a.2 in
      subst (λ (u : Tree). Means (suc n) s p u) (some_is _ _ b.2) (means_struct q d k a.0 f a.1 (each_means (after q d) k b.0 b.1))
  object_means p (a_list q size m) t f e =
      let a = bind_some (words_at s q (list_words (list_kind size) size m)) _ t e in
      list_means p q (list_kind size) size m a.0 t f refl a.1 a.2

leaf_means : (s : Segments) (p : Place) (o : Object) (t : Tree) → Names s p o → leaf_of o ≡ Some t → Means 0 s p t
leaf_means s p nothing t f e = subst (λ (u : Tree). Means 0 s p u) (some_is _ _ e) (means_null f)
leaf_means s p (a_capability i) t f e = subst (λ (u : Tree). Means 0 s p u) (some_is _ _ e) (means_capability f)
leaf_means s p (a_struct q d k) t f e = absurd cc
leaf_means s p (a_list q size m) t f e = absurd cc

-- THE LAW
pub tree_at_means : (n : ℕ) (s : Segments) (p : Place) (t : Tree) → tree_at n s p ≡ Some t → Means n s p t
unfolding tree_at
tree_at_means zero s p t e = let a = bind_found (found_at s p) _ t e in leaf_means s p a.0.object t (a.0.pads, a.1) a.2
tree_at_means (suc n) s p t e = let a = bind_found (found_at s p) _ t e in object_means s n (λ q u. tree_at_means n s q u) p a.0.object t (a.0.pads, a.1) a.2

pub means_tree_at : (n : ℕ) (s : Segments) (p : Place) (t : Tree) → Means n s p t → tree_at n s p ≡ Some t
means_tree_at n s p t i = meant i

-- At most one value for a place, whatever the levels.
pub means_one : (n m : ℕ) (s : Segments) (p : Place) (t u : Tree) → Means n s p t → Means m s p u → t ≡ u
means_one n m s p t u i j =
    let a = tree_at_more n (max n m) s p t (omega arith) (meant i) in
    let b = tree_at_more m (max n m) s p u (omega arith) (meant j) in
    some_is _ _ (sym a ∙ b)
