-- A value is the same at every nesting limit that its depth keeps, and is read at no other.
use Rattle.std.proofs.Common.{◌≡◌, ℕ, zero, suc, ◌+◌, ◌≤◌, max, List, take, drop, Option, Some, Ok, subst, sym, arith}
use Rattle.capnp_model.specs.Sections.{section_of}
use Rattle.capnp_model.specs.Segments.{Segments, Place, after, words_at}
use Rattle.capnp_model.specs.Pointers.{Object, nothing, a_struct, a_list, a_capability, found_at}
use Rattle.capnp_model.specs.Trees.{Tree, Trees, Elements, structure, ◌▸◌, element, depth, depths, element_depths}
use Rattle.capnp_model.specs.Traversal.{tag_in, each, each_element, ListKind, of_bits, of_pointers, of_structs, list_kind, list_words, list_tree, leaf_of, tree_of, tree_at}
use Rattle.capnp_model.proofs.lemmas.Chaining.{bind_some, bind_found, some_is}

-- `more` reads what `below` reads, where that is at most m deep.
abbrev pub Reads : ℕ → (Place → Option Tree) → (Place → Option Tree) → Type 0
Reads m below more = (p : Place) (t : Tree) → below p ≡ Some t → depth t ≤ m → more p ≡ Some t

module _ (m : ℕ) (f g : Place → Option Tree) (h : Reads m f g) where
  each_reads : (p : Place) (k : ℕ) (ts : Trees) → each f p k ≡ Some ts → depths ts ≤ m → each g p k ≡ Some ts
  each_reads p zero ts e d = e
  each_reads p (suc k) ts e d =
      let a = bind_some (f p) _ ts e in
      let b = bind_some (each f (after p 1) k) _ ts a.2 in
      let is : (a.0 ▸ b.0) ≡ ts = some_is _ _ b.2 in
      let deep : max (depth a.0) (depths b.0) ≤ m = subst (λ (us : Trees). depths us ≤ m) (sym is) d in
      let here : g p ≡ Some a.0 = h p a.0 a.1 (omega arith) in
      let rest : each g (after p 1) k ≡ Some b.0 = each_reads (after p 1) k b.0 b.1 (omega arith) in
      rw (here, rest) b.2

  each_element_reads : (p : Place) (ws : List ℕ) (d k n : ℕ) (es : Elements) → each_element f p ws d k n ≡ Some es → element_depths es ≤ m → each_element g p ws d k n ≡ Some es
  each_element_reads p ws d k zero es e l = e
  each_element_reads p ws d k (suc n) es e l =
      let a = bind_some (each f (after p d) k) _ es e in
      let b = bind_some (each_element f (after p (d + k)) (drop (d + k) ws) d k n) _ es a.2 in
      let is : element (section_of (take d ws)) a.0 b.0 ≡ es = some_is _ _ b.2 in
      let deep : max (depths a.0) (element_depths b.0) ≤ m = subst (λ (us : Elements). element_depths us ≤ m) (sym is) l in
      let here : each g (after p d) k ≡ Some a.0 = each_reads (after p d) k a.0 a.1 (omega arith) in
      let rest : each_element g (after p (d + k)) (drop (d + k) ws) d k n ≡ Some b.0 = each_element_reads (after p (d + k)) (drop (d + k) ws) d k n b.0 b.1 (omega arith) in
      rw (here, rest) b.2

  list_tree_reads : (p : Place) (kind : ListKind) (size n : ℕ) (ws : List ℕ) (t : Tree) → list_tree f p kind size n ws ≡ Some t → depth t ≤ suc m → list_tree g p kind size n ws ≡ Some t
  list_tree_reads p of_bits size n ws t e l = e
  list_tree_reads p of_pointers size n ws t e l =
      let a = bind_some (each f p n) _ t e in
      let deep : suc (depths a.0) ≤ suc m = subst (λ (u : Tree). depth u ≤ suc m) (sym (some_is _ _ a.2)) l in
      let here : each g p n ≡ Some a.0 = each_reads p n a.0 a.1 (omega arith) in
      rw here a.2
  list_tree_reads p of_structs size n ws t e l =
      let a = bind_found (tag_in ws) _ t e in
      let tag = a.0 in
      let b = bind_some (each_element f (after p 1) (drop 1 ws) tag.data_words tag.pointers tag.count) _ t a.2 in
      let deep : suc (element_depths b.0) ≤ suc m = subst (λ (u : Tree). depth u ≤ suc m) (sym (some_is _ _ b.2)) l in
      let here : each_element g (after p 1) (drop 1 ws) tag.data_words tag.pointers tag.count ≡ Some b.0 = each_element_reads (after p 1) (drop 1 ws) tag.data_words tag.pointers tag.count b.0 b.1 (omega arith) in
      let is : tag_in ws ≡ Ok tag = a.1 in
      rw (is, here) b.2

  tree_of_reads : (s : Segments) (o : Object) (t : Tree) → tree_of s f o ≡ Some t → depth t ≤ suc m → tree_of s g o ≡ Some t
  tree_of_reads s nothing t e l = e
  tree_of_reads s (a_capability i) t e l = e
  tree_of_reads s (a_struct p d k) t e l =
      let a = bind_some (words_at s p (d + k)) _ t e in
      let b = bind_some (each f (after p d) k) _ t a.2 in
      let deep : suc (depths b.0) ≤ suc m = subst (λ (u : Tree). depth u ≤ suc m) (sym (some_is _ _ b.2)) l in
      let here : each g (after p d) k ≡ Some b.0 = each_reads (after p d) k b.0 b.1 (omega arith) in
      let there : words_at s p (d + k) ≡ Some a.0 = a.1 in
      rw (there, here) b.2
  tree_of_reads s (a_list p size n) t e l =
      let a = bind_some (words_at s p (list_words (list_kind size) size n)) _ t e in
      let there : words_at s p (list_words (list_kind size) size n) ≡ Some a.0 = a.1 in
      rw there (list_tree_reads p (list_kind size) size n a.0 t a.2 l)

-- what needs no level is read by whatever reads the pointers
leaf_is : (s : Segments) (g : Place → Option Tree) (o : Object) (t : Tree) → leaf_of o ≡ Some t → tree_of s g o ≡ Some t
leaf_is s g nothing t e = e
leaf_is s g (a_capability i) t e = e
leaf_is s g (a_struct p d k) t e = absurd cc
leaf_is s g (a_list p size n) t e = absurd cc

-- with no level only null and capabilities are read
bare_struct : (d n : ℕ) (ts : Trees) (t : Tree) → structure d n ts ≡ t → depth t ≤ 0 → ⊥
bare_struct d n ts t is l = let deep : suc (depths ts) ≤ 0 = subst (λ (u : Tree). depth u ≤ 0) (sym is) l in omega arith

is_leaf : (s : Segments) (g : Place → Option Tree) (o : Object) (t : Tree) → tree_of s g o ≡ Some t → depth t ≤ 0 → leaf_of o ≡ Some t
is_leaf s g nothing t e l = e
is_leaf s g (a_capability i) t e l = e
is_leaf s g (a_struct p d k) t e l =
    let a = bind_some (words_at s p (d + k)) _ t e in
    let b = bind_some (each g (after p d) k) _ t a.2 in
    absurd (bare_struct _ _ _ _ (some_is _ _ b.2) l)
is_leaf s g (a_list p size n) t e l =
    let a = bind_some (words_at s p (list_words (list_kind size) size n)) _ t e in
    absurd (bare_list (list_kind size) a.0 a.2)
  where
    bare_list : (kind : ListKind) (ws : List ℕ) → list_tree g p kind size n ws ≡ Some t → ⊥
    bare_list of_bits ws f = let deep : 1 ≤ 0 = subst (λ (u : Tree). depth u ≤ 0) (sym (some_is _ _ f)) l in omega arith
    bare_list of_pointers ws f =
        let a = bind_some (each g p n) _ t f in
        let deep : suc (depths a.0) ≤ 0 = subst (λ (u : Tree). depth u ≤ 0) (sym (some_is _ _ a.2)) l in
        omega arith
    bare_list of_structs ws f =
        let a = bind_found (tag_in ws) _ t f in
        let b = bind_some (each_element g (after p 1) (drop 1 ws) a.0.data_words a.0.pointers a.0.count) _ t a.2 in
        let deep : suc (element_depths b.0) ≤ 0 = subst (λ (u : Tree). depth u ≤ 0) (sym (some_is _ _ b.2)) l in
        omega arith

-- THE LAW: what is read with n levels is read with m, if it is at most m deep.
pub tree_at_reads : (n m : ℕ) (s : Segments) (p : Place) (t : Tree) → tree_at n s p ≡ Some t → depth t ≤ m → tree_at m s p ≡ Some t
unfolding tree_at
tree_at_reads zero zero s p t e l = e
tree_at_reads zero (suc m) s p t e l =
    let a = bind_found (found_at s p) _ t e in
    let here : found_at s p ≡ Ok a.0 = a.1 in
    rw here (leaf_is s (tree_at m s) a.0.object t a.2)
tree_at_reads (suc n) zero s p t e l =
    let a = bind_found (found_at s p) _ t e in
    let here : found_at s p ≡ Ok a.0 = a.1 in
    rw here (is_leaf s (tree_at n s) a.0.object t a.2 l)
tree_at_reads (suc n) (suc m) s p t e l =
    let a = bind_found (found_at s p) _ t e in
    let here : found_at s p ≡ Ok a.0 = a.1 in
    rw here (tree_of_reads m (tree_at n s) (tree_at m s) (λ q u f d. tree_at_reads n m s q u f d) s a.0.object t a.2 l)
