-- A value is read just where no fault is met.
use Rattle.std.proofs.Common.{◌≡◌, ℕ, zero, suc, ◌+◌, List, [], ◌∷◌, ◌++◌, drop, Option, Some, None, Result, Ok, Err, refl}
use Rattle.std.specs.Prelude.{IsSome}
use Rattle.std.specs.Option.{ok_or}
use Rattle.capnp_model.specs.Kinds.{Kind, OutOfBounds}
use Rattle.capnp_model.specs.Segments.{Segments, Place, after, words_at}
use Rattle.capnp_model.specs.Pointers.{Object, nothing, a_struct, a_list, a_capability, found_at}
use Rattle.capnp_model.specs.Trees.{Tree, Trees, Elements}
use Rattle.capnp_model.specs.Traversal.{tag_in, each, each_element, ListKind, of_bits, of_pointers, of_structs, list_kind, list_words, list_tree, leaf_of, tree_of, tree_at}
use Rattle.capnp_model.specs.Coverage.{from_each, from_elements}
use Rattle.capnp_model.specs.Faults.{faults_of, list_faults, object_faults, leaf_faults, faults_at}
use Rattle.capnp_model.proofs.lemmas.Chaining.{bind_some, bind_found}

-- ---- lists without an element

none_left : {A : Type 0} (xs ys : List A) → xs ++ ys ≡ [] → xs ≡ []
none_left [] ys e = refl
none_left (x ∷ xs) ys e = absurd cc

none_right : {A : Type 0} (xs ys : List A) → xs ++ ys ≡ [] → ys ≡ []
none_right [] ys e = e
none_right (x ∷ xs) ys e = absurd cc

none_both : {A : Type 0} (xs ys : List A) → xs ≡ [] → ys ≡ [] → xs ++ ys ≡ []
none_both xs ys e f = rw (e, f) refl

-- ---- steps

found_none : {A : Type 0} (r : Result A Kind) (f : A → List Kind) (x : A) → r ≡ Ok x → f x ≡ [] → faults_of f r ≡ []
found_none r f x e h = rw e h

none_found : {A : Type 0} (r : Result A Kind) (f : A → List Kind) → faults_of f r ≡ [] → (x : A) × (r ≡ Ok x) × (f x ≡ [])
none_found (Ok x) f e = (x, refl, e)
none_found (Err k) f e = absurd cc

there_none : {A : Type 0} (o : Option A) (k : Kind) (f : A → List Kind) (x : A) → o ≡ Some x → f x ≡ [] → faults_of f (ok_or o k) ≡ []
there_none o k f x e h = rw e h

none_there : {A : Type 0} (o : Option A) (k : Kind) (f : A → List Kind) → faults_of f (ok_or o k) ≡ [] → (x : A) × (o ≡ Some x) × (f x ≡ [])
none_there (Some x) k f e = (x, refl, e)
none_there None k f e = absurd cc

some_is_some : {A : Type 0} (o : Option A) (x : A) → o ≡ Some x → IsSome o
some_is_some o x e = rw e refl

is_some_some : {A : Type 0} (o : Option A) → IsSome o → (x : A) × (o ≡ Some x)
is_some_some (Some x) h = (x, refl)
is_some_some None h = absurd cc

-- ---- what is read meets no fault

module _ (f : Place → Option Tree) (g : Place → List Kind) (h : (p : Place) (t : Tree) → f p ≡ Some t → g p ≡ []) where
  each_clean : (p : Place) (k : ℕ) (ts : Trees) → each f p k ≡ Some ts → from_each g p k ≡ []
  each_clean p zero ts e = refl
  each_clean p (suc k) ts e =
      let a = bind_some (f p) _ ts e in
      let b = bind_some (each f (after p 1) k) _ ts a.2 in
      none_both (g p) (from_each g (after p 1) k) (h p a.0 a.1) (each_clean (after p 1) k b.0 b.1)

  elements_clean : (p : Place) (ws : List ℕ) (d k n : ℕ) (es : Elements) → each_element f p ws d k n ≡ Some es → from_elements g p d k n ≡ []
  elements_clean p ws d k zero es e = refl
  elements_clean p ws d k (suc n) es e =
      let a = bind_some (each f (after p d) k) _ es e in
      let b = bind_some (each_element f (after p (d + k)) (drop (d + k) ws) d k n) _ es a.2 in
      none_both (from_each g (after p d) k) (from_elements g (after p (d + k)) d k n) (each_clean (after p d) k a.0 a.1) (elements_clean (after p (d + k)) (drop (d + k) ws) d k n b.0 b.1)

  list_clean : (p : Place) (kind : ListKind) (size n : ℕ) (ws : List ℕ) (t : Tree) → list_tree f p kind size n ws ≡ Some t → list_faults g p kind n ws ≡ []
  list_clean p of_bits size n ws t e = refl
  list_clean p of_pointers size n ws t e = let a = bind_some (each f p n) _ t e in each_clean p n a.0 a.1
  list_clean p of_structs size n ws t e =
      let a = bind_found (tag_in ws) _ t e in
      let b = bind_some (each_element f (after p 1) (drop 1 ws) a.0.data_words a.0.pointers a.0.count) _ t a.2 in
      found_none (tag_in ws) (λ x. from_elements g (after p 1) x.data_words x.pointers x.count) a.0 a.1 (elements_clean (after p 1) (drop 1 ws) a.0.data_words a.0.pointers a.0.count b.0 b.1)

  tree_clean : (s : Segments) (o : Object) (t : Tree) → tree_of s f o ≡ Some t → object_faults s g o ≡ []
  tree_clean s nothing t e = refl
  tree_clean s (a_capability i) t e = refl
  tree_clean s (a_struct p d k) t e =
      let a = bind_some (words_at s p (d + k)) _ t e in
      let b = bind_some (each f (after p d) k) _ t a.2 in
      there_none (words_at s p (d + k)) OutOfBounds (λ ws. from_each g (after p d) k) a.0 a.1 (each_clean (after p d) k b.0 b.1)
  tree_clean s (a_list p size n) t e =
      let a = bind_some (words_at s p (list_words (list_kind size) size n)) _ t e in
      there_none (words_at s p (list_words (list_kind size) size n)) OutOfBounds (list_faults g p (list_kind size) n) a.0 a.1 (list_clean p (list_kind size) size n a.0 t a.2)

leaf_clean : (o : Object) (t : Tree) → leaf_of o ≡ Some t → leaf_faults o ≡ []
leaf_clean nothing t e = refl
leaf_clean (a_capability i) t e = refl
leaf_clean (a_struct p d k) t e = absurd cc
leaf_clean (a_list p size n) t e = absurd cc

-- THE LAW, one half
pub tree_at_clean : (n : ℕ) (s : Segments) (p : Place) (t : Tree) → tree_at n s p ≡ Some t → faults_at n s p ≡ []
unfolding tree_at faults_at
tree_at_clean zero s p t e = let a = bind_found (found_at s p) _ t e in found_none (found_at s p) (λ x. leaf_faults x.object) a.0 a.1 (leaf_clean a.0.object t a.2)
tree_at_clean (suc n) s p t e = let a = bind_found (found_at s p) _ t e in found_none (found_at s p) (λ x. object_faults s (faults_at n s) x.object) a.0 a.1 (tree_clean (tree_at n s) (faults_at n s) (λ q u. tree_at_clean n s q u) s a.0.object t a.2)

-- ---- where no fault is met a value is read

module _ (f : Place → Option Tree) (g : Place → List Kind) (h : (p : Place) → g p ≡ [] → IsSome (f p)) where
  clean_each : (p : Place) (k : ℕ) → from_each g p k ≡ [] → IsSome (each f p k)
  clean_each p zero e = refl
  clean_each p (suc k) e =
      let a = is_some_some (f p) (h p (none_left (g p) _ e)) in
      let b = is_some_some (each f (after p 1) k) (clean_each (after p 1) k (none_right (g p) _ e)) in
      rw (a.1, b.1) refl

  clean_elements : (p : Place) (ws : List ℕ) (d k n : ℕ) → from_elements g p d k n ≡ [] → IsSome (each_element f p ws d k n)
  clean_elements p ws d k zero e = refl
  clean_elements p ws d k (suc n) e =
      let a = is_some_some (each f (after p d) k) (clean_each (after p d) k (none_left (from_each g (after p d) k) _ e)) in
      let b = is_some_some (each_element f (after p (d + k)) (drop (d + k) ws) d k n) (clean_elements (after p (d + k)) (drop (d + k) ws) d k n (none_right (from_each g (after p d) k) _ e)) in
      rw (a.1, b.1) refl

  clean_list : (p : Place) (kind : ListKind) (size n : ℕ) (ws : List ℕ) → list_faults g p kind n ws ≡ [] → IsSome (list_tree f p kind size n ws)
  clean_list p of_bits size n ws e = refl
  clean_list p of_pointers size n ws e = let a = is_some_some (each f p n) (clean_each p n e) in rw a.1 refl
  clean_list p of_structs size n ws e =
      let a = none_found (tag_in ws) (λ x. from_elements g (after p 1) x.data_words x.pointers x.count) e in
      let b = is_some_some (each_element f (after p 1) (drop 1 ws) a.0.data_words a.0.pointers a.0.count) (clean_elements (after p 1) (drop 1 ws) a.0.data_words a.0.pointers a.0.count a.2) in
      rw (a.1, b.1) refl

  clean_tree : (s : Segments) (o : Object) → object_faults s g o ≡ [] → IsSome (tree_of s f o)
  clean_tree s nothing e = refl
  clean_tree s (a_capability i) e = refl
  clean_tree s (a_struct p d k) e =
      let a = none_there (words_at s p (d + k)) OutOfBounds (λ ws. from_each g (after p d) k) e in
      let b = is_some_some (each f (after p d) k) (clean_each (after p d) k a.2) in
      rw (a.1, b.1) refl
  clean_tree s (a_list p size n) e =
      let a = none_there (words_at s p (list_words (list_kind size) size n)) OutOfBounds (list_faults g p (list_kind size) n) e in
      rw a.1 (clean_list p (list_kind size) size n a.0 a.2)

clean_leaf : (o : Object) → leaf_faults o ≡ [] → IsSome (leaf_of o)
clean_leaf nothing e = refl
clean_leaf (a_capability i) e = refl
clean_leaf (a_struct p d k) e = absurd cc
clean_leaf (a_list p size n) e = absurd cc

-- THE LAW, the other half
pub clean_tree_at : (n : ℕ) (s : Segments) (p : Place) → faults_at n s p ≡ [] → IsSome (tree_at n s p)
unfolding tree_at faults_at
clean_tree_at zero s p e = let a = none_found (found_at s p) (λ x. leaf_faults x.object) e in rw a.1 (clean_leaf a.0.object a.2)
clean_tree_at (suc n) s p e = let a = none_found (found_at s p) (λ x. object_faults s (faults_at n s) x.object) e in rw a.1 (clean_tree (tree_at n s) (faults_at n s) (λ q. clean_tree_at n s q) s a.0.object a.2)
