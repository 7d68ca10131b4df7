-- A value depends on no word that it doesn't cover.
use Rattle.std.proofs.Common.{◌≡◌, ℕ, zero, suc, ◌+◌, ◌<◌, Bool, true, false, cond, eqb, leb, List, [], ◌∷◌, ◌++◌, length, take, drop, Option, Some, Result, Ok, ap, subst, arith}
use Rattle.std.specs.List.{slice_get, AllByRecursion}
use Rattle.std.proofs.lemmas.Bool.{le-leb}
use Rattle.std.proofs.lemmas.Option.{slice_get_within}
use Rattle.std.specs.Option.{ok_or}
use Rattle.std.specs.Result.{result_ok}
use Rattle.capnp_model.specs.Kinds.{Kind, OutOfBounds}
use Rattle.capnp_model.specs.Chains.{◌>>=◌}
use Rattle.capnp_model.specs.Segments.{Segments, Place, after, word_at, words_at}
use Rattle.capnp_model.specs.Pointers.{Pointer, to_struct, to_list, to_pad, to_capability, to_nothing_known, pointer_of, Object, nothing, a_struct, a_list, a_capability, Found, found_by, found_at}
use Rattle.capnp_model.specs.Trees.{Tree, Trees, Elements}
use Rattle.capnp_model.specs.Traversal.{Tag, tag_in, each, each_element, ListKind, of_bits, of_pointers, of_structs, list_kind, list_words, list_tree, tree_of, tree_at}
use Rattle.capnp_model.specs.Coverage.{Span, span, pad_of, pads_by, pads_at, from_each, from_elements, covered_tag, covered_list, covered_object, covered_found, covered, Keeps}
use Rattle.capnp_model.proofs.lemmas.Chaining.{bind_some, bind_found, bind_ok, ok_or_some, provided_some, some_is}

-- ---- lists of spans

pub all_left : (P : Span → Type 0) (xs ys : List Span) → AllByRecursion P (xs ++ ys) → AllByRecursion P xs
all_left P [] ys h = tt
all_left P (x ∷ xs) ys h = (h.0, all_left P xs ys h.1)

pub all_right : (P : Span → Type 0) (xs ys : List Span) → AllByRecursion P (xs ++ ys) → AllByRecursion P ys
all_right P [] ys h = h
all_right P (x ∷ xs) ys h = all_right P xs ys h.1

-- ---- one word

first_of_drop : (xs : List ℕ) (k w : ℕ) → slice_get xs k ≡ Some w → take 1 (drop k xs) ≡ w ∷ []
first_of_drop [] k w e = absurd cc
first_of_drop (x ∷ xs) zero w e = ap (λ (y : ℕ). y ∷ []) (some_is _ _ e)
first_of_drop (x ∷ xs) (suc k) w e = first_of_drop xs k w e

word_of_drop : (xs : List ℕ) (k w : ℕ) → take 1 (drop k xs) ≡ w ∷ [] → slice_get xs k ≡ Some w
word_of_drop [] zero w e = absurd cc
word_of_drop [] (suc k) w e = absurd cc
word_of_drop (x ∷ xs) zero w e = cc
word_of_drop (x ∷ xs) (suc k) w e = word_of_drop xs k w e

pub word_is : (s : Segments) (p : Place) (w : ℕ) → word_at s p ≡ Some w → words_at s p 1 ≡ Some (w ∷ [])
word_is s p w e =
    let a = bind_some (slice_get s p.segment) _ w e in
    let there : slice_get s p.segment ≡ Some a.0 = a.1 in
    let lt : p.position < length a.0 = slice_get_within a.0 p.position w a.2 in
    let fits : leb (p.position + 1) (length a.0) ≡ true = le-leb _ _ (omega arith) in
    rw (there, fits) (ap (λ (ws : List ℕ). Some ws) (first_of_drop a.0 p.position w a.2))

pub word_was : (s : Segments) (p : Place) (w : ℕ) → words_at s p 1 ≡ Some (w ∷ []) → word_at s p ≡ Some w
word_was s p w e =
    let a = bind_some (slice_get s p.segment) _ (w ∷ []) e in
    let there : slice_get s p.segment ≡ Some a.0 = a.1 in
    let g = provided_some _ _ _ a.2 in
    rw there (word_of_drop a.0 p.position w g.1)

-- ---- the walk

module _ (s u : Segments) where
  Kept : List Span → Type 0
  Kept xs = AllByRecursion (Keeps s u) xs

  keeps_word : (p : Place) (w : ℕ) → Keeps s u (span p 1) → word_at s p ≡ Some w → word_at u p ≡ Some w
  keeps_word p w k e = word_was u p w (k (w ∷ []) (word_is s p w e))

  found_by_kept : (p : Place) (q : Pointer) (f : Found) → AllByRecursion (Keeps s u) (pad_of q) → found_by s p q ≡ Ok f → found_by u p q ≡ Ok f
  found_by_kept p (to_struct o d k) f h e = e
  found_by_kept p (to_list o size n) f h e = e
  found_by_kept p (to_capability i) f h e = e
  found_by_kept p to_nothing_known f h e = e
  found_by_kept p (to_pad words pad) f h e =
      let a = bind_ok (ok_or (words_at s pad words) OutOfBounds) _ f e in
      let there : words_at u pad words ≡ Some a.0 = h.0 a.0 (ok_or_some _ _ _ a.1) in
      rw there a.2

  unless_null : (b : Bool) (p : Place) (q : Pointer) (f x : Found) → AllByRecursion (Keeps s u) (pad_of q) → cond b (Ok x) (found_by s p q) ≡ Ok f → cond b (Ok x) (found_by u p q) ≡ Ok f
  unless_null true p q f x h e = e
  unless_null false p q f x h e = found_by_kept p q f h e

  pub found_kept : (p : Place) (f : Found) → Keeps s u (span p 1) → AllByRecursion (Keeps s u) (pads_at s p) → found_at s p ≡ Ok f → found_at u p ≡ Ok f
  found_kept p f k h e =
      let a = bind_ok (ok_or (word_at s p) OutOfBounds) _ f e in
      let here : word_at s p ≡ Some a.0 = ok_or_some _ _ _ a.1 in
      let there : word_at u p ≡ Some a.0 = keeps_word p a.0 k here in
      let pads : AllByRecursion (Keeps s u) (pad_of (pointer_of a.0)) = subst (λ (o : Option ℕ). AllByRecursion (Keeps s u) (pads_by o)) here h in
      rw there (unless_null (eqb a.0 0) p (pointer_of a.0) f _ pads a.2)

-- one level: what `f` reads over s, `g` reads over u, where what the pointers cover is kept
module _ (s u : Segments) (f g : Place → Option Tree) (below : Place → List Span) (h : (p : Place) (t : Tree) → AllByRecursion (Keeps s u) (below p) → f p ≡ Some t → g p ≡ Some t) where
  each_kept : (p : Place) (k : ℕ) (ts : Trees) → AllByRecursion (Keeps s u) (from_each below p k) → each f p k ≡ Some ts → each g p k ≡ Some ts
  each_kept p zero ts c e = e
  each_kept p (suc k) ts c e =
      let a = bind_some (f p) _ ts e in
      let b = bind_some (each f (after p 1) k) _ ts a.2 in
      let here : g p ≡ Some a.0 = h p a.0 (all_left (Keeps s u) (below p) _ c) a.1 in
      let rest : each g (after p 1) k ≡ Some b.0 = each_kept (after p 1) k b.0 (all_right (Keeps s u) (below p) _ c) b.1 in
      rw (here, rest) b.2

  each_element_kept : (p : Place) (ws : List ℕ) (d k n : ℕ) (es : Elements) → AllByRecursion (Keeps s u) (from_elements below p d k n) → each_element f p ws d k n ≡ Some es → each_element g p ws d k n ≡ Some es
  each_element_kept p ws d k zero es c e = e
  each_element_kept p ws d k (suc n) es c e =
      let a = bind_some (each f (after p d) k) _ es e in
      let b = bind_some (each_element f (after p (d + k)) (drop (d + k) ws) d k n) _ es a.2 in
      let here : each g (after p d) k ≡ Some a.0 = each_kept (after p d) k a.0 (all_left (Keeps s u) (from_each below (after p d) k) _ c) a.1 in
      let rest : each_element g (after p (d + k)) (drop (d + k) ws) d k n ≡ Some b.0 = each_element_kept (after p (d + k)) (drop (d + k) ws) d k n b.0 (all_right (Keeps s u) (from_each below (after p d) k) _ c) b.1 in
      rw (here, rest) b.2

  list_kept : (p : Place) (kind : ListKind) (size n : ℕ) (ws : List ℕ) (t : Tree) → words_at s p (list_words kind size n) ≡ Some ws → AllByRecursion (Keeps s u) (covered_list s below p kind size n) → list_tree f p kind size n ws ≡ Some t → list_tree g p kind size n ws ≡ Some t
  list_kept p of_bits size n ws t there c e = e
  list_kept p of_pointers size n ws t there c e =
      let a = bind_some (each f p n) _ t e in
      let here : each g p n ≡ Some a.0 = each_kept p n a.0 c a.1 in
      rw here a.2
  list_kept p of_structs size n ws t there c e =
      let a = bind_found (tag_in ws) _ t e in
      let b = bind_some (each_element f (after p 1) (drop 1 ws) a.0.data_words a.0.pointers a.0.count) _ t a.2 in
      let tag : tag_in ws ≡ Ok a.0 = a.1 in
      let read : (words_at s p (1 + n) >>= λ vs. result_ok (tag_in vs)) ≡ Some a.0 = rw there (ap result_ok tag) in
      let c' : AllByRecursion (Keeps s u) (from_elements below (after p 1) a.0.data_words a.0.pointers a.0.count) = subst (λ (o : Option Tag). AllByRecursion (Keeps s u) (covered_tag below p o)) read c in
      let here : each_element g (after p 1) (drop 1 ws) a.0.data_words a.0.pointers a.0.count ≡ Some b.0 = each_element_kept (after p 1) (drop 1 ws) a.0.data_words a.0.pointers a.0.count b.0 c' b.1 in
      rw (tag, here) b.2

  tree_kept : (o : Object) (t : Tree) → AllByRecursion (Keeps s u) (covered_object s below o) → tree_of s f o ≡ Some t → tree_of u g o ≡ Some t
  tree_kept nothing t c e = e
  tree_kept (a_capability i) t c e = e
  tree_kept (a_struct p d k) t c e =
      let a = bind_some (words_at s p (d + k)) _ t e in
      let b = bind_some (each f (after p d) k) _ t a.2 in
      let there : words_at u p (d + k) ≡ Some a.0 = c.0 a.0 a.1 in
      let here : each g (after p d) k ≡ Some b.0 = each_kept (after p d) k b.0 c.1 b.1 in
      rw (there, here) b.2
  tree_kept (a_list p size n) t c e =
      let a = bind_some (words_at s p (list_words (list_kind size) size n)) _ t e in
      let there : words_at u p (list_words (list_kind size) size n) ≡ Some a.0 = c.0 a.0 a.1 in
      rw there (list_kept p (list_kind size) size n a.0 t a.1 c.1 a.2)

-- THE LAW: segments that keep what a value covers keep the value.
pub tree_at_kept : (n : ℕ) (s u : Segments) (p : Place) (t : Tree) → AllByRecursion (Keeps s u) (covered n s p) → tree_at n s p ≡ Some t → tree_at n u p ≡ Some t
unfolding tree_at covered
tree_at_kept zero s u p t c e =
    let a = bind_found (found_at s p) _ t e in
    let here : found_at u p ≡ Ok a.0 = found_kept s u p a.0 c.0 c.1 a.1 in
    rw here a.2
tree_at_kept (suc n) s u p t c e =
    let a = bind_found (found_at s p) _ t e in
    let here : found_at u p ≡ Ok a.0 = found_kept s u p a.0 c.0 (all_left (Keeps s u) (pads_at s p) _ c.1) a.1 in
    let object : AllByRecursion (Keeps s u) (covered_found (covered_object s (covered n s)) (found_at s p)) = all_right (Keeps s u) (pads_at s p) _ c.1 in
    let inner : AllByRecursion (Keeps s u) (covered_object s (covered n s) a.0.object) = subst (λ (o : Result Found Kind). AllByRecursion (Keeps s u) (covered_found (covered_object s (covered n s)) o)) a.1 object in
    rw here (tree_kept s u (tree_at n s) (tree_at n u) (covered n s) (λ q v d f. tree_at_kept n s u q v d f) a.0.object t inner a.2)
