-- A value is kept where what belongs to it is kept, and so is what belongs to it; it reads the same with more levels.
use Rattle.std.proofs.Common.{◌≡◌, ℕ, zero, suc, ◌+◌, ◌-◌, ◌*◌, ◌≤◌, List, [], ◌∷◌, ◌++◌, length, drop, Option, Some, Result, Ok, refl, ap, sym, ◌∙◌, subst, arith}
use Rattle.std.proofs.lemmas.Bool.{leb-true}
use Rattle.std.specs.List.{slice_get, AllByRecursion}
use Rattle.std.specs.Result.{result_ok}
use Rattle.capnp_model.specs.Kinds.{Kind, OutOfBounds}
use Rattle.std.specs.Option.{ok_or}
use Rattle.std.proofs.lemmas.List.{length-take, length-drop}
use Rattle.capnp_model.specs.Chains.{◌>>=◌}
use Rattle.capnp_model.specs.Segments.{Segments, Place, after, word_at, words_at}
use Rattle.capnp_model.specs.Pointers.{pointer_of, Object, nothing, a_struct, a_list, a_capability, Found, found_at}
use Rattle.capnp_model.specs.Trees.{Tree, Trees, Elements}
use Rattle.capnp_model.specs.Traversal.{Tag, tag_of, tag_in, each, each_element, ListKind, of_bits, of_pointers, of_structs, list_kind, list_words, list_tree, leaf_of, tree_of, tree_at}
use Rattle.capnp_model.specs.Coverage.{Span, span, pads_by, pads_at, from_each, from_elements, covered_tag, covered_list, covered_object, covered_found, Keeps}
use Rattle.capnp_model.proofs.lemmas.Chaining.{bind_some, bind_found, bind_ok, ok_or_some, provided_some, ok_is, guard_ok}
use Rattle.capnp_model.proofs.lemmas.Locality.{all_left, all_right, found_kept, word_is, word_was}
use Rattle.capnp_model.proofs.lemmas.ReadFits.{words_length}
use Rattle.capnp_model_writes.specs.Footprints.{behind}
use Rattle.capnp_model_writes.proofs.lemmas.Spans.{words_front, words_back, keeps_front, keeps_back}

-- the elements of a list of structs fit into the words behind the tag
pub tag_fits : (ws : List ℕ) (t : Tag) → tag_in ws ≡ Ok t → t.count * (t.data_words + t.pointers) ≤ length (drop 1 ws)
tag_fits [] t e = absurd cc
tag_fits (w ∷ ws) t e =
    let a = bind_ok (tag_of (pointer_of w)) _ t e in
    let g = guard_ok _ _ _ _ a.2 in
    let is : a.0 ≡ t = ok_is _ _ g.1 in
    let fits = leb-true _ _ g.0 in
    subst (λ (x : Tag). x.count * (x.data_words + x.pointers) ≤ length ws) is fits

nil_behind : (xs : List Span) → xs ++ [] ≡ xs
nil_behind [] = refl
nil_behind (x ∷ xs) = ap (λ (ys : List Span). x ∷ ys) (nil_behind xs)

module _ (s u : Segments) where
  Kept : List Span → Type 0
  Kept xs = AllByRecursion (Keeps s u) xs

  pub pads_kept : (p : Place) (w : ℕ) → Keeps s u (span p 1) → word_at s p ≡ Some w → pads_at u p ≡ pads_at s p
  pads_kept p w k e =
      let f : word_at u p ≡ Some w = word_was u p w (k (w ∷ []) (word_is s p w e)) in
      ap pads_by (f ∙ sym e)

-- one level: where what belongs to a value is kept, what `f` and `b` tell of it over s, `g` and `c` tell over u
module _ (s u : Segments) (f g : Place → Option Tree) (b c : Place → List Span) (h : (p : Place) (t : Tree) → AllByRecursion (Keeps s u) (span p 1 ∷ b p) → f p ≡ Some t → (g p ≡ Some t) × (c p ≡ b p)) where
  pub each_same : (p : Place) (k : ℕ) (ws : List ℕ) (ts : Trees) → words_at s p k ≡ Some ws → Keeps s u (span p k) → AllByRecursion (Keeps s u) (from_each b p k) → each f p k ≡ Some ts → (each g p k ≡ Some ts) × (from_each c p k ≡ from_each b p k)
  each_same p zero ws ts w v a e = (e, refl)
  each_same p (suc k) ws ts w v a e =
      let sum : suc k ≡ 1 + k = omega arith in
      let w' : words_at s p (1 + k) ≡ Some ws = subst (λ (m : ℕ). words_at s p m ≡ Some ws) sum w in
      let v' : Keeps s u (span p (1 + k)) = subst (λ (m : ℕ). Keeps s u (span p m)) sum v in
      let x = bind_some (f p) _ ts e in
      let y = bind_some (each f (after p 1) k) _ ts x.2 in
      let here = h p x.0 (keeps_front s u p 1 k ws w' v', all_left (Keeps s u) (b p) _ a) x.1 in
      let rest = each_same (after p 1) k (drop 1 ws) y.0 (words_back s p 1 k ws w') (keeps_back s u p 1 k ws w' v') (all_right (Keeps s u) (b p) _ a) y.1 in
      let t : g p ≡ Some x.0 = here.0 in
      let ts' : each g (after p 1) k ≡ Some y.0 = rest.0 in
      let cs : c p ≡ b p = here.1 in
      let ds : from_each c (after p 1) k ≡ from_each b (after p 1) k = rest.1 in
      (rw (t, ts') y.2, ap (λ (xs : List Span). xs ++ from_each c (after p 1) k) cs ∙ ap (λ (xs : List Span). b p ++ xs) ds)

  pub elements_same : (p : Place) (ws vs : List ℕ) (d k n : ℕ) (es : Elements) → words_at s p (n * (d + k)) ≡ Some vs → Keeps s u (span p (n * (d + k))) → AllByRecursion (Keeps s u) (from_elements b p d k n) → each_element f p ws d k n ≡ Some es → (each_element g p ws d k n ≡ Some es) × (from_elements c p d k n ≡ from_elements b p d k n)
  elements_same p ws vs d k zero es w v a e = (e, refl)
  elements_same p ws vs d k (suc n) es w v a e =
      let sum : suc n * (d + k) ≡ (d + k) + n * (d + k) = omega arith in
      let w' : words_at s p ((d + k) + n * (d + k)) ≡ Some vs = subst (λ (m : ℕ). words_at s p m ≡ Some vs) sum w in
      let v' : Keeps s u (span p ((d + k) + n * (d + k))) = subst (λ (m : ℕ). Keeps s u (span p m)) sum v in
      let w1 = words_front s p (d + k) (n * (d + k)) vs w' in
      let v1 = keeps_front s u p (d + k) (n * (d + k)) vs w' v' in
      let x = bind_some (each f (after p d) k) _ es e in
      let y = bind_some (each_element f (after p (d + k)) (drop (d + k) ws) d k n) _ es x.2 in
      let here = each_same (after p d) k _ x.0 (words_back s p d k _ w1) (keeps_back s u p d k _ w1 v1) (all_left (Keeps s u) (from_each b (after p d) k) _ a) x.1 in
      let rest = elements_same (after p (d + k)) (drop (d + k) ws) _ d k n y.0 (words_back s p (d + k) (n * (d + k)) vs w') (keeps_back s u p (d + k) (n * (d + k)) vs w' v') (all_right (Keeps s u) (from_each b (after p d) k) _ a) y.1 in
      let t : each g (after p d) k ≡ Some x.0 = here.0 in
      let ts' : each_element g (after p (d + k)) (drop (d + k) ws) d k n ≡ Some y.0 = rest.0 in
      (rw (t, ts') y.2, ap (λ (xs : List Span). xs ++ from_elements c (after p (d + k)) d k n) here.1 ∙ ap (λ (xs : List Span). from_each b (after p d) k ++ xs) rest.1)

  list_same : (p : Place) (kind : ListKind) (size n : ℕ) (ws : List ℕ) (t : Tree) → words_at s p (list_words kind size n) ≡ Some ws → Keeps s u (span p (list_words kind size n)) → AllByRecursion (Keeps s u) (covered_list s b p kind size n) → list_tree f p kind size n ws ≡ Some t → (list_tree g p kind size n ws ≡ Some t) × (covered_list u c p kind size n ≡ covered_list s b p kind size n)
  list_same p of_bits size n ws t w v a e = (e, refl)
  list_same p of_pointers size n ws t w v a e =
      let x = bind_some (each f p n) _ t e in
      let here = each_same p n ws x.0 w v a x.1 in
      let is : each g p n ≡ Some x.0 = here.0 in
      (rw is x.2, here.1)
  list_same p of_structs size n ws t w v a e =
      let x = bind_found (tag_in ws) _ t e in
      let y = bind_some (each_element f (after p 1) (drop 1 ws) x.0.data_words x.0.pointers x.0.count) _ t x.2 in
      let tag : tag_in ws ≡ Ok x.0 = x.1 in
      let m : ℕ = x.0.count * (x.0.data_words + x.0.pointers) in
      let w1 = words_back s p 1 n ws w in
      let long : length (drop 1 ws) ≡ n = words_length s (after p 1) n (drop 1 ws) w1 in
      let sum : n ≡ x.0.count * (x.0.data_words + x.0.pointers) + (n - x.0.count * (x.0.data_words + x.0.pointers)) = omega (arith, tag_fits ws x.0 x.1, long) in
      let w2 : words_at s (after p 1) (x.0.count * (x.0.data_words + x.0.pointers) + (n - x.0.count * (x.0.data_words + x.0.pointers))) ≡ Some (drop 1 ws) = subst (λ (i : ℕ). words_at s (after p 1) i ≡ Some (drop 1 ws)) sum w1 in
      let v2 : Keeps s u (span (after p 1) (x.0.count * (x.0.data_words + x.0.pointers) + (n - x.0.count * (x.0.data_words + x.0.pointers)))) = subst (λ (i : ℕ). Keeps s u (span (after p 1) i)) sum (keeps_back s u p 1 n ws w v) in
      let read : (words_at s p (1 + n) >>= λ vs. result_ok (tag_in vs)) ≡ Some x.0 = rw w (ap result_ok tag) in
      let there : words_at u p (1 + n) ≡ Some ws = v ws w in
      let read' : (words_at u p (1 + n) >>= λ vs. result_ok (tag_in vs)) ≡ Some x.0 = rw there (ap result_ok tag) in
      let a' : AllByRecursion (Keeps s u) (from_elements b (after p 1) x.0.data_words x.0.pointers x.0.count) = subst (λ (o : Option Tag). AllByRecursion (Keeps s u) (covered_tag b p o)) read a in
      let here = elements_same (after p 1) (drop 1 ws) _ x.0.data_words x.0.pointers x.0.count y.0 (words_front s (after p 1) _ _ _ w2) (keeps_front s u (after p 1) _ _ _ w2 v2) a' y.1 in
      let is : each_element g (after p 1) (drop 1 ws) x.0.data_words x.0.pointers x.0.count ≡ Some y.0 = here.0 in
      (rw (tag, is) y.2, ap (covered_tag c p) read' ∙ here.1 ∙ sym (ap (covered_tag b p) read))

  pub object_same : (o : Object) (t : Tree) → AllByRecursion (Keeps s u) (covered_object s b o) → tree_of s f o ≡ Some t → (tree_of u g o ≡ Some t) × (covered_object u c o ≡ covered_object s b o)
  object_same nothing t a e = (e, refl)
  object_same (a_capability i) t a e = (e, refl)
  object_same (a_struct p d k) t a e =
      let x = bind_some (words_at s p (d + k)) _ t e in
      let y = bind_some (each f (after p d) k) _ t x.2 in
      let there : words_at u p (d + k) ≡ Some x.0 = a.0 x.0 x.1 in
      let here = each_same (after p d) k _ y.0 (words_back s p d k x.0 x.1) (keeps_back s u p d k x.0 x.1 a.0) a.1 y.1 in
      let is : each g (after p d) k ≡ Some y.0 = here.0 in
      (rw (there, is) y.2, ap (λ (xs : List Span). span p (d + k) ∷ xs) here.1)
  object_same (a_list p size n) t a e =
      let x = bind_some (words_at s p (list_words (list_kind size) size n)) _ t e in
      let there : words_at u p (list_words (list_kind size) size n) ≡ Some x.0 = a.0 x.0 x.1 in
      let here = list_same p (list_kind size) size n x.0 t x.1 a.0 a.1 x.2 in
      (rw there here.0, ap (λ (xs : List Span). span p (list_words (list_kind size) size n) ∷ xs) here.1)

-- what needs no level reads the same at each, and has nothing behind it
leaf_same : (s u : Segments) (g : Place → Option Tree) (c : Place → List Span) (o : Object) (t : Tree) → leaf_of o ≡ Some t → (tree_of u g o ≡ Some t) × (covered_object u c o ≡ [])
leaf_same s u g c nothing t e = (e, refl)
leaf_same s u g c (a_capability i) t e = (e, refl)
leaf_same s u g c (a_struct p d k) t e = absurd cc
leaf_same s u g c (a_list p size n) t e = absurd cc

-- THE LAW
pub value_same : (n m : ℕ) (s u : Segments) (p : Place) (t : Tree) → n ≤ m → AllByRecursion (Keeps s u) (span p 1 ∷ behind n s p) → tree_at n s p ≡ Some t → (tree_at m u p ≡ Some t) × (behind m u p ≡ behind n s p)
unfolding tree_at behind
value_same zero zero s u p t l a e =
    let x = bind_found (found_at s p) _ t e in
    let there = bind_ok (ok_or (word_at s p) OutOfBounds) _ x.0 x.1 in
    let pads : pads_at u p ≡ pads_at s p = pads_kept s u p there.0 a.0 (ok_or_some _ _ _ there.1) in
    let here : found_at u p ≡ Ok x.0 = found_kept s u p x.0 a.0 a.1 x.1 in
    (rw here x.2, pads)
value_same zero (suc m) s u p t l a e =
    let x = bind_found (found_at s p) _ t e in
    let there = bind_ok (ok_or (word_at s p) OutOfBounds) _ x.0 x.1 in
    let pads : pads_at u p ≡ pads_at s p = pads_kept s u p there.0 a.0 (ok_or_some _ _ _ there.1) in
    let here : found_at u p ≡ Ok x.0 = found_kept s u p x.0 a.0 a.1 x.1 in
    let leaf = leaf_same s u (tree_at m u) (behind m u) x.0.object t x.2 in
    (rw here leaf.0, ap (λ (r : Result Found Kind). pads_at u p ++ covered_found (covered_object u (behind m u)) r) here ∙ ap (λ (xs : List Span). pads_at u p ++ xs) leaf.1 ∙ nil_behind (pads_at u p) ∙ pads)
value_same (suc n) zero s u p t l a e = absurd (omega (arith, l))
value_same (suc n) (suc m) s u p t l a e =
    let x = bind_found (found_at s p) _ t e in
    let there = bind_ok (ok_or (word_at s p) OutOfBounds) _ x.0 x.1 in
    let front = all_left (Keeps s u) (pads_at s p) _ a.1 in
    let pads : pads_at u p ≡ pads_at s p = pads_kept s u p there.0 a.0 (ok_or_some _ _ _ there.1) in
    let here : found_at u p ≡ Ok x.0 = found_kept s u p x.0 a.0 front x.1 in
    let back = all_right (Keeps s u) (pads_at s p) _ a.1 in
    let inner : AllByRecursion (Keeps s u) (covered_object s (behind n s) x.0.object) = subst (λ (r : Result Found Kind). AllByRecursion (Keeps s u) (covered_found (covered_object s (behind n s)) r)) x.1 back in
    let o = object_same s u (tree_at n s) (tree_at m u) (behind n s) (behind m u) (λ q v b f. value_same n m s u q v (omega (arith, l)) b f) x.0.object t inner x.2 in
    let same : covered_found (covered_object u (behind m u)) (found_at u p) ≡ covered_found (covered_object s (behind n s)) (found_at s p) = ap (covered_found (covered_object u (behind m u))) here ∙ o.1 ∙ sym (ap (covered_found (covered_object s (behind n s))) x.1) in
    (rw here o.0, ap (λ (xs : List Span). xs ++ covered_found (covered_object u (behind m u)) (found_at u p)) pads ∙ ap (λ (xs : List Span). pads_at s p ++ xs) same)
