-- The words that belong to a value are there.
use Rattle.std.proofs.Common.{◌≡◌, ℕ, zero, suc, ◌+◌, ◌<◌, ◌≤◌, Bool, true, false, cond, eqb, List, [], ◌∷◌, ◌++◌, length, drop, Option, Some, Result, Ok, refl, ap, sym, ◌∙◌, subst, arith}
use Rattle.std.specs.List.{slice_get, AllByRecursion}
use Rattle.std.specs.Option.{ok_or}
use Rattle.std.specs.Result.{result_ok}
use Rattle.std.proofs.lemmas.Bool.{leb-true, eqb-true}
use Rattle.capnp_model.specs.Kinds.{Kind, OutOfBounds}
use Rattle.capnp_model.specs.Chains.{◌>>=◌}
use Rattle.capnp_model.specs.Segments.{Segments, Place, after, word_at, words_at}
use Rattle.capnp_model.specs.Pointers.{Pointer, to_struct, to_list, to_pad, to_capability, to_nothing_known, pointer_of, Object, nothing, a_struct, a_list, a_capability, Found, found_by, found_at}
use Rattle.capnp_model.specs.Trees.{Tree, Trees, Elements}
use Rattle.capnp_model.specs.Traversal.{Tag, tag_in, each, each_element, ListKind, of_bits, of_pointers, of_structs, list_kind, list_words, list_tree, tree_of, tree_at}
use Rattle.capnp_model.specs.Coverage.{Span, span, times_held, pad_of, pads_by, pads_at, from_each, from_elements, covered_tag, covered_list, covered_object, covered_found, Keeps, Grows}
use Rattle.capnp_model.proofs.lemmas.Chaining.{bind_some, bind_found, bind_ok, ok_or_some, provided_some}
use Rattle.capnp_model.proofs.lemmas.Locality.{word_is}
use Rattle.capnp_model.proofs.lemmas.Covering.{all_kept}
use Rattle.capnp_model_writes.proofs.lemmas.Spans.{held, held_is, held_segment, held_low, held_high}
use Rattle.capnp_model_writes.specs.Footprints.{behind}

-- so many words are there from a place on
abbrev pub AreThere : Segments → Span → Type 0
AreThere s x = (ws : List ℕ) × (words_at s x.start x.words ≡ Some ws)

all_both : (P : Span → Type 0) (xs ys : List Span) → AllByRecursion P xs → AllByRecursion P ys → AllByRecursion P (xs ++ ys)
all_both P [] ys a b = b
all_both P (x ∷ xs) ys a b = (a.0, all_both P xs ys a.1 b)

module _ (s : Segments) where
  Full : List Span → Type 0
  Full xs = AllByRecursion (AreThere s) xs

  pads_full_by : (p : Place) (q : Pointer) (f : Found) → found_by s p q ≡ Ok f → AllByRecursion (AreThere s) (pad_of q)
  pads_full_by p (to_struct o d k) f e = tt
  pads_full_by p (to_list o size n) f e = tt
  pads_full_by p (to_capability i) f e = tt
  pads_full_by p to_nothing_known f e = tt
  pads_full_by p (to_pad words pad) f e =
      let a = bind_ok (ok_or (words_at s pad words) OutOfBounds) _ f e in
      ((a.0, ok_or_some _ _ _ a.1), tt)

  pads_full_of : (p : Place) (w : ℕ) (b : Bool) (x f : Found) → eqb w 0 ≡ b → cond b (Ok x) (found_by s p (pointer_of w)) ≡ Ok f → AllByRecursion (AreThere s) (pad_of (pointer_of w))
  pads_full_of p w true x f z e = let none : w ≡ 0 = eqb-true w 0 z in subst (λ (v : ℕ). AllByRecursion (AreThere s) (pad_of (pointer_of v))) (sym none) tt
  pads_full_of p w false x f z e = pads_full_by p (pointer_of w) f e

  -- the pointer and its pads are there
  pub head_full : (p : Place) (f : Found) → found_at s p ≡ Ok f → AllByRecursion (AreThere s) (span p 1 ∷ pads_at s p)
  head_full p f e =
      let a = bind_ok (ok_or (word_at s p) OutOfBounds) _ f e in
      let here : word_at s p ≡ Some a.0 = ok_or_some _ _ _ a.1 in
      ((a.0 ∷ [], word_is s p a.0 here), subst (λ (o : Option ℕ). AllByRecursion (AreThere s) (pads_by o)) (sym here) (pads_full_of p a.0 (eqb a.0 0) _ f refl a.2))

module _ (s : Segments) (f : Place → Option Tree) (b : Place → List Span) (h : (p : Place) (t : Tree) → f p ≡ Some t → AllByRecursion (AreThere s) (b p)) where
  each_full : (p : Place) (k : ℕ) (ts : Trees) → each f p k ≡ Some ts → AllByRecursion (AreThere s) (from_each b p k)
  each_full p zero ts e = tt
  each_full p (suc k) ts e =
      let x = bind_some (f p) _ ts e in
      let y = bind_some (each f (after p 1) k) _ ts x.2 in
      all_both (AreThere s) (b p) _ (h p x.0 x.1) (each_full (after p 1) k y.0 y.1)

  elements_full : (p : Place) (ws : List ℕ) (d k n : ℕ) (es : Elements) → each_element f p ws d k n ≡ Some es → AllByRecursion (AreThere s) (from_elements b p d k n)
  elements_full p ws d k zero es e = tt
  elements_full p ws d k (suc n) es e =
      let x = bind_some (each f (after p d) k) _ es e in
      let y = bind_some (each_element f (after p (d + k)) (drop (d + k) ws) d k n) _ es x.2 in
      all_both (AreThere s) (from_each b (after p d) k) _ (each_full (after p d) k x.0 x.1) (elements_full (after p (d + k)) (drop (d + k) ws) d k n y.0 y.1)

  list_full : (p : Place) (kind : ListKind) (size n : ℕ) (ws : List ℕ) (t : Tree) → words_at s p (list_words kind size n) ≡ Some ws → list_tree f p kind size n ws ≡ Some t → AllByRecursion (AreThere s) (covered_list s b p kind size n)
  list_full p of_bits size n ws t w e = tt
  list_full p of_pointers size n ws t w e = let x = bind_some (each f p n) _ t e in each_full p n x.0 x.1
  list_full p of_structs size n ws t w e =
      let x = bind_found (tag_in ws) _ t e in
      let y = bind_some (each_element f (after p 1) (drop 1 ws) x.0.data_words x.0.pointers x.0.count) _ t x.2 in
      let read : (words_at s p (1 + n) >>= λ vs. result_ok (tag_in vs)) ≡ Some x.0 = rw w (ap result_ok x.1) in
      subst (λ (o : Option Tag). AllByRecursion (AreThere s) (covered_tag b p o)) (sym read) (elements_full (after p 1) (drop 1 ws) x.0.data_words x.0.pointers x.0.count y.0 y.1)

  pub object_full : (o : Object) (t : Tree) → tree_of s f o ≡ Some t → AllByRecursion (AreThere s) (covered_object s b o)
  object_full nothing t e = tt
  object_full (a_capability i) t e = tt
  object_full (a_struct p d k) t e =
      let x = bind_some (words_at s p (d + k)) _ t e in
      let y = bind_some (each f (after p d) k) _ t x.2 in
      ((x.0, x.1), each_full (after p d) k y.0 y.1)
  object_full (a_list p size n) t e =
      let x = bind_some (words_at s p (list_words (list_kind size) size n)) _ t e in
      ((x.0, x.1), list_full p (list_kind size) size n x.0 t x.1 x.2)

pub behind_full : (n : ℕ) (s : Segments) (p : Place) (t : Tree) → tree_at n s p ≡ Some t → AllByRecursion (AreThere s) (behind n s p)
unfolding tree_at behind
behind_full zero s p t e = let x = bind_found (found_at s p) _ t e in (head_full s p x.0 x.1).1
behind_full (suc n) s p t e =
    let x = bind_found (found_at s p) _ t e in
    let inner = object_full s (tree_at n s) (behind n s) (λ q u f. behind_full n s q u f) x.0.object t x.2 in
    all_both (AreThere s) (pads_at s p) _ (head_full s p x.0 x.1).1 (subst (λ (r : Result Found Kind). AllByRecursion (AreThere s) (covered_found (covered_object s (behind n s)) r)) (sym x.1) inner)

pub value_full : (n : ℕ) (s : Segments) (p : Place) (t : Tree) → tree_at n s p ≡ Some t → AllByRecursion (AreThere s) (span p 1 ∷ behind n s p)
unfolding tree_at
value_full zero s p t e = let x = bind_found (found_at s p) _ t e in ((head_full s p x.0 x.1).0, behind_full zero s p t e)
value_full (suc n) s p t e = let x = bind_found (found_at s p) _ t e in ((head_full s p x.0 x.1).0, behind_full (suc n) s p t e)

-- ---- by words

word_of : (xs : List ℕ) (k n j : ℕ) → k ≤ j → j < k + n → k + n ≤ length xs → (w : ℕ) × (slice_get xs j ≡ Some w)
word_of [] k n j a b c = absurd (omega (arith, a, b, c))
word_of (x ∷ xs) k n zero a b c = (x, refl)
word_of (x ∷ xs) zero n (suc j) a b c = word_of xs zero (length xs) j (omega arith) (omega (arith, b, c)) (omega arith)
word_of (x ∷ xs) (suc k) n (suc j) a b c = word_of xs k n j (omega (arith, a)) (omega (arith, b)) (omega (arith, c))

span_there : (s : Segments) (p : Place) (n : ℕ) (ws : List ℕ) (q : Place) → words_at s p n ≡ Some ws → 0 < held p n q → (w : ℕ) × (word_at s q ≡ Some w)
span_there s p n ws q e h =
    let x = bind_some (slice_get s p.segment) _ ws e in
    let g = provided_some _ _ _ x.2 in
    let fits = leb-true _ _ g.0 in
    let y = word_of x.0 p.position n q.position (held_low p n q h) (held_high p n q h) fits in
    let is : slice_get s q.segment ≡ Some x.0 = ap (slice_get s) (sym (held_segment p n q h)) ∙ x.1 in
    (y.0, rw is y.1)

there_by : (s : Segments) (x : Span) (xs : List Span) (q : Place) (a b : ℕ) → held x.start x.words q ≡ a → times_held xs q ≡ b → 0 < a + b → AreThere s x → ((0 < times_held xs q) → (w : ℕ) × (word_at s q ≡ Some w)) → (w : ℕ) × (word_at s q ≡ Some w)
there_by s x xs q (suc a) b ea eb h t rest = span_there s x.start x.words t.0 q t.1 (omega (arith, ea))
there_by s x xs q zero b ea eb h t rest = rest (omega (arith, eb, h))

-- each word of spans that are there is there
pub words_there : (s : Segments) (xs : List Span) (q : Place) → AllByRecursion (AreThere s) xs → 0 < times_held xs q → (w : ℕ) × (word_at s q ≡ Some w)
words_there s [] q a h = absurd (omega (arith, h))
words_there s (x ∷ xs) q a h = there_by s x xs q (held x.start x.words q) (times_held xs q) refl refl (let e = held_is x.start x.words xs q in omega (arith, h, e)) a.0 (words_there s xs q a.1)

-- spans that are there keep their words, where each is kept
pub spans_kept : (s u : Segments) (xs : List Span) → Grows s u → ((q : Place) (w : ℕ) → 0 < times_held xs q → word_at s q ≡ Some w → word_at u q ≡ Some w) → AllByRecursion (Keeps s u) xs
spans_kept s u xs g h = all_kept s u g xs h
