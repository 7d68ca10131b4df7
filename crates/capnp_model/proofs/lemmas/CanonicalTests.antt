-- What the tests for canonical words say.
use Rattle.std.proofs.Common.{◌≡◌, ℕ, Bool, true, false, not, List, [], ◌∷◌, length, Option, Some, None, refl, ap, sym, subst, ◌∙◌}
use Rattle.std.specs.Str.{bytes_eq}
use Rattle.std.proofs.lemmas.Slice.Eq.{bytes_eq-Decides}
use Rattle.capnp_model.specs.Chains.{passes}
use Rattle.capnp_model.specs.Segments.{Segments, Place, root, words_at}
use Rattle.capnp_model.specs.Trees.{Tree, has_capability}
use Rattle.capnp_model.specs.Trimming.{trim}
use Rattle.capnp_model.specs.Traversal.{tree_at}
use Rattle.capnp_model.specs.Encoding.{canonical_words}
use Rattle.capnp_model.specs.Canonical.{canonical_at, is_canonical_at, is_one_segment, is_canonical_message}
use Rattle.capnp_model.proofs.lemmas.Chaining.{bind_some, provided_some}
use Rattle.capnp_model.proofs.lemmas.Tests.{not_true}

passed : {A : Type 0} (test : A → Bool) (o : Option A) → passes test o ≡ true → (x : A) × (o ≡ Some x) × (test x ≡ true)
passed test None e = absurd cc
passed test (Some x) e = (x, refl, e)

-- The canonical words at a place are those of a value without a capability.
canonical_of : (n : ℕ) (s : Segments) (p : Place) (ws : List ℕ) → canonical_at n s p ≡ Some ws → (t : Tree) × (tree_at n s p ≡ Some t) × (has_capability t ≡ false) × (canonical_words (trim t) ≡ ws)
canonical_of n s p ws e =
    let a = bind_some (tree_at n s p) _ ws e in
    let g = provided_some _ _ _ a.2 in
    (a.0, a.1, not_true _ g.0, g.1)

canonical_is_at : (n : ℕ) (s : Segments) (p : Place) (t : Tree) → tree_at n s p ≡ Some t → has_capability t ≡ false → canonical_at n s p ≡ Some (canonical_words (trim t))
canonical_is_at n s p t e h = rw (e, h) refl

one_segment_is : (s : Segments) (ws : List ℕ) → is_one_segment s ws ≡ true → s ≡ ws ∷ []
one_segment_is [] ws e = absurd cc
one_segment_is (x ∷ []) ws e = ap (λ (y : List ℕ). y ∷ []) (sym ((bytes_eq-Decides ws x).0 e))
one_segment_is (x ∷ y ∷ s) ws e = absurd cc

-- THE LAWS
pub canonical_test : (n : ℕ) (s : Segments) (p : Place) → is_canonical_at n s p ≡ true → (t : Tree) × (tree_at n s p ≡ Some t) × (has_capability t ≡ false) × (words_at s p (length (canonical_words (trim t))) ≡ Some (canonical_words (trim t)))
unfolding is_canonical_at
canonical_test n s p e =
    let a = passed _ (canonical_at n s p) e in
    let b = passed (bytes_eq a.0) (words_at s p (length a.0)) a.2 in
    let c = canonical_of n s p a.0 a.1 in
    let is : words_at s p (length a.0) ≡ Some a.0 = b.1 ∙ ap (λ (y : List ℕ). Some y) (sym ((bytes_eq-Decides a.0 b.0).0 b.2)) in
    (c.0, c.1, c.2, subst (λ (y : List ℕ). words_at s p (length y) ≡ Some y) (sym c.3) is)

pub test_canonical : (n : ℕ) (s : Segments) (p : Place) (t : Tree) → tree_at n s p ≡ Some t → has_capability t ≡ false → words_at s p (length (canonical_words (trim t))) ≡ Some (canonical_words (trim t)) → is_canonical_at n s p ≡ true
unfolding is_canonical_at
test_canonical n s p t e h w = rw (canonical_is_at n s p t e h, w) ((bytes_eq-Decides (canonical_words (trim t)) (canonical_words (trim t))).1 refl)

pub message_test : (n : ℕ) (s : Segments) → is_canonical_message n s ≡ true → (t : Tree) × (tree_at n s root ≡ Some t) × (has_capability t ≡ false) × (s ≡ canonical_words (trim t) ∷ [])
unfolding is_canonical_message
message_test n s e =
    let a = passed (is_one_segment s) (canonical_at n s root) e in
    let c = canonical_of n s root a.0 a.1 in
    (c.0, c.1, c.2, one_segment_is s a.0 a.2 ∙ ap (λ (y : List ℕ). y ∷ []) (sym c.3))

pub test_message : (n : ℕ) (s : Segments) (t : Tree) → tree_at n s root ≡ Some t → has_capability t ≡ false → s ≡ canonical_words (trim t) ∷ [] → is_canonical_message n s ≡ true
unfolding is_canonical_message
test_message n s t e h w =
    let is : is_one_segment s (canonical_words (trim t)) ≡ true = rw w ((bytes_eq-Decides (canonical_words (trim t)) (canonical_words (trim t))).1 refl) in
    rw (canonical_is_at n s root t e h) is
