-- The canonical copy of a value passes the test for canonical messages.
use Rattle.std.proofs.Common.{◌≡◌, ℕ, zero, suc, ◌^◌, ◌<◌, ◌≤◌, true, false, List, [], ◌∷◌, ◌++◌, length, Some, refl, ap, subst, sym, arith}
use Rattle.std.specs.List.{slice_get}
use Rattle.std.proofs.lemmas.List.{append-nil}
use Rattle.capnp_model.specs.Segments.{Segments, Place, root, words_at}
use Rattle.capnp_model.specs.Trees.{Tree, Trees, Elements, null, capability, structure, plain_list, pointer_list, struct_list, none, ◌▸◌, no_elements, element, resized, depth, has_capability, have_capability, elements_have_capability}
use Rattle.capnp_model.specs.Trimming.{after_stripping, stripped, common_pointers, with_pointers, trim, trim_each, trim_elements}
use Rattle.capnp_model.specs.Traversal.{tree_at, cost_at}
use Rattle.capnp_model.specs.Encoding.{canonical_words}
use Rattle.capnp_model.specs.Fits.{Fits}
use Rattle.capnp_model.specs.Canonical.{is_canonical_at, is_canonical_message}
use Rattle.capnp_model.proofs.lemmas.Holding.{holds_words}
use Rattle.capnp_model.proofs.lemmas.RoundTrip.{enc_means_first}
use Rattle.capnp_model.proofs.lemmas.TrimTwice.{trim-trim}
use Rattle.capnp_model.proofs.lemmas.Canonical.{canonical_means}
use Rattle.capnp_model.proofs.lemmas.CanonicalTests.{test_canonical, test_message}
use Rattle.capnp_model.proofs.lemmas.Tests.{neither}

free_after : (t : Tree) (ts : Trees) → has_capability t ≡ false → have_capability ts ≡ false → have_capability (after_stripping t ts) ≡ false
unfolding has_capability
free_after null none e f = refl
free_after null (t ▸ ts) e f = f
free_after (capability i) ts e f = absurd cc
free_after (structure d n k) ts e f = rw (e, f) refl
free_after (plain_list z n k) ts e f = f
free_after (pointer_list k) ts e f = rw (e, f) refl
free_after (struct_list d k es) ts e f = rw (e, f) refl

free_stripped : (ts : Trees) → have_capability ts ≡ false → have_capability (stripped ts) ≡ false
unfolding has_capability
free_stripped none e = refl
free_stripped (t ▸ ts) e = let b = neither (has_capability t) (have_capability ts) e in free_after t (stripped ts) b.0 (free_stripped ts b.1)

pub free_resized : (p : ℕ) (ts : Trees) → have_capability ts ≡ false → have_capability (resized p ts) ≡ false
unfolding has_capability
free_resized zero ts e = refl
free_resized (suc p) none e = free_resized p none refl
free_resized (suc p) (t ▸ ts) e = let b = neither (has_capability t) (have_capability ts) e in rw (b.0, free_resized p ts b.1) refl

free_with_pointers : (p : ℕ) (es : Elements) → elements_have_capability es ≡ false → elements_have_capability (with_pointers p es) ≡ false
unfolding has_capability
free_with_pointers p no_elements e = refl
free_with_pointers p (element n ts es) e = let b = neither (have_capability ts) (elements_have_capability es) e in rw (free_resized p ts b.0, free_with_pointers p es b.1) refl

mutual
  unfolding has_capability trim

  -- a trimmed value has no further capability
  pub free_trim : (t : Tree) → has_capability t ≡ false → has_capability (trim t) ≡ false
  free_trim null e = refl
  free_trim (capability i) e = absurd cc
  free_trim (structure d n ts) e = free_stripped (trim_each ts) (free_trim_each ts e)
  free_trim (plain_list z n k) e = refl
  free_trim (pointer_list ts) e = free_trim_each ts e
  free_trim (struct_list d k es) e = free_with_pointers (common_pointers (trim_elements es)) (trim_elements es) (free_trim_elements es e)

  free_trim_each : (ts : Trees) → have_capability ts ≡ false → have_capability (trim_each ts) ≡ false
  free_trim_each none e = refl
  free_trim_each (t ▸ ts) e = let b = neither (has_capability t) (have_capability ts) e in rw (free_trim t b.0, free_trim_each ts b.1) refl

  free_trim_elements : (es : Elements) → elements_have_capability es ≡ false → elements_have_capability (trim_elements es) ≡ false
  free_trim_elements no_elements e = refl
  free_trim_elements (element n ts es) e = let b = neither (have_capability ts) (elements_have_capability es) e in rw (free_trim_each ts b.0, free_trim_elements es b.1) refl

-- THE LAW
pub copy_is_canonical : (n : ℕ) (s : Segments) (p : Place) (t : Tree) → tree_at n s p ≡ Some t → cost_at n s p < 2 ^ 29 → has_capability t ≡ false → is_canonical_message n (canonical_words (trim t) ∷ []) ≡ true
copy_is_canonical n s p t e l h = test_message n (canonical_words (trim t) ∷ []) (trim t) (canonical_means n s p t e l) (free_trim t h) (ap (λ (x : Tree). canonical_words x ∷ []) (sym (trim-trim t)))

-- a first segment that begins with the words of a trimmed value passes the test
pub begins_canonical : (n : ℕ) (s : Segments) (t : Tree) (more : List ℕ) → Fits t → depth t ≤ n → length (canonical_words t) ≤ 2 ^ 29 → has_capability t ≡ false → trim t ≡ t → slice_get s 0 ≡ Some (canonical_words t ++ more) → is_canonical_at n s root ≡ true
begins_canonical n s t more f l small h e there =
    let is : canonical_words (trim t) ≡ canonical_words t = ap canonical_words e in
    let own : words_at s root (length (canonical_words t)) ≡ Some (canonical_words t) = holds_words s more (canonical_words t) (length (canonical_words t)) there (record { rest = []; parts = sym (append-nil (canonical_words t)); within = omega arith }) refl in
    test_canonical n s root t (enc_means_first t n s more f l small there) h (subst (λ (ws : List ℕ). words_at s root (length ws) ≡ Some ws) (sym is) own)
