-- A pointer that becomes null or a capability.
use Rattle.std.proofs.Common.{◌≡◌, ℕ, zero, suc, ◌+◌, ◌*◌, ◌^◌, ◌<◌, true, false, eqb, List, [], ◌∷◌, Some, Ok, refl, ap, sym, ◌∙◌, subst, arith}
use Rattle.capnp_model.specs.Segments.{Segments, Place, word_at}
use Rattle.capnp_model.specs.Pointers.{a_capability, found_by, found_at}
use Rattle.capnp_model.specs.Trees.{null, capability}
use Rattle.capnp_model.specs.Traversal.{tree_at}
use Rattle.capnp_model.specs.Coverage.{Span, span, pads_by, pad_of, pads_at, times_held}
use Rattle.capnp_model.proofs.lemmas.PointerWords.{capability_says}
use Rattle.capnp_model_writes.specs.Footprints.{behind, footprint}
use Rattle.capnp_model_writes.specs.Changes.{Changes}
use Rattle.capnp_model_writes.specs.Writes.{with_words}
use Rattle.capnp_model_writes.proofs.lemmas.Algebra.{changes_then, changes_alike}
use Rattle.capnp_model_writes.proofs.lemmas.Lift.{value_on}
use Rattle.capnp_model_writes.proofs.lemmas.Nulls.{null_word}
use Rattle.capnp_model_writes.proofs.lemmas.Pointing.{not_zero}
use Rattle.capnp_model_writes.proofs.lemmas.Spans.{held, held_is}
use Rattle.capnp_model_writes.proofs.lemmas.Splices.{splice_rewrites}
use Rattle.capnp_model_writes.proofs.lemmas.Writing.{changes_inside, written_word}
use Rattle.capnp_model_writes.proofs.lemmas.Zeros.{null_footprint}
use Rattle.capnp_copy_arenas.specs.Clearing.{ClearsValue}
use Rattle.capnp_wire_objects.specs.declared.object.Object.{Object}
use Rattle.capnp_wire_objects.specs.declared.object.Object.TheVariants as object
use Rattle.capnp_copy_values.specs.Copies.{BecomesCopy}
use Rattle.capnp_copy_values.specs.Objects.{is_leaf, leaf_value}

pub null_now : (s u : Segments) (p : Place) → ClearsValue s u p → BecomesCopy 0 s u p null
null_now s u p c = λ n t l o. c n t o

module _ (v : Segments) (p : Place) (i : ℕ) (small : i < 2 ^ 32) (there : word_at v p ≡ Some (3 + 2 ^ 32 * i)) where
  capability_found : found_at v p ≡ Ok (record { pads = 0; object = a_capability i })
  capability_found =
      let nz : eqb (3 + 2 ^ 32 * i) 0 ≡ false = not_zero (3 + 2 ^ 32 * i) (omega arith) in
      rw (there, nz) (ap (found_by v p) (capability_says i small))

  capability_read : (n : ℕ) → tree_at n v p ≡ Some (capability i)
  unfolding tree_at
  capability_read zero = rw capability_found refl
  capability_read (suc n) = rw capability_found refl

  capability_pads : pads_at v p ≡ []
  capability_pads = ap pads_by there ∙ ap pad_of (capability_says i small)

  capability_behind : (n : ℕ) → behind n v p ≡ []
  unfolding behind
  capability_behind zero = capability_pads
  capability_behind (suc n) = rw (capability_pads, capability_found) refl

  capability_takes : (n : ℕ) (q : Place) → footprint n v p q ≡ held p 1 q
  capability_takes n q = let e : footprint n v p q ≡ times_held (span p 1 ∷ []) q = ap (λ (xs : List Span). times_held (span p 1 ∷ xs) q) (capability_behind n) in omega (arith, e, held_is p 1 [] q)

pub capability_now : (s u v : Segments) (p : Place) (i : ℕ) → i < 2 ^ 32 → ClearsValue s u p → v ≡ with_words u p ((3 + 2 ^ 32 * i) ∷ []) → BecomesCopy 0 s v p (capability i)
capability_now s u v p i small c is = λ n t l o. (
    let r = c n t o in
    let none : word_at u p ≡ Some 0 = null_word n u p r.means in
    let now : word_at v p ≡ Some (3 + 2 ^ 32 * i) = subst (λ (x : Segments). word_at x p ≡ Some (3 + 2 ^ 32 * i)) (sym is) (written_word u p 0 (3 + 2 ^ 32 * i) none) in
    let y = subst (λ (x : Segments). Changes u x (held p 1) (held p 1)) (sym is) (changes_inside u (with_words u p ((3 + 2 ^ 32 * i) ∷ [])) p 1 (held p 1) (held p 1) (splice_rewrites u p ((3 + 2 ^ 32 * i) ∷ [])) (λ q. refl) (λ q. omega arith)) in
    let alike : Changes u v (footprint n u p) (footprint n v p) = changes_alike u v (held p 1) (held p 1) (footprint n u p) (footprint n v p) y (λ q. null_footprint n u p q none) (λ q. capability_takes v p i small now n q) in
    record {
      means = capability_read v p i small now n;
      changes = changes_then s u v (footprint n s p) (footprint n u p) (footprint n v p) r.changes alike (value_on n u p null r.means);
    }
    )

pub leaf_null : (s u : Segments) (p : Place) (o : Object) → is_leaf o ≡ true → ((i : ℕ) → o ≡ object.Capability i → ⊥) → BecomesCopy 0 s u p null → BecomesCopy 0 s u p (leaf_value o)
leaf_null s u p object.Null l h b = b
leaf_null s u p (object.Capability i) l h b = absurd (h i refl)
leaf_null s u p (object.Struct q d k) l h b = absurd cc
leaf_null s u p (object.List q size n) l h b = absurd cc
leaf_null s u p (object.PointerList q n) l h b = absurd cc
leaf_null s u p (object.StructList q words n d k) l h b = absurd cc
