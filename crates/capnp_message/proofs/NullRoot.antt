-- The root of a message that is built.
use Rattle.std.proofs.Common.{◌≡◌, ℕ, zero, suc, ◌+◌, ◌≤◌, Bool, true, false, if◌then◌else◌, [], ◌∷◌, Some, refl, arith}
use Rattle.capnp_model.specs.Segments.{Place, root}
use Rattle.capnp_model.specs.Trees.{null}
use Rattle.capnp_model.specs.Traversal.{tree_at}
use Rattle.capnp_model.specs.Coverage.{span, holds}
use Rattle.capnp_model_writes.specs.Footprints.{Owns, behind, footprint}

at_most_once : (b : Bool) → (if b then 1 else 0) + 0 ≤ 1
at_most_once true = omega arith
at_most_once false = omega arith

once : (n : ℕ) (q : Place) → footprint n ((0 ∷ []) ∷ []) root q ≤ 1
unfolding behind
once zero q = at_most_once (holds (span root 1) q)
once (suc n) q = at_most_once (holds (span root 1) q)

means : (n : ℕ) → tree_at n ((0 ∷ []) ∷ []) root ≡ Some null
unfolding tree_at
means zero = refl
means (suc n) = refl

pub null_root : (n : ℕ) → Owns n ((0 ∷ []) ∷ []) root null
null_root n = record { means = means n; apart = once n }
