-- Pointers in a row that are the children of an object.
use Rattle.std.specs.Prelude.{◌≡◌, ℕ, ◌+◌, ◌<◌, ◌≤◌, Some}
use Rattle.capnp_model.specs.Segments.{Segments, Place, after}
use Rattle.capnp_model.specs.Pointers.{Object}
use Rattle.capnp_model.specs.Trees.{Tree, Trees, child, with_child, tree_count}
use Rattle.capnp_model.specs.Traversal.{tree_of, tree_at}
use Rattle.capnp_model_writes.specs.Footprints.{footprint, object_footprint, Owns, OwnsObject}
use Rattle.capnp_model_writes.specs.Changes.{Changes}

-- A change of the pointer at a place, whatever changes with it, makes this value of the object that has it.
abbrev pub Lifts : ℕ → Segments → Segments → Place → Object → Tree → Type 0
Lifts n u w a o v = (e f : Place → ℕ) → ((q : Place) → object_footprint n u o q + e q ≤ 1) → Changes u w (λ q. footprint n u a q + e q) (λ q. footprint n w a q + f q) → (tree_of w (tree_at n w) o ≡ Some v) × Changes u w (λ q. object_footprint n u o q + e q) (λ q. object_footprint n w o q + f q)

-- n pointers from a place on are children of the object, whose value is made of theirs.
pub record IsRowOf (n : ℕ) (o : Object) (r : Place) (k : ℕ) (v : Trees → Tree) : Type 0 where
  pub counted : (u : Segments) (kids : Trees) → OwnsObject n u o (v kids) → tree_count kids ≡ k
  pub owned : (u : Segments) (kids : Trees) (i : ℕ) → i < k → OwnsObject n u o (v kids) → Owns n u (after r i) (child kids i)
  pub inside : (u : Segments) (kids : Trees) (i : ℕ) → i < k → OwnsObject n u o (v kids) → (q : Place) → footprint n u (after r i) q ≤ object_footprint n u o q
  pub lifts : (u w : Segments) (kids : Trees) (i : ℕ) (t : Tree) → i < k → OwnsObject n u o (v kids) → tree_at n w (after r i) ≡ Some t → Lifts n u w (after r i) o (v (with_child kids i t))
