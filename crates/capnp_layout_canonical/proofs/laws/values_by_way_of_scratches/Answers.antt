-- A scratch's new value is what was read, and a copy of it is made.
use Rattle.std.proofs.Common.{◌≡◌, ℕ, Some}
use Rattle.capnp_model.specs.Segments.{Segments, Place}
use Rattle.capnp_model.specs.Trees.{Tree}
use Rattle.capnp_model.specs.Traversal.{tree_at}
use Rattle.capnp_layout_canonical.proofs.Scratches.{puts_struct, puts_list}
use Rattle.capnp_layout_canonical.proofs.laws.values_by_way_of_scratches.Goals as goal

pub returns-clause-structs : goal.returns-clause-structs
returns-clause-structs c = puts_struct one c.values_after_copies.ensures.copied
  where
    one : (n m : ℕ) (s : Segments) (p : Place) (t v : Tree) → tree_at n s p ≡ Some t → tree_at m s p ≡ Some v → t ≡ v
    one n m s p t v x y = c.values_as_a_relation.ensures.one n m s p t v (c.values_as_a_relation.ensures.meant n s p t x) (c.values_as_a_relation.ensures.meant m s p v y)

pub returns-clause-lists : goal.returns-clause-lists
returns-clause-lists c = puts_list one c.values_after_copies.ensures.copied
  where
    one : (n m : ℕ) (s : Segments) (p : Place) (t v : Tree) → tree_at n s p ≡ Some t → tree_at m s p ≡ Some v → t ≡ v
    one n m s p t v x y = c.values_as_a_relation.ensures.one n m s p t v (c.values_as_a_relation.ensures.meant n s p t x) (c.values_as_a_relation.ensures.meant m s p v y)
