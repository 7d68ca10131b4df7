-- The whole value by its levels.
use Rattle.std.specs.Prelude.{◌≡◌, ℕ, suc, ◌+◌, [], ◌∷◌, Ok, Err}
use Rattle.capnp_model.specs.Kinds.{Kind}
use Rattle.capnp_model.specs.Segments.{Segments, Place}
use Rattle.capnp_model.specs.Traversal.{tree_at, cost_at}
use Rattle.capnp_model.specs.Visits.{visits}
use Rattle.capnp_wire_objects.specs.declared.object.Found.{Found}
use Rattle.capnp_wire_objects.specs.Objects.{object_at}
use Rattle.capnp_wire_objects.specs.Follow.{follow_cost}
use Rattle.capnp_wire_objects.specs.Inside.{tree_in, cost_in, met_in}

-- The tree at a place is that of its object. The pointers of the object have the trees of one level less.
abbrev pub TreesByLevels : Type 0
TreesByLevels = (n : ℕ) (s : Segments) (p : Place) (f : Found) → object_at s p ≡ Ok f → tree_at (suc n) s p ≡ tree_in s (tree_at n s) f.object

-- The cost at a place is that of its object by itself, of the pads, and of the object's pointers.
abbrev pub CostsByLevels : Type 0
CostsByLevels = (n : ℕ) (s : Segments) (p : Place) (f : Found) → object_at s p ≡ Ok f → cost_at (suc n) s p ≡ follow_cost f + cost_in (cost_at n s) f.object

-- A walk from a place follows the pointer, at that cost, and then the pointers in the object.
abbrev pub VisitsByLevels : Type 0
VisitsByLevels = (n : ℕ) (s : Segments) (p : Place) (f : Found) → object_at s p ≡ Ok f → visits (suc n) s p ≡ Ok (follow_cost f) ∷ met_in (visits n s) f.object

-- If there is no object, a walk ends at the fault that says why.
abbrev pub VisitsOfFaults : Type 0
VisitsOfFaults = (n : ℕ) (s : Segments) (p : Place) (k : Kind) → object_at s p ≡ Err k → visits (suc n) s p ≡ Err k ∷ []
