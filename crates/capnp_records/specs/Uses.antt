-- What is known of the groups that the fields of nodes are.
use Rattle.std.specs.Prelude.{ℕ, zero, suc, ◌≡◌, ◌==◌, nat_eq, nat_lt, Bool, true, if◌then◌else◌, Option, Some, None, List, [], ◌∷◌}
use Rattle.std.specs.HashMap.{get}
use Rattle.std.specs.List.{list_all, list_any}
use Rattle.capnp_model.specs.Schemas.{Node}
use Rattle.capnp_model.specs.Accepted.{groups_used, uses_of}
use Rattle.capnp_records.specs.declared.groups.GroupUses.{GroupUses}

-- Whether what is there n times is there once.
abbrev pub once_in : ℕ → Option Bool
once_in zero = None
once_in (suc n) = Some (n == 0)

-- The place of the first node of which a field is the group, from a place on.
abbrev pub holder_place : ℕ → ℕ → List Node → Option ℕ
holder_place id i [] = None
holder_place id i (n ∷ ns) = if list_any (λ g. g == id) (groups_used n) then Some i else holder_place id (suc i) ns

-- The depth of an id, 0 without one.
abbrev pub depth_of : Option ℕ → ℕ
depth_of None = 0
depth_of (Some d) = d

-- The depths that are found of ids.
abbrev pub depths_in : (ℕ → Option ℕ) → ℕ → ℕ
depths_in found id = depth_of (found id)

-- The groups that a node's fields are stand deeper than the node.
abbrev pub holds_deeper : (ℕ → ℕ) → Node → Bool
holds_deeper depth n = list_all (λ g. nat_lt (depth n.id) (depth g)) (groups_used n)

-- Each group stands deeper than what holds it.
abbrev pub IsApart : List Node → Type 0
IsApart nodes = (depth : ℕ → ℕ) × (list_all (holds_deeper depth) nodes ≡ true)

-- What is known is that of these nodes.
pub record AreUses (nodes : List Node) (u : GroupUses) : Type 0 where
  pub once : (id : ℕ) → get nat_eq u.once id ≡ once_in (uses_of nodes id)
  pub holders : (id : ℕ) → get nat_eq u.holders id ≡ holder_place id 0 nodes
  pub apart : u.apart ≡ true → IsApart nodes
