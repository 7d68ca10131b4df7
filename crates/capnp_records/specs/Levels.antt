-- Groups level by level.
use Rattle.std.specs.Prelude.{ℕ, ◌≡◌, Bool, ◌||◌, None, Some, List, []}
use Rattle.std.specs.List.{list_any}
use Rattle.capnp_model.specs.Schemas.{Node}
use Rattle.capnp_model.specs.Accepted.{find_node, groups_used}

-- The groups that the fields of the node of an id are.
abbrev pub groups_below : List Node → ℕ → List ℕ
groups_below nodes id = elim (find_node nodes id) [ None ↦ [] | Some n ↦ groups_used n ]

-- Any test that some id of one list passes, one of the other does.
abbrev pub PassSame : List ℕ → List ℕ → Type 0
PassSame xs ys = (test : ℕ → Bool) → list_any test xs ≡ list_any test ys

-- Behind the old ids there are those more.
abbrev pub PassMore : List ℕ → List ℕ → List ℕ → Type 0
PassMore old new more = (test : ℕ → Bool) → list_any test new ≡ (list_any test old || list_any test more)
