-- What a walk over pairs of nodes leaves.
use Rattle.std.specs.Prelude.{ℕ, ◌≡◌, Bool, true, ◌&&◌, ◌==◌, ◌++◌}
use Rattle.std.specs.List.{list_all, list_any}
use Rattle.capnp_model.specs.Schemas.{Schema}
use Rattle.capnp_model.specs.Compatible.{Pairs, has_pair, same_names}
use Rattle.capnp_calls_versions.specs.declared.reached.Reached.{Reached}

-- Each pair of a list is among others.
abbrev pub has_each : Pairs → Pairs → Bool
has_each pairs more = list_all (λ p. has_pair pairs p.0 p.1) more

-- The pairs that are reached.
abbrev pub pairs_of : Reached → Pairs
pairs_of r = r.pairs.items

-- What is seen is what is reached, and enums that are known are related.
pub record IsSound (o n : Schema) (r : Reached) : Type 0 where
  pub seen : (i j : ℕ) → list_any (λ p. i == p.0 && j == p.1) r.seen.keys ≡ has_pair (pairs_of r) i j
  pub names : (i j : ℕ) → list_any (λ p. i == p.0 && j == p.1) r.related.keys ≡ true → same_names (o.names_of i) (n.names_of j) ≡ true

-- The first pairs of a list are others.
pub record IsFront (front all : Pairs) : Type 0 where
  pub rest : Pairs
  pub parts : all ≡ front ++ rest
