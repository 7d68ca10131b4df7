-- The structs at which one call is looked at.
use Rattle.std.specs.Prelude.{◌≡◌, ℕ, true, List}
use Rattle.capnp_model.specs.Trees.{Tree}
use Rattle.capnp_model.specs.Schemas.{struct, Node}
use Rattle.capnp_model.specs.Accepted.{schema_of, IsAccepted}
use Rattle.capnp_model.specs.InKind.{in_kind}
use Rattle.capnp_model.specs.NamedPaths.{IsOpen}
use Rattle.capnp_model_versions.specs.Whole.{IsWhole}

-- A struct or null as messages hold it, under an accepted schema, with lists in kind.
pub record IsRootInKind (nodes : List Node) (id : ℕ) (t : Tree) : Type 0 where
  pub accepted : IsAccepted nodes
  pub whole : IsWhole t
  pub opens : IsOpen t
  pub kinds : in_kind (schema_of nodes) t (struct id) ≡ true
