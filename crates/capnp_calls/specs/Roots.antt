-- Where calls are made, and how their paths begin.
use Rattle.std.specs.Prelude.{ℕ, ◌≡◌, Bool, true, false, Option, Some, None, List, ◌∷◌}
use Rattle.capnp_model.specs.Trees.{Tree}
use Rattle.capnp_model.specs.Readings.{Record, record_of}
use Rattle.capnp_model.specs.Calls.{Step, name}
use Rattle.capnp_records.specs.Sets.{IsStructOf}
use Rattle.capnp_values_queries.specs.Structs.{nodes_around, schema_around, id_of}
use Rattle.capnp_values_queries.specs.declared.structs.StructSchema.{StructSchema}

-- The root is a struct of its set, and no group.
abbrev pub IsRoot : StructSchema → Type 0
IsRoot root = IsStructOf (nodes_around root) root.raw

-- The first step is a name.
abbrev pub starts_with_name : List Step → Bool
starts_with_name (name n ∷ path) = true
starts_with_name path = false

-- A path begins with a name before others, or with none.
abbrev pub BeginsWith : List Step → Option (List ℕ × List Step) → Type 0
BeginsWith path None = starts_with_name path ≡ false
BeginsWith path (Some p) = path ≡ name p.0 ∷ p.1

-- The record of a struct of this tree.
abbrev pub record_at : StructSchema → Tree → Record
record_at root t = record_of (schema_around root) (id_of root) t
