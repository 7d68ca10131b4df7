-- How paths begin.
use Rattle.std.specs.Prelude.{ℕ, ◌≡◌, Bool, true, false, Option, Some, None, List, ◌∷◌}
use Rattle.capnp_model.specs.Calls.{Step, index}

-- The first step is an index.
abbrev pub starts_with_index : List Step → Bool
starts_with_index (index i ∷ path) = true
starts_with_index path = false

-- A path begins with an index before others, or with none.
abbrev pub BeginsWithIndex : List Step → Option (ℕ × List Step) → Type 0
BeginsWithIndex path None = starts_with_index path ≡ false
BeginsWithIndex path (Some p) = path ≡ index p.0 ∷ p.1
