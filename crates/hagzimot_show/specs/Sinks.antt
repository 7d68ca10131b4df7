-- What streams of texts leave in their sinks.
use Rattle.std.specs.Prelude.{◌≡◌, ℕ, ◌+◌, ◌-◌, ◌^◌, min, Option, List, [], ◌∷◌, ◌++◌, length}
use Rattle.std.specs.List.{flat_map}
use Rattle.std.specs.Io.KnownBytes.{Appends}

-- What stood in a sink stands in front of what it has now.
pub record GrowsAtEnd (old new : Option (List ℕ)) : Type 0 where
  pub more : List ℕ
  pub appends : Appends old new more

-- A text, and a line feed behind it.
abbrev pub ended_text : List ℕ → List ℕ
ended_text text = text ++ 10 ∷ []

-- The bytes are a line.
abbrev pub EndsInLineFeed : List ℕ → Type 0
EndsInLineFeed bytes = (text : List ℕ) × (bytes ≡ ended_text text)

-- A sink was given lines, and they were counted: the count goes from one number to another, and stops at 2^64 - 1.
pub record GrowsByLines (before after : ℕ) (old new : Option (List ℕ)) : Type 0 where
  pub texts : List (List ℕ)
  pub counted : min after (2 ^ 64 - 1) ≡ min (before + length texts) (2 ^ 64 - 1)
  pub appends : Appends old new (flat_map ended_text texts)
