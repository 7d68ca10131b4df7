-- The words of a message's value within bounds. (Encoding, "Canonicalization")
use Rattle.std.specs.Prelude.{◌≡◌, ℕ, ◌^◌, ◌<◌, ◌≤◌, Bool, true, false, List, [], ◌∷◌, Option, Some, None, length}
use Rattle.capnp_model.specs.Segments.{Segments}
use Rattle.capnp_model.specs.Trees.{Tree, null, structure, depth}
use Rattle.capnp_model.specs.Fits.{Fits}
use Rattle.capnp_model.specs.Trimming.{trim}
use Rattle.capnp_model.specs.Encoding.{canonical_words}
use Rattle.capnp_model.specs.Answers.{value_within}
use Rattle.capnp_wire_canonical.specs.Writes.{filled}
use Rattle.capnp_relay_answers.specs.Bounds.{limits_view}
use Rattle.capnp_relay_answers.specs.declared.bounds.Bounds.{Bounds}

-- Whether calls can run at a value: a struct, or null.
abbrev pub can_be_opened : Tree → Bool
can_be_opened null = true
can_be_opened (structure words section kids) = true
can_be_opened _ = false

-- The first words of a buffer are the canonical words of a message's value within the bounds.
pub record ReadsValue (bounds : Bounds) (s : Segments) (into : List (List ℕ)) (count : ℕ) : Type 0 where
  pub value : Tree
  pub within : value_within (limits_view bounds) s ≡ Some value
  pub fits : Fits (trim value)
  pub deep : depth (trim value) ≤ bounds.nesting
  pub words : filled count into ≡ canonical_words (trim value)
  pub inside : count ≤ length into
  pub some : 0 < count
  pub few : count < 2 ^ 29

-- What is read of a message: the canonical words of its value within the bounds where there is such
-- a value, and nothing where there is none.
abbrev pub ReadsWithinBounds : Bounds → Segments → List (List ℕ) → Option ℕ → Type 0
ReadsWithinBounds bounds s into None = value_within (limits_view bounds) s ≡ None
ReadsWithinBounds bounds s into (Some count) = ReadsValue bounds s into count

-- A message is one segment, of the canonical words of its value, which is within the bounds.
pub record StandsCanonical (bounds : Bounds) (s : Segments) : Type 0 where
  pub value : Tree
  pub within : value_within (limits_view bounds) s ≡ Some value
  pub fits : Fits (trim value)
  pub deep : depth (trim value) ≤ bounds.nesting
  pub alone : s ≡ canonical_words (trim value) ∷ []
  pub few : length (canonical_words (trim value)) < 2 ^ 29
