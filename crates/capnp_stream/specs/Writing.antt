-- Segments that are written. (Encoding, "Serialization Over a Stream")
use Rattle.std.specs.Prelude.{◌≡◌, ℕ, ◌<◌, ◌*◌, ◌%◌, ◌^◌, List, length, All}

-- Whole words, fewer than 2 ^ 32.
abbrev pub IsSegment : List ℕ → Type 0
IsSegment bytes = (length bytes % 8 ≡ 0) × (length bytes < 8 * 2 ^ 32)

-- Segments that a table can count.
pub record AreWritable (segments : List (List ℕ)) : Type 0 where
  pub some : 0 < length segments
  pub few : length segments < 2 ^ 32
  pub words : All IsSegment segments
