-- Copies of the segments of a message.
use Rattle.std.specs.Prelude.{◌≡◌, ℕ, ◌*◌, ◌%◌, ◌^◌, ◌<◌, ◌≤◌, List, length, All}
use Rattle.capnp_units.specs.Segments.{words_in}

-- Whole words, fewer than 2^29, as bytes.
abbrev pub IsWholeSegment : List ℕ → Type 0
IsWholeSegment bytes = (length bytes % 8 ≡ 0) × (length bytes < 8 * 2 ^ 29)

-- The whole words of segments, 511 at most, each small enough.
pub record CopiesWholeWords (segments copies : List (List ℕ)) : Type 0 where
  pub words : words_in copies ≡ words_in segments
  pub few : length copies ≤ 511
  pub small : All IsWholeSegment copies
