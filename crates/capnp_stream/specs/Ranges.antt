-- Where segments lie in a buffer. (Encoding, "Serialization Over a Stream")
use Rattle.std.specs.Prelude.{ℕ, ◌+◌, ◌-◌, ◌*◌, List, [], ◌∷◌, map, slice_range}

-- Where segments of these lengths lie, one after the other from a word on.
abbrev pub ranges_from : ℕ → List ℕ → List (ℕ × ℕ)
ranges_from at [] = []
ranges_from at (n ∷ ns) = (at, at + n) ∷ ranges_from (at + n) ns

-- How many words each range has.
abbrev pub range_lengths : List (ℕ × ℕ) → List ℕ
range_lengths ranges = map (λ r. r.1 - r.0) ranges

-- The bytes of ranges of words.
abbrev pub bytes_at : List ℕ → List (ℕ × ℕ) → List (List ℕ)
bytes_at bytes ranges = map (λ r. slice_range bytes (8 * r.0) (8 * r.1)) ranges
