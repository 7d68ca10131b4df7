-- Messages of one segment in the framing of streams. (Cap'n Proto's encoding, "Serialization Over a Stream")
use Rattle.std.specs.Prelude.{ℕ, ◌≡◌, ◌≤◌, ◌-◌, ◌^◌, List, [], ◌∷◌, ◌++◌, length}
use Rattle.std.specs.Int.{w32, w64, to_le_bytes}

-- Bytes that words follow, each with its lowest byte first.
abbrev pub with_words : List ℕ → List ℕ → List ℕ
with_words bytes [] = bytes
with_words bytes (word ∷ words) = with_words (bytes ++ to_le_bytes w64 word) words

-- The header says that there is one segment, and how many words it has. The words follow.
abbrev pub framed : List ℕ → List ℕ
framed words = with_words ((0 ∷ 0 ∷ 0 ∷ 0 ∷ []) ++ to_le_bytes w32 (length words)) words

-- A header and just as many words as it says, as many as a pointer can name.
abbrev pub IsFramed : List ℕ → Type 0
IsFramed bytes = (words : List ℕ) × (length words ≤ 2 ^ 29 - 1) × (bytes ≡ framed words)
