-- The free places of a data section. (Cap'n Proto's encoding document, "Structs"; node-translator.c++ of the compiler)
--
-- The holes of a section stand in a list, one of each size at most: first a bit, then two bits, and so on up to half a word. A hole is told by its offset in places of its size. All words from the section's end on are free as well.
use Rattle.std.specs.Prelude.{ℕ, zero, suc, ◌+◌, ◌*◌, ◌/◌, ◌==◌, Option, Some, None, List, [], ◌∷◌, nat_le, if◌then◌else◌}

-- What is handed out, and what is left.
pub record Placed : Type 0 where
  pub offset : ℕ
  pub words : ℕ
  pub holes : List (Option ℕ)

-- The first place of a size, from the holes of that size and larger ones: a hole of the size, else the front half of a place of twice the size, whose other half becomes a hole. Behind the largest holes a word is added.
abbrev pub first_place : ℕ → List (Option ℕ) → Placed
first_place words [] = record { offset = words; words = words + 1; holes = [] }
first_place words (Some hole ∷ holes) = record { offset = hole; words = words; holes = None ∷ holes }
first_place words (None ∷ holes) =
    let twice = first_place words holes in
    record { offset = 2 * twice.offset; words = twice.words; holes = Some (2 * twice.offset + 1) ∷ twice.holes }

-- A place of 2 ^ size bits. Smaller holes stay.
abbrev pub place : ℕ → ℕ → List (Option ℕ) → Placed
place zero words holes = first_place words holes
place (suc size) words [] = first_place words []
place (suc size) words (hole ∷ holes) =
    let placed = place size words holes in
    record { offset = placed.offset; words = placed.words; holes = hole ∷ placed.holes }

-- Whether a hole is at a place: 1 where it is.
abbrev pub is_at : ℕ → Option ℕ → ℕ
is_at place None = 0
is_at place (Some hole) = if place == hole then 1 else 0

-- How often a place is free, where the list begins with the hole of its size: in holes of its size, in larger ones, and in the words behind the section.
abbrev pub free : ℕ → List (Option ℕ) → ℕ → ℕ
free words [] place = if nat_le words place then 1 else 0
free words (hole ∷ holes) place = is_at place hole + free words holes (place / 2)
