-- Where fields lie in a data section, one behind the other by their ordinals. (Cap'n Proto's encoding document, "Structs"; node-translator.c++ of the compiler)
use Rattle.std.specs.Prelude.{ℕ, ◌+◌, ◌/◌, ◌^◌, ◌≤◌, ◌==◌, Option, None, List, [], ◌∷◌, map, replicate, if◌then◌else◌, Any}
use Rattle.capnp_source_layout.specs.Holes.{place, free}
use Rattle.capnp_source_layout.specs.declared.sections.DataSize.{DataSize}
use Rattle.capnp_source_layout.specs.declared.sections.DataSize.TheVariants as D
use Rattle.capnp_source_layout.specs.declared.sections.SectionFault.{SectionFault}
use Rattle.capnp_source_layout.specs.declared.sections.SectionFault.TheVariants as F

-- The size of a field as a power of two bits.
abbrev pub size_of : DataSize → ℕ
size_of D.Bit = 0
size_of D.Byte = 3
size_of D.TwoBytes = 4
size_of D.FourBytes = 5
size_of D.EightBytes = 6

-- The holes of a section: one of each size below a word.
abbrev pub no_holes : List (Option ℕ)
no_holes = replicate 6 None

-- The offsets of fields, each in fields of its size: each field takes the first place that is left.
abbrev pub offsets_from : ℕ → List (Option ℕ) → List ℕ → List ℕ
offsets_from words holes [] = []
offsets_from words holes (size ∷ sizes) =
    let placed = place size words holes in
    placed.offset ∷ offsets_from placed.words placed.holes sizes

-- What the section is behind them.
abbrev pub words_behind : ℕ → List (Option ℕ) → List ℕ → ℕ
words_behind words holes [] = words
words_behind words holes (size ∷ sizes) = let placed = place size words holes in words_behind placed.words placed.holes sizes

abbrev pub holes_behind : ℕ → List (Option ℕ) → List ℕ → List (Option ℕ)
holes_behind words holes [] = holes
holes_behind words holes (size ∷ sizes) = let placed = place size words holes in holes_behind placed.words placed.holes sizes

-- Fields of these sizes in a section of their own.
abbrev pub offsets_of : List DataSize → List ℕ
offsets_of sizes = offsets_from 0 no_holes (map size_of sizes)

abbrev pub words_of : List DataSize → ℕ
words_of sizes = words_behind 0 no_holes (map size_of sizes)

abbrev pub free_behind : List DataSize → ℕ → ℕ
free_behind sizes bit = free (words_of sizes) (holes_behind 0 no_holes (map size_of sizes)) bit

-- In how many of the fields a bit lies, by their sizes and offsets.
abbrev pub fields_at : List ℕ → List ℕ → ℕ → ℕ
fields_at [] offsets bit = 0
fields_at (size ∷ sizes) [] bit = 0
fields_at (size ∷ sizes) (offset ∷ offsets) bit = (if (bit / 2 ^ size) == offset then 1 else 0) + fields_at sizes offsets bit

-- Fields aren't laid out where an offset would pass 2 ^ 63, or where memory is refused.
abbrev pub IsSectionFault : List DataSize → SectionFault → Type 0
IsSectionFault sizes F.TooLarge = Any (λ offset. 2 ^ 63 ≤ offset) (offsets_of sizes)
IsSectionFault sizes F.Memory = Unit {0}
