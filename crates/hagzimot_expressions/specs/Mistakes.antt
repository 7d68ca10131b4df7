-- Mistakes in expressions, and their places.
use Rattle.std.specs.Prelude.{◌≡◌, ℕ, ◌+◌, ◌≤◌, ◌⊎◌, ◌==◌, min, not, Bool, ⊤, List, length, take, filter, bit_and, slice_range, []}
use Rattle.std.specs.Str.{IsCharBoundary}
use Rattle.hagzimot_expressions.specs.declared.mistakes.ExpressionFault.{ExpressionFault}
use Rattle.hagzimot_expressions.specs.declared.mistakes.ExpressionFault.TheVariants as fault
use Rattle.hagzimot_expressions.specs.declared.mistakes.Place.{Place}
use Rattle.hagzimot_expressions.specs.declared.mistakes.Wrong.{Wrong}
use Rattle.hagzimot_expressions.specs.declared.tree.Span.{Span}

-- The fault is this mistake at a place, or memory is wanted.
abbrev pub IsMistakeAt : Span → Wrong → ExpressionFault → Type 0
IsMistakeAt span wrong (fault.Mistake m) = (m.span ≡ span) × (m.wrong ≡ wrong)
IsMistakeAt span wrong fault.Memory = ⊤

-- The fault is a mistake at a place in the text, or memory is wanted.
abbrev pub IsMistakeIn : List ℕ → ExpressionFault → Type 0
IsMistakeIn text (fault.Mistake m) = (m.span.start ≤ m.span.end) × (m.span.end ≤ length text)
IsMistakeIn text fault.Memory = ⊤

-- A byte is the first of a character. (UTF-8: the others begin with the bits 10)
abbrev pub starts_character : ℕ → Bool
starts_character b = not (bit_and b 192 == 128)

-- The number of the character at a place, counted from 1.
abbrev pub column_of : List ℕ → ℕ → ℕ
column_of text start = length (filter starts_character (take (min start (length text)) text)) + 1

-- The part of a text at a place: its bytes, if the place begins and ends between characters.
pub record IsPart (text : List ℕ) (span : Span) (part : List ℕ) : Type 0 where
  pub there : span.start ≤ span.end → IsCharBoundary text span.start → IsCharBoundary text span.end → part ≡ slice_range text span.start span.end
  pub nothing_else : (part ≡ []) ⊎ (part ≡ slice_range text span.start span.end)
