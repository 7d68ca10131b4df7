-- The bits of floats that texts spell.
use Rattle.std.specs.Prelude.{◌≡◌, ℕ, ◌%◌, ◌==◌, Bool, false, ◌&&◌, nat_lt, if◌then◌else◌, ◌⊎◌, Option, Some, None, List, [], ◌∷◌, ◌++◌, length, codes, option_and_then, to_bits}
use Rattle.std.specs.Char.{is_ascii_digit, is_ascii_hexdigit}
use Rattle.std.specs.Float.{Float, Format, float_is_finite}
use Rattle.std.specs.List.{list_all}
use Rattle.std.specs.Str.Parse.{digits_value}

-- A text begins with a digit.
abbrev pub begins_with_digit : List ℕ → Bool
begins_with_digit [] = false
begins_with_digit (b ∷ bytes) = is_ascii_digit b

-- A text begins with a digit, behind a minus or not: so numbers do, and no word for a float does.
abbrev pub is_decimal : List ℕ → Bool
is_decimal [] = false
is_decimal (b ∷ bytes) = if b == 45 then begins_with_digit bytes else is_ascii_digit b

-- The bits of a number; none of infinity.
abbrev pub finite_bits : Format → Float → Option ℕ
finite_bits f x = if float_is_finite x then Some (to_bits f x) else None

-- The number that exactly so many hex digits spell.
abbrev pub number_of_hex : ℕ → List ℕ → Option ℕ
number_of_hex count hex = if length hex == count && list_all is_ascii_hexdigit hex then Some (digits_value 16 hex) else None

-- The bits of a NaN that so many hex digits spell: those behind the sign are past infinity's.
abbrev pub nan_of_hex : ℕ → ℕ → ℕ → List ℕ → Option ℕ
nan_of_hex count sign infinity hex = option_and_then (λ bits. if nat_lt infinity (bits % sign) then Some bits else None) (number_of_hex count hex)

-- A text is a word for a float that is no number.
abbrev pub IsFloatWord : List ℕ → Type 0
IsFloatWord text = (text ≡ codes "inf") ⊎ (text ≡ codes "-inf") ⊎ (text ≡ codes "nan") ⊎ ((hex : List ℕ) × (text ≡ codes "nan:" ++ hex))
