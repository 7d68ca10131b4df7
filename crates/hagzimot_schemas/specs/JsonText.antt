-- Parts of JSON texts.
use Rattle.std.specs.Prelude.{ℕ, ◌==◌, ◌/◌, ◌%◌, false, if◌then◌else◌, List, [], ◌∷◌, ◌++◌, codes, encode_utf8}
use Rattle.std.specs.Char.{is_ascii_control}
use Rattle.std.specs.Fmt.{digit_glyph}

-- How a character stands in a text between double quotes. (JSON, "Strings")
abbrev pub char_told : ℕ → List ℕ
char_told c = if c == 34 then codes "\\\"" else if c == 92 then codes "\\\\" else if c == 10 then codes "\\n" else if c == 13 then codes "\\r" else if c == 9 then codes "\\t"
    else if is_ascii_control c then codes "\\u00" ++ (digit_glyph false (c / 16) ∷ digit_glyph false (c % 16) ∷ [])
    else encode_utf8 c
