-- Classes of the single bytes of a schema source. (Cap'n Proto's schema language; lexer.c++ of the compiler)
use Rattle.std.specs.Prelude.{ℕ, ◌+◌, ◌-◌, Bool, ◌||◌, ◌==◌, Option, Some, None, if◌then◌else◌}
use Rattle.std.specs.Char.{is_ascii_digit, is_ascii_alphabetic}
use Rattle.std.specs.Int.{is_in_range}
use Rattle.capnp_source_text.specs.declared.bytes.ByteClass.{ByteClass}
use Rattle.capnp_source_text.specs.declared.bytes.ByteClass.TheVariants as C

-- White space: a blank, a tab, a line feed, a vertical tab, a form feed, a carriage return.
abbrev pub is_space : ℕ → Bool
is_space b = (b == 32) || is_in_range 9 13 b

-- A name begins with a letter or an underscore ..
abbrev pub is_name_start : ℕ → Bool
is_name_start b = is_ascii_alphabetic b || (b == 95)

-- .. and continues with these and digits.
abbrev pub is_name_byte : ℕ → Bool
is_name_byte b = is_name_start b || is_ascii_digit b

-- A number has only these bytes and the point.
abbrev pub is_number_byte : ℕ → Bool
is_number_byte b = is_name_byte b || (b == 46)

-- The bytes of operators: ! $ % & * + - . / : < = > ? @ ^ | ~
abbrev pub is_operator_byte : ℕ → Bool
is_operator_byte b = (b == 33) || is_in_range 36 38 b || is_in_range 42 43 b || is_in_range 45 47 b || (b == 58) || is_in_range 60 64 b || (b == 94) || (b == 124) || (b == 126)

-- The class of the bytes of a token that may have more than one byte.
abbrev pub is_in : ByteClass → ℕ → Bool
is_in C.Name b = is_name_byte b
is_in C.Number b = is_number_byte b
is_in C.Operator b = is_operator_byte b

-- The value of a digit of at most sixteen; letters of either case.
abbrev pub digit_of : ℕ → Option ℕ
digit_of b =
    if is_in_range 48 57 b then Some (b - 48)
    else (if is_in_range 97 102 b then Some (b - 97 + 10)
    else (if is_in_range 65 70 b then Some (b - 65 + 10)
    else None))
