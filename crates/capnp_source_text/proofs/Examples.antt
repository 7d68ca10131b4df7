-- Worked examples: what the definitions compute, by the rules of the schema language.
use Rattle.std.proofs.Common.{◌≡◌, Ok, Err, Some, None, false, [], ◌∷◌, refl}
use Rattle.std.specs.Prelude.{codes}
use Rattle.capnp_source_text.specs.declared.integers.IntegerFault.TheVariants.{Malformed, TooLarge}
use Rattle.capnp_source_text.specs.declared.lexemes.TokenKind.TheVariants as K
use Rattle.capnp_source_text.specs.Integers.{integer_of}
use Rattle.capnp_source_text.specs.Lexemes.{blanks_end, lexeme, lexeme_of}
use Rattle.capnp_source_text.specs.Literals.{piece, piece_of, pair_of}
use Rattle.capnp_source_text.specs.Positions.{position_behind}

-- integers of each base; 8 is no octal digit, and 2 ^ 64 takes 65 bits
hexadecimal : integer_of (codes "0x1F") ≡ Ok 31
hexadecimal = refl

octal : integer_of (codes "017") ≡ Ok 15
octal = refl

no_octal : integer_of (codes "08") ≡ Err Malformed
no_octal = refl

no_digit : integer_of (codes "0x") ≡ Err Malformed
no_digit = refl

most : integer_of (codes "18446744073709551615") ≡ Ok 18446744073709551615
most = refl

too_large : integer_of (codes "18446744073709551616") ≡ Err TooLarge
too_large = refl

-- blanks end behind a comment and its line feed
comment : blanks_end 0 false (32 ∷ 35 ∷ 97 ∷ 59 ∷ 10 ∷ 98 ∷ []) ≡ 5
comment = refl

-- tokens at the front
ordinal : lexeme_of (codes "@0x12;") ≡ Some (lexeme K.Operator 1)
ordinal = refl

arrow : lexeme_of (codes "->(") ≡ Some (lexeme K.Operator 2)
arrow = refl

signed_exponent : lexeme_of (codes "1e+5;") ≡ Some (lexeme K.Number 4)
signed_exponent = refl

sum_of_hexadecimals : lexeme_of (codes "0xe+5") ≡ Some (lexeme K.Number 3)
sum_of_hexadecimals = refl

-- "a\"b" with its quotes is six bytes
quoted : lexeme_of (34 ∷ 97 ∷ 92 ∷ 34 ∷ 98 ∷ 34 ∷ 59 ∷ []) ≡ Some (lexeme K.Text 6)
quoted = refl

unended : lexeme_of (34 ∷ 97 ∷ 10 ∷ 34 ∷ []) ≡ None
unended = refl

literal_of_bytes : lexeme_of (48 ∷ 120 ∷ 34 ∷ 48 ∷ 48 ∷ 34 ∷ []) ≡ Some (lexeme K.Bytes 6)
literal_of_bytes = refl

-- escapes: \n, \x41, \101, \7 before an 8, and \400, which is no byte
named : piece_of (92 ∷ 110 ∷ []) ≡ Some (piece 10 2)
named = refl

by_hexadecimal : piece_of (92 ∷ 120 ∷ 52 ∷ 49 ∷ []) ≡ Some (piece 65 4)
by_hexadecimal = refl

by_octal : piece_of (92 ∷ 49 ∷ 48 ∷ 49 ∷ []) ≡ Some (piece 65 4)
by_octal = refl

one_digit : piece_of (92 ∷ 55 ∷ 56 ∷ []) ≡ Some (piece 7 2)
one_digit = refl

no_byte : piece_of (92 ∷ 52 ∷ 48 ∷ 48 ∷ []) ≡ None
no_byte = refl

-- a blank, and two digits
pair : pair_of (32 ∷ 102 ∷ 70 ∷ []) ≡ Some (piece 255 3)
pair = refl

-- a line feed between two bytes
second_line : position_behind (97 ∷ 10 ∷ 98 ∷ []) ≡ record { line = 2; column = 2 }
second_line = refl
