-- The front of a source. (Cap'n Proto's schema language; lexer.c++ of the compiler)
use Rattle.std.specs.Prelude.{ℕ, ◌+◌, ◌-◌, ◌==◌, ◌&&◌, ◌||◌, not, Bool, true, false, Option, Some, None, option_map, List, [], ◌∷◌, length, take, drop, slice_index, if◌then◌else◌, position}
use Rattle.std.specs.List.{prefix_len}
use Rattle.std.specs.Char.{is_ascii_digit}
use Rattle.capnp_source_text.specs.Bytes.{is_space, is_name_start, is_operator_byte, is_in}
use Rattle.capnp_source_text.specs.declared.bytes.ByteClass.TheVariants as C
use Rattle.capnp_source_text.specs.declared.lexemes.Lexeme.{Lexeme}
use Rattle.capnp_source_text.specs.declared.lexemes.TokenKind.{TokenKind}
use Rattle.capnp_source_text.specs.declared.lexemes.TokenKind.TheVariants as K

-- The end of blanks, n bytes of which were passed: white space, and comments from # to the end of the line.
abbrev pub blanks_end : ℕ → Bool → List ℕ → ℕ
blanks_end n in_comment [] = n
blanks_end n in_comment (b ∷ bs) =
    if in_comment then blanks_end (n + 1) (not (b == 10)) bs
    else (if b == 35 then blanks_end (n + 1) true bs
    else (if is_space b then blanks_end (n + 1) false bs
    else n))

-- Whether the front of a number ends in the letter of an exponent; hexadecimal digits have none.
abbrev pub ends_in_exponent : List ℕ → Bool
ends_in_exponent bs =
    not ((slice_index bs 0 == 48) && (slice_index bs 1 == 120))
    && ((slice_index bs (length bs - 1) == 101) || (slice_index bs (length bs - 1) == 69))

-- The number of bytes of a number: digits, letters and points, and after the letter of an exponent a sign and more of
-- them.
abbrev pub number_length : List ℕ → ℕ
number_length bs =
    let n = prefix_len (is_in C.Number) bs in
    if ends_in_exponent (take n bs) && ((slice_index bs n == 43) || (slice_index bs n == 45))
    then n + 1 + prefix_len (is_in C.Number) (drop (n + 1) bs)
    else n

-- The place of the quote that ends a text, from n on, or `None` if the line or the source ends first. The byte after a
-- backslash doesn't end it.
abbrev pub closing_place : ℕ → Bool → List ℕ → Option ℕ
closing_place n is_escaped [] = None
closing_place n is_escaped (b ∷ bs) =
    if b == 10 then None
    else (if (b == 34) && not is_escaped then Some n
    else closing_place (n + 1) ((b == 92) && not is_escaped) bs)

-- A token of a kind and a length.
abbrev pub lexeme : TokenKind → ℕ → Lexeme
lexeme k n = record { kind = k; len = n }

-- A text: the bytes between the quotes, and two quotes.
abbrev pub text_lexeme : List ℕ → Option Lexeme
text_lexeme inside = option_map (λ n. lexeme K.Text (n + 2)) (closing_place 0 false inside)

-- Bytes: the bytes between the quotes, 0x and two quotes.
abbrev pub bytes_lexeme : List ℕ → Option Lexeme
bytes_lexeme inside = option_map (λ n. lexeme K.Bytes (n + 4)) (position (λ b. b == 34) inside)

-- The tokens of one byte: ( ) [ ] { } , ;
abbrev pub mark_of : ℕ → Option TokenKind
mark_of b =
    if b == 40 then Some K.OpenParenthesis
    else (if b == 41 then Some K.CloseParenthesis
    else (if b == 91 then Some K.OpenBracket
    else (if b == 93 then Some K.CloseBracket
    else (if b == 123 then Some K.OpenBrace
    else (if b == 125 then Some K.CloseBrace
    else (if b == 44 then Some K.Comma
    else (if b == 59 then Some K.Semicolon
    else None)))))))

-- A token that begins with this byte, which is not a quote.
abbrev pub plain_lexeme : List ℕ → ℕ → Option Lexeme
plain_lexeme bs b =
    if is_name_start b then Some (lexeme K.Name (prefix_len (is_in C.Name) bs))
    else (if is_ascii_digit b then Some (lexeme K.Number (number_length bs))
    else (if is_operator_byte b then Some (lexeme K.Operator (prefix_len (is_in C.Operator) bs))
    else option_map (λ k. lexeme k 1) (mark_of b)))

-- Whether bytes begin with 0x and a quote.
abbrev pub begins_bytes : List ℕ → Bool
begins_bytes bs = (slice_index bs 0 == 48) && (slice_index bs 1 == 120) && (slice_index bs 2 == 34)

-- The token at the front of a source, if there is one.
abbrev pub lexeme_of : List ℕ → Option Lexeme
lexeme_of bs =
    if length bs == 0 then None
    else (if slice_index bs 0 == 34 then text_lexeme (drop 1 bs)
    else (if begins_bytes bs then bytes_lexeme (drop 3 bs)
    else plain_lexeme bs (slice_index bs 0)))
