-- Values of texts and of literals of bytes. (Cap'n Proto's schema language; lexer.c++ of the compiler)
use Rattle.std.specs.Prelude.{◌≡◌, ℕ, ◌+◌, ◌-◌, ◌*◌, ◌==◌, ◌||◌, Bool, true, false, Option, Some, None, option_map, option_and_then, is_some, List, [], ◌∷◌, length, drop, slice_index, nat_lt, if◌then◌else◌}
use Rattle.std.specs.Int.{is_in_range}
use Rattle.std.specs.List.{prefix_len}
use Rattle.capnp_source_text.specs.Bytes.{is_space, digit_of}
use Rattle.capnp_source_text.specs.declared.literals.Piece.{Piece}
use Rattle.capnp_source_text.specs.declared.literals.LiteralFault.{LiteralFault}
use Rattle.capnp_source_text.specs.declared.literals.LiteralFault.TheVariants as F

-- A byte that takes n bytes of the source.
abbrev pub piece : ℕ → ℕ → Piece
piece b n = record { byte = b; len = n }

-- The octal digit at a place.
abbrev pub octal_at : List ℕ → ℕ → Option ℕ
octal_at bs k = if is_in_range 48 55 (slice_index bs k) then Some (slice_index bs k - 48) else None

-- The byte that a letter or sign after a backslash means: a b t n v f r are 7 to 13, and the two quotes, ? and \
-- themselves.
abbrev pub named_escape : ℕ → Option ℕ
named_escape b =
    if b == 97 then Some 7
    else (if b == 98 then Some 8
    else (if b == 116 then Some 9
    else (if b == 110 then Some 10
    else (if b == 118 then Some 11
    else (if b == 102 then Some 12
    else (if b == 114 then Some 13
    else (if (b == 34) || (b == 39) || (b == 63) || (b == 92) then Some b
    else None)))))))

-- The byte of two hexadecimal digits.
abbrev pub hex_byte : ℕ → ℕ → Option ℕ
hex_byte high low = option_and_then (λ h. option_map (λ l. 16 * h + l) (digit_of low)) (digit_of high)

-- A byte of this value, if there is one.
abbrev pub small_piece : ℕ → ℕ → Option Piece
small_piece value n = if nat_lt value 256 then Some (piece value n) else None

-- The byte of one to three octal digits, as many as there are.
abbrev pub octal_piece : Option ℕ → Option ℕ → Option ℕ → Option Piece
octal_piece None second third = None
octal_piece (Some a) None third = small_piece a 2
octal_piece (Some a) (Some b) None = small_piece (8 * a + b) 3
octal_piece (Some a) (Some b) (Some c) = small_piece (64 * a + 8 * b + c) 4

abbrev pub octal_escape : List ℕ → Option Piece
octal_escape bs = octal_piece (octal_at bs 0) (octal_at bs 1) (octal_at bs 2)

-- The value of an escape, which is given by the bytes after its backslash.
abbrev pub escape_of : List ℕ → Option Piece
escape_of bs =
    if slice_index bs 0 == 120 then option_map (λ b. piece b 4) (hex_byte (slice_index bs 1) (slice_index bs 2))
    else (if is_some (octal_at bs 0) then octal_escape bs
    else option_map (λ b. piece b 2) (named_escape (slice_index bs 0)))

-- The byte at the front of a text without its first quote.
abbrev pub piece_of : List ℕ → Option Piece
piece_of bs =
    if length bs == 0 then None
    else (if slice_index bs 0 == 92 then escape_of (drop 1 bs)
    else Some (piece (slice_index bs 0) 1))

-- The byte at the front of a literal of bytes without its first quote: two hexadecimal digits after white space.
abbrev pub pair_of : List ℕ → Option Piece
pair_of bs =
    let n = prefix_len is_space bs in
    option_map (λ b. piece b (n + 2)) (hex_byte (slice_index (drop n bs) 0) (slice_index (drop n bs) 1))

-- Whether there is nothing.
abbrev pub is_empty : List ℕ → Bool
is_empty bs = length bs == 0

-- Whether there is only white space.
abbrev pub is_blank : List ℕ → Bool
is_blank bs = prefix_len is_space bs == length bs

-- The bytes of a literal's pieces, from the front to its end.
abbrev pub IsMade : (List ℕ → Bool) → (List ℕ → Option Piece) → List ℕ → List ℕ → Type 0
IsMade ends first bs [] = ends bs ≡ true
IsMade ends first bs (c ∷ cs) = (ends bs ≡ false) × ((n : ℕ) × ((first bs ≡ Some (piece c n)) × IsMade ends first (drop n bs) cs))

-- The value of a text.
abbrev pub IsText : List ℕ → List ℕ → Type 0
IsText = IsMade is_empty piece_of

-- The value of a literal of bytes.
abbrev pub IsBytes : List ℕ → List ℕ → Type 0
IsBytes = IsMade is_blank pair_of

-- A literal that doesn't end at an offset, and has no piece there.
abbrev pub HasNoPiece : (List ℕ → Bool) → (List ℕ → Option Piece) → List ℕ → ℕ → Type 0
HasNoPiece ends first bs at = (ends (drop at bs) ≡ false) × (first (drop at bs) ≡ None)

abbrev pub IsTextFault : List ℕ → LiteralFault → Type 0
IsTextFault bs (F.Piece at) = HasNoPiece is_empty piece_of bs at
IsTextFault bs F.Empty = ⊥
IsTextFault bs F.Memory = Unit {0}

abbrev pub IsBytesFault : List ℕ → LiteralFault → Type 0
IsBytesFault bs (F.Piece at) = HasNoPiece is_blank pair_of bs at
IsBytesFault bs F.Empty = is_blank bs ≡ true
IsBytesFault bs F.Memory = Unit {0}
