-- Values of integer literals. (Cap'n Proto's schema language; lexer.c++ of the compiler)
use Rattle.std.specs.Prelude.{ℕ, ◌+◌, ◌*◌, ◌^◌, ◌==◌, ◌&&◌, Option, Some, None, Result, Ok, Err, List, length, drop, slice_index, nat_lt, if◌then◌else◌, fold, unwrap_or, is_some, option_and_then}
use Rattle.std.specs.List.{list_all}
use Rattle.capnp_source_text.specs.Bytes.{digit_of}
use Rattle.capnp_source_text.specs.declared.integers.IntegerFault.{IntegerFault}
use Rattle.capnp_source_text.specs.declared.integers.IntegerFault.TheVariants.{Malformed, TooLarge}

-- A number that takes at most 64 bits.
abbrev pub fitting : ℕ → Option ℕ
fitting n = if nat_lt n (2 ^ 64) then Some n else None

-- The value of a digit of a base of at most sixteen.
abbrev pub digit_in : ℕ → ℕ → Option ℕ
digit_in base b = option_and_then (λ d. if nat_lt d base then Some d else None) (digit_of b)

-- The number that digits spell in a base.
abbrev pub value_in : ℕ → List ℕ → ℕ
value_in base bs = fold (λ n b. n * base + unwrap_or (digit_in base b) 0) 0 bs

-- The value of digits of a base.
abbrev pub digits_in : ℕ → List ℕ → Result ℕ IntegerFault
digits_in base bs =
    if (nat_lt 0 (length bs)) && list_all (λ b. is_some (digit_in base b)) bs
    then (if nat_lt (value_in base bs) (2 ^ 64) then Ok (value_in base bs) else Err TooLarge)
    else Err Malformed

-- The value of a literal: hexadecimal after 0x, octal from a zero on, otherwise decimal.
abbrev pub integer_of : List ℕ → Result ℕ IntegerFault
integer_of bs =
    if slice_index bs 0 == 48
    then (if slice_index bs 1 == 120 then digits_in 16 (drop 2 bs) else digits_in 8 bs)
    else digits_in 10 bs
