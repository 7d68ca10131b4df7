-- Hex digits are digits, as `from_str_radix` takes them.
use Rattle.std.proofs.Common.{◌≡◌, ◌∙◌, ℕ, ◌<◌, ◌≤◌, ◌^◌, Bool, true, false, ◌&&◌, ◌==◌, if◌then◌else◌, List, [], ◌∷◌, length, Some, None, Result, refl, sym, ap, subst, arith, lit<}
use Rattle.std.specs.Char.{digit_value, is_ascii_hexdigit}
use Rattle.std.specs.List.{list_all}
use Rattle.std.specs.Result.{result_ok}
use Rattle.std.specs.Str.Parse.{AllDigits, IsNumeral, ParsesUnsigned, digits_value, without_leading_plus}
use Rattle.std.proofs.Math.Nat.{pow-le-pow_right}
use Rattle.std.proofs.lemmas.Bool.Decides.{nat_tests}
use Rattle.std.proofs.lemmas.Bool.{eq-eqb, eqb-true}
use Rattle.std.proofs.lemmas.Int.Digits.{digits_value-lt}
use Rattle.std.proofs.lemmas.Result.{Ok-from_Ok_iff}
use Rattle.hagzimot_floats.specs.Bits.{number_of_hex}

-- a hex digit is below 16
hex_digit_below : (c : ℕ) → is_ascii_hexdigit c ≡ true → digit_value c < 16
hex_digit_below c h = grind (arith, nat_tests)

-- a plus is none
no_plus : (c : ℕ) → is_ascii_hexdigit c ≡ true → (c == 43) ≡ false
no_plus c h = grind (arith, nat_tests)

both : (a b : Bool) → (a && b) ≡ true → (a ≡ true) × (b ≡ true)
both true b h = (refl, h)
both false b h = cc

all_digits : (hex : List ℕ) → list_all is_ascii_hexdigit hex ≡ true → AllDigits 16 hex
all_digits [] h = tt
all_digits (c ∷ hex) h = let (this, others) = both (is_ascii_hexdigit c) (list_all is_ascii_hexdigit hex) h in (hex_digit_below c this, all_digits hex others)

without_plus : (hex : List ℕ) → list_all is_ascii_hexdigit hex ≡ true → without_leading_plus hex ≡ hex
without_plus [] h = refl
without_plus (c ∷ hex) h = rw (no_plus c (both (is_ascii_hexdigit c) (list_all is_ascii_hexdigit hex) h).0)

-- so many hex digits are read as the number that they spell
pub hex_is_read : {E : Type 0} → (count : ℕ) (hex : List ℕ) (r : Result ℕ E) → 0 < count → count ≤ 16 → length hex ≡ count → list_all is_ascii_hexdigit hex ≡ true → ParsesUnsigned 64 16 hex r → result_ok r ≡ number_of_hex count hex
hex_is_read count hex r some few long all reads =
    let digits = all_digits hex all in
    let less : digits_value 16 hex < 2 ^ 64 = omega (arith, digits_value-lt 16 hex digits, pow-le-pow_right {n = 16} (lit< tt) {i = length hex} {j = 16} (omega arith)) in
    let plain = without_plus hex all in
    let numeral : IsNumeral 16 hex = (omega arith, digits) in
    let read = Ok-from_Ok_iff r _ _ reads (rw plain (numeral, less)) in
    ap result_ok read ∙ ap (λ ds. Some (digits_value 16 ds)) plain ∙ sym (rw (eq-eqb (length hex) count long, all))

-- and that number is below the power
pub hex_is_below : (count : ℕ) (hex : List ℕ) (n : ℕ) → number_of_hex count hex ≡ Some n → n < 16 ^ count
hex_is_below count hex n is = by (length hex == count && list_all is_ascii_hexdigit hex) below is
  where
    below : (length hex == count && list_all is_ascii_hexdigit hex) ≡ true → digits_value 16 hex < 16 ^ count
    below h =
        let (long, all) = both (length hex == count) (list_all is_ascii_hexdigit hex) h in
        subst (λ k. digits_value 16 hex < 16 ^ k) (eqb-true (length hex) count long) (digits_value-lt 16 hex (all_digits hex all))

    by : (b : Bool) → (b ≡ true → digits_value 16 hex < 16 ^ count) → (if b then Some (digits_value 16 hex) else None) ≡ Some n → n < 16 ^ count
    by true low e = let same : digits_value 16 hex ≡ n = cc in subst (λ k. k < 16 ^ count) same (low refl)
    by false low e = cc
