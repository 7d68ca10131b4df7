-- Control characters as JSON tells them.
use Rattle.std.proofs.Common.{◌≡◌, ◌/◌, ◌%◌, ◌<◌, ◌^◌, ◌-◌, ◌≢◌, ◌==◌, ℕ, false, true, [], ◌∷◌, ⊎_elim, arith}
use Rattle.std.specs.Char.{is_ascii_control}
use Rattle.std.specs.Fmt.{padded_integral, char_count, format_spec, digits, digit_glyph}
use Rattle.hagzimot_schemas.specs.JsonText.{char_told}
use Rattle.std.proofs.lemmas.Bool.{cases_lt, ne_eqb}
use Rattle.std.proofs.lemmas.Bool.Decides.{nat_tests}
use Rattle.std.proofs.lemmas.Fmt.{hex_one_digit, hex_two_digits}

-- what `{:04x}` writes of a byte
pub hex_byte_of_four : (n : ℕ) → n < 256 → padded_integral (format_spec 32 0 4 4 (2 ^ 64 - 1)) false [] (digits 16 false n) ≡ 48 ∷ 48 ∷ digit_glyph false (n / 16) ∷ digit_glyph false (n % 16) ∷ []
unfolding padded_integral char_count
hex_byte_of_four n small = ⊎_elim
    (λ one. let high : n / 16 ≡ 0 = omega arith in let low : n % 16 ≡ n = omega arith in rw (hex_one_digit false n one, high, low))
    (λ two. rw (hex_two_digits false n two small))
    (cases_lt n 16)

-- a control character is a byte
pub control_is_byte : (c : ℕ) → is_ascii_control c ≡ true → c < 256
control_is_byte c h = grind (arith, nat_tests)

-- a control character without a letter of its own is told so
pub control_told : (c : ℕ) → c ≢ 10 → c ≢ 13 → c ≢ 9 → is_ascii_control c ≡ true → 92 ∷ 117 ∷ 48 ∷ 48 ∷ digit_glyph false (c / 16) ∷ digit_glyph false (c % 16) ∷ [] ≡ char_told c
control_told c feed return tab h =
    let quote : (c == 34) ≡ false = grind (arith, nat_tests) in
    let slash : (c == 92) ≡ false = grind (arith, nat_tests) in
    rw (quote, slash, ne_eqb c 10 feed, ne_eqb c 13 return, ne_eqb c 9 tab, h)
