-- Numbers in decimal digits are those that the parser reads.
use Rattle.std.proofs.Common.{rules, arith, ◌≡◌, refl, sym, ap, ◌∙◌, ℕ, ◌^◌, ◌<◌, List, [], ◌∷◌, length, get_or, Bool, true, false, not, ◌&&◌, nat_lt, Some, None, Result, Ok, Err}
use Rattle.std.specs.Cmp.Derive.{both_true}
use Rattle.std.specs.Result.{result_ok, OkIff}
use Rattle.std.specs.Str.{all_ascii_digits}
use Rattle.std.proofs.lemmas.Bool.{ltb-true, lt-ltb}
use Rattle.std.proofs.lemmas.Result.{OkIff-at_ok, OkIff-at_err}
use Rattle.std.proofs.lemmas.Str.Parse.{WeighsDigits, IsNumeralModel, numerals_by_weight, tells_all_ascii_digits, parse_plain, not_in_digits}
use Rattle.capnp_model.specs.Chains.{◌provided◌}
use Rattle.capnp_model.proofs.lemmas.Tests.{both_true as both}
use Rattle.capnp_relay_program.specs.Arguments.{digits_number, is_empty, decimal_in}

weighs : WeighsDigits digits_number
unfolding digits_number
weighs = record { empty = refl; more = λ c cs k. refl }

pub numerals : IsNumeralModel (λ ds. all_ascii_digits ds ≡ true) digits_number
numerals = numerals_by_weight (λ ds. all_ascii_digits ds ≡ true) tells_all_ascii_digits digits_number weighs

none_unless : (n : ℕ) (b : Bool) → (b ≡ true → ⊥) → None ≡ (n provided b)
none_unless n true h = absurd (h refl)
none_unless n false h = refl

some_where : (n : ℕ) (b : Bool) → b ≡ true → Some n ≡ (n provided b)
some_where n true e = refl
some_where n false e = absurd cc

-- Whether a word is a number that 64 bits hold.
abbrev pub is_number : List ℕ → Bool
is_number word = all_ascii_digits word && (not (is_empty word) && nat_lt (digits_number word) (2 ^ 64))

abbrev pub IsNumber : List ℕ → Type 0
IsNumber word = (all_ascii_digits word ≡ true) × (0 < length word) × (digits_number word < 2 ^ 64)

is_number_of : (word : List ℕ) → IsNumber word → is_number word ≡ true
is_number_of [] h = absurd (omega (arith, h.1))
is_number_of (b ∷ bs) h = both_true h.0 (lt-ltb (digits_number (b ∷ bs)) (2 ^ 64) h.2)

number_of : (word : List ℕ) → is_number word ≡ true → IsNumber word
number_of [] e = let k : false ≡ true = e in absurd cc
number_of (b ∷ bs) e =
    let k = both (all_ascii_digits (b ∷ bs)) (nat_lt (digits_number (b ∷ bs)) (2 ^ 64)) e in
    (k.0, omega arith, ltb-true (digits_number (b ∷ bs)) (2 ^ 64) k.1)

-- What the parser answers to a word without a sign.
pub decimal_is : {E : Type 0} (word : List ℕ) (r : Result ℕ E) → OkIff r (IsNumber word) (digits_number word) → result_ok r ≡ decimal_in word
decimal_is {E} word (Ok x) h =
    let k = OkIff-at_ok {E = E} (Ok x) (IsNumber word) (digits_number word) x h refl in
    ap Some k.1 ∙ some_where (digits_number word) (is_number word) (is_number_of word k.0)
decimal_is {E} word (Err e) h =
    none_unless (digits_number word) (is_number word) (λ b. OkIff-at_err {T = ℕ} (Err e) (IsNumber word) (digits_number word) e h refl (number_of word b))

-- A word with a sign is no number.
pub no_sign : (word : List ℕ) → get_or word 0 0 ≡ 43 → None ≡ decimal_in word
no_sign word e = none_unless (digits_number word) (is_number word) (λ b. not_in_digits numerals word 43 (number_of word b).0 (λ r. absurd (omega (arith, r.0))) 0 (number_of word b).1 e)
