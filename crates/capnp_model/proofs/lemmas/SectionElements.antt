-- Numbers side by side in a section, one more at a time.
use Rattle.std.proofs.Common.{◌≡◌, ℕ, zero, suc, ◌+◌, ◌*◌, ◌/◌, ◌%◌, ◌^◌, ◌<◌, List, [], ◌∷◌, ◌++◌, length, refl, ap, sym, ◌∙◌, arith}
use Rattle.std.specs.Prelude.{replicate}
use Rattle.std.proofs.Math.Nat.{mod-eq_of_lt, div-eq_of_lt}
use lib.Pow as pow
use Rattle.capnp_model.specs.Sections.{bits_at, with_bits, numbers_in, number_of, section_of}
use Rattle.capnp_model.proofs.lemmas.Numbers.{number_of_lt, wider}

-- the next number that stands in a section
pub numbers_in-more : (w n s : ℕ) → numbers_in w (suc n) s ≡ numbers_in w n s ++ bits_at (w * n) w s ∷ []
numbers_in-more w zero s = let e : 0 ≡ w * 0 = omega arith in let whole : s ≡ s / 2 ^ 0 = omega arith in ap (λ z. z % 2 ^ w ∷ []) whole ∙ ap (λ z. bits_at z w s ∷ []) e
numbers_in-more w (suc n) s =
    let e : w + w * n ≡ w * suc n = omega arith in
    ap (λ z. s % 2 ^ w ∷ z) (numbers_in-more w n (s / 2 ^ w))
    ∙ ap (λ z. (s % 2 ^ w ∷ numbers_in w n (s / 2 ^ w)) ++ z % 2 ^ w ∷ []) (pow.shr-shr s w (w * n)) ∙ ap (λ z. (s % 2 ^ w ∷ numbers_in w n (s / 2 ^ w)) ++ bits_at z w s ∷ []) e

nothing_above : (at width value s : ℕ) → s < 2 ^ at → with_bits at width value s ≡ value * 2 ^ at + s
nothing_above at width value s h =
    let none : s / 2 ^ (at + width) ≡ 0 = div-eq_of_lt (wider s at (at + width) (omega arith) h) in
    let only : 0 * 2 ^ width + value ≡ value = omega arith in
    ap (λ z. (z * 2 ^ width + value) * 2 ^ at + s % 2 ^ at) none ∙ ap (λ z. z * 2 ^ at + s % 2 ^ at) only ∙ ap (λ z. value * 2 ^ at + z) (mod-eq_of_lt h)

step : (n w x p q a b : ℕ) → q ≡ p * a → (x * p + n) * a + b ≡ x * q + (n * a + b)
step n w x p q a b e = grind arith

-- one more number, behind those that stand there
pub number_of-more : (w : ℕ) (xs : List ℕ) (x : ℕ) → x < 2 ^ w → number_of w (xs ++ x ∷ []) ≡ with_bits (w * length xs) w x (number_of w xs)
number_of-more w xs x h = by xs ∙ sym (nothing_above (w * length xs) w x (number_of w xs) (number_of_lt w xs))
  where
    by : (xs : List ℕ) → number_of w (xs ++ x ∷ []) ≡ x * 2 ^ (w * length xs) + number_of w xs
    by [] =
        let e : 0 ≡ w * 0 = omega arith in
        let one : 0 * 2 ^ w + x % 2 ^ w ≡ x * 2 ^ 0 + 0 = let small : x % 2 ^ w ≡ x = mod-eq_of_lt h in omega arith in
        one ∙ ap (λ z. x * 2 ^ z + 0) e
    by (y ∷ ys) =
        let e : w * suc (length ys) ≡ w * length ys + w = omega arith in
        ap (λ z. z * 2 ^ w + y % 2 ^ w) (by ys) ∙ step (number_of w ys) w x (2 ^ (w * length ys)) (2 ^ (w * suc (length ys))) (2 ^ w) (y % 2 ^ w) (ap (λ z. 2 ^ z) e ∙ pow.pow-add 2 (w * length ys) w)

pub section_of-zeros : (n : ℕ) → section_of (replicate n 0) ≡ 0
section_of-zeros zero = refl
section_of-zeros (suc n) = ap (λ z. z * 2 ^ 64 + 0 % 2 ^ 64) (section_of-zeros n)
