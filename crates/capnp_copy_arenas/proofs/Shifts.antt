-- A word put together by shifts.
use Rattle.std.proofs.Common.{◌≡◌, ℕ, ◌+◌, ◌*◌, ◌/◌, ◌%◌, ◌^◌, ◌<◌, ◌≤◌, ap, sym, ◌∙◌, subst, arith}
use Rattle.std.proofs.Math.Nat.{le-mul_of_pos_right}
use Rattle.std.proofs.Math.Pow.{pow-lt}
use Rattle.std.proofs.lemmas.Nat.{pow_pos}
use lib.Pow as pow
use Rattle.capnp_model.specs.Sections.{with_bits}
use Rattle.capnp_model.proofs.lemmas.Bounds.{with_bits_lt}

same_small : (x : ℕ) → x < 2 ^ 64 → x % 2 ^ 64 ≡ x
same_small x l = omega arith

first_small : (h v x s : ℕ) → h + v ≤ s → s < 2 ^ 64 → h % 2 ^ 64 ≡ h
first_small h v x s l m = omega arith

module _ (word at width value : ℕ) (inside : at + width ≤ 64) (some : 0 < width) (fits : value < 2 ^ width) (small : word < 2 ^ 64) where
  middle : ℕ
  middle = word / 2 ^ (at + width) * 2 ^ width

  whole_lt : (word / 2 ^ (at + width) * 2 ^ width + value) * 2 ^ at + word % 2 ^ at < 2 ^ 64
  whole_lt = with_bits_lt at width value word 64 fits inside small

  product_le : (x r : ℕ) → x * 2 ^ at + r < 2 ^ 64 → x < 2 ^ 64
  product_le x r l = let m = le-mul_of_pos_right x (pow_pos at) in smaller x (x * 2 ^ at) r m l
    where
      smaller : (x y r : ℕ) → x ≤ y → y + r < 2 ^ 64 → x < 2 ^ 64
      smaller x y r m l = omega (arith, m, l)

  pub joined_lt : word / 2 ^ at / 2 ^ width * 2 ^ width % 2 ^ 64 + value < 2 ^ 64
  joined_lt =
      let e : word / 2 ^ at / 2 ^ width ≡ word / 2 ^ (at + width) = pow.shr-shr word at width in
      let P : ℕ → Type 0 = λ h. h * 2 ^ width % 2 ^ 64 + value < 2 ^ 64 in
      let x : word / 2 ^ (at + width) * 2 ^ width + value < 2 ^ 64 = product_le (word / 2 ^ (at + width) * 2 ^ width + value) (word % 2 ^ at) whole_lt in
      subst P (sym e) (kept (word / 2 ^ (at + width) * 2 ^ width) value x)
    where
      kept : (h v : ℕ) → h + v < 2 ^ 64 → h % 2 ^ 64 + v < 2 ^ 64
      kept h v l = omega (arith, l)

  joined_is : word / 2 ^ at / 2 ^ width * 2 ^ width % 2 ^ 64 + value ≡ word / 2 ^ (at + width) * 2 ^ width + value
  joined_is =
      let e : word / 2 ^ at / 2 ^ width ≡ word / 2 ^ (at + width) = pow.shr-shr word at width in
      let x : word / 2 ^ (at + width) * 2 ^ width + value < 2 ^ 64 = product_le (word / 2 ^ (at + width) * 2 ^ width + value) (word % 2 ^ at) whole_lt in
      ap (λ h. h * 2 ^ width % 2 ^ 64 + value) e ∙ kept (word / 2 ^ (at + width) * 2 ^ width) value x
    where
      kept : (h v : ℕ) → h + v < 2 ^ 64 → h % 2 ^ 64 + v ≡ h + v
      kept h v l = omega (arith, l)

  one_is : 1 * 2 ^ at % 2 ^ 64 ≡ 2 ^ at
  one_is =
      let l : 2 ^ at < 2 ^ 64 = pow-lt {i = at} {j = 64} (omega (arith, inside, some)) in
      kept (2 ^ at) l
    where
      kept : (a : ℕ) → a < 2 ^ 64 → 1 * a % 2 ^ 64 ≡ a
      kept a l = omega (arith, l)

  pub word_is : (word / 2 ^ at / 2 ^ width * 2 ^ width % 2 ^ 64 + value) * 2 ^ at % 2 ^ 64 + word % (1 * 2 ^ at % 2 ^ 64) ≡ with_bits at width value word
  word_is =
      let low : word % (1 * 2 ^ at % 2 ^ 64) ≡ word % 2 ^ at = ap (λ m. word % m) one_is in
      let high : (word / 2 ^ at / 2 ^ width * 2 ^ width % 2 ^ 64 + value) * 2 ^ at % 2 ^ 64 ≡ (word / 2 ^ (at + width) * 2 ^ width + value) * 2 ^ at % 2 ^ 64 = ap (λ x. x * 2 ^ at % 2 ^ 64) joined_is in
      sums _ _ ((word / 2 ^ (at + width) * 2 ^ width + value) * 2 ^ at) (word % 2 ^ at) high low whole_lt
    where
      sums : (a b c d : ℕ) → a ≡ c % 2 ^ 64 → b ≡ d → c + d < 2 ^ 64 → a + b ≡ c + d
      sums a b c d e f l = omega (arith, e, f, l)

  pub word_lt : (word / 2 ^ at / 2 ^ width * 2 ^ width % 2 ^ 64 + value) * 2 ^ at % 2 ^ 64 + word % (1 * 2 ^ at % 2 ^ 64) < 2 ^ 64
  word_lt = subst (λ x. x < 2 ^ 64) (sym word_is) whole_lt
