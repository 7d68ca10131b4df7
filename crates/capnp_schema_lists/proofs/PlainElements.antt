-- A plain element of a list, changed as a section of its own, is changed in the list's section.
use Rattle.std.proofs.Common.{◌≡◌, ℕ, zero, suc, ◌+◌, ◌-◌, ◌*◌, ◌/◌, ◌%◌, ◌^◌, ◌<◌, ◌≤◌, ap, sym, ◌∙◌, subst, arith}
use Rattle.std.proofs.Math.Nat.{mod-lt, mod-eq_of_lt}
use Rattle.std.proofs.lemmas.Nat.{pow_pos}
use lib.Pow as pow
use Rattle.capnp_model.specs.Sections.{with_bits, numbers_in, number_of}
use Rattle.capnp_model.specs.Edits.{on_plain, put_bits}
use Rattle.capnp_model.proofs.lemmas.Bounds.{with_bits_lt}
use Rattle.capnp_model.proofs.lemmas.Numbers.{number_of-numbers_in}

spread : (a b c d e p q r : ℕ) → r ≡ p * q → (a * b + c) * r + (d * q + e) ≡ ((a * b + c) * p + d) * q + e
spread a b c d e p q r h = rw h (grind arith)

-- behind the first number of a section
pub with_bits_behind : (w at width v s : ℕ) → with_bits (at + w) width v s ≡ with_bits at width v (s / 2 ^ w) * 2 ^ w + s % 2 ^ w
with_bits_behind w at width v s =
    let far : at + w + width ≡ w + (at + width) = omega arith in
    let high : s / 2 ^ (at + w + width) ≡ s / 2 ^ w / 2 ^ (at + width) = ap (λ k. s / 2 ^ k) far ∙ sym (pow.shr-shr s w (at + width)) in
    let low : s % 2 ^ (at + w) ≡ s / 2 ^ w % 2 ^ at * 2 ^ w + s % 2 ^ w = pow.mod-pow-add s at w in
    ap (λ k. (k * 2 ^ width + v) * 2 ^ (at + w) + s % 2 ^ (at + w)) high
    ∙ ap (λ k. (s / 2 ^ w / 2 ^ (at + width) * 2 ^ width + v) * 2 ^ (at + w) + k) low
    ∙ spread (s / 2 ^ w / 2 ^ (at + width)) (2 ^ width) v (s / 2 ^ w % 2 ^ at) (s % 2 ^ w) (2 ^ at) (2 ^ w) (2 ^ (at + w)) (pow.pow-add 2 at w)

-- at the front of a section, in its first number
front : (width v s : ℕ) → with_bits 0 width v s ≡ s / 2 ^ width * 2 ^ width + v
front width v s =
    let e : 0 + width ≡ width = omega arith in
    let one : (s / 2 ^ width * 2 ^ width + v) * 2 ^ 0 + s % 2 ^ 0 ≡ s / 2 ^ width * 2 ^ width + v = omega arith in
    ap (λ k. (s / 2 ^ k * 2 ^ width + v) * 2 ^ 0 + s % 2 ^ 0) e ∙ one

pub with_bits_first : (w width v s : ℕ) → width ≤ w → v < 2 ^ width → s / 2 ^ w * 2 ^ w + with_bits 0 width v (s % 2 ^ w) % 2 ^ w ≡ with_bits 0 width v s
with_bits_first w width v s le fits =
    let k = w - width in
    let e : k + width ≡ w = omega (arith, le) in
    let x = s % 2 ^ w in
    let less : with_bits 0 width v x < 2 ^ w = with_bits_lt 0 width v x w fits (omega (arith, le)) (mod-lt s (pow_pos w)) in
    let here : with_bits 0 width v x % 2 ^ w ≡ x / 2 ^ width * 2 ^ width + v = mod-eq_of_lt less ∙ front width v x in
    let part : x / 2 ^ width ≡ s / 2 ^ width % 2 ^ k = subst (λ j. s % 2 ^ j / 2 ^ width ≡ s / 2 ^ width % 2 ^ k) e (pow.field s k width) in
    let split : w ≡ width + k = omega (arith, le) in
    let above : s / 2 ^ w ≡ s / 2 ^ width / 2 ^ k = ap (λ j. s / 2 ^ j) split ∙ sym (pow.shr-shr s width k) in
    let whole : s / 2 ^ width / 2 ^ k * 2 ^ k + s / 2 ^ width % 2 ^ k ≡ s / 2 ^ width = pow.split (s / 2 ^ width) k in
    let powers : 2 ^ w ≡ 2 ^ k * 2 ^ width = ap (λ j. 2 ^ j) (sym e) ∙ pow.pow-add 2 k width in
    ap (λ z. s / 2 ^ w * 2 ^ w + z) (here ∙ ap (λ z. z * 2 ^ width + v) part) ∙ ap (λ z. z * 2 ^ w + (s / 2 ^ width % 2 ^ k * 2 ^ width + v)) above ∙ sums (s / 2 ^ width / 2 ^ k) (2 ^ k) (2 ^ width) (2 ^ w) (s / 2 ^ width % 2 ^ k) v (s / 2 ^ width) powers whole ∙ sym (front width v s)
  where
    sums : (a p q r b v t : ℕ) → r ≡ p * q → a * p + b ≡ t → a * r + (b * q + v) ≡ t * q + v
    sums a p q r b v t e f = rw (e, sym f) (grind arith)

-- THE LAW
pub element_in_section : (w n k width v s : ℕ) → width ≤ w → v < 2 ^ width → k < n → s < 2 ^ (w * n) → number_of w (on_plain (put_bits 0 width v) k (numbers_in w n s)) ≡ with_bits (w * k) width v s
element_in_section w zero k width v s le fits lt small = absurd (omega (arith, lt))
element_in_section w (suc n) zero width v s le fits lt small =
    let rest : s / 2 ^ w < 2 ^ (w * n) = pow.shr_lt (w * n) w (subst (λ j. s < 2 ^ j) (omega arith) small) in
    let none : w * 0 ≡ 0 = omega arith in
    ap (λ z. z * 2 ^ w + with_bits 0 width v (s % 2 ^ w) % 2 ^ w) (number_of-numbers_in w n (s / 2 ^ w) rest) ∙ with_bits_first w width v s le fits ∙ ap (λ j. with_bits j width v s) (sym none)
element_in_section w (suc n) (suc k) width v s le fits lt small =
    let rest : s / 2 ^ w < 2 ^ (w * n) = pow.shr_lt (w * n) w (subst (λ j. s < 2 ^ j) (omega arith) small) in
    let next : w * k + w ≡ w * suc k = omega arith in
    let first : s % 2 ^ w % 2 ^ w ≡ s % 2 ^ w = mod-eq_of_lt (mod-lt s (pow_pos w)) in
    ap (λ z. z * 2 ^ w + s % 2 ^ w % 2 ^ w) (element_in_section w n k width v (s / 2 ^ w) le fits (omega (arith, lt)) rest)
    ∙ ap (λ z. with_bits (w * k) width v (s / 2 ^ w) * 2 ^ w + z) first ∙ sym (with_bits_behind w (w * k) width v s) ∙ ap (λ j. with_bits j width v s) next
