-- A number that is put in place of one of the numbers that stand in a section.
use Rattle.std.proofs.Common.{◌≡◌, ℕ, zero, suc, ◌+◌, ◌*◌, ◌/◌, ◌%◌, ◌^◌, ◌<◌, List, [], ◌∷◌, length, ap, sym, subst, ◌∙◌, arith}
use Rattle.std.proofs.Math.Nat.{mod-lt}
use Rattle.std.proofs.lemmas.Nat.{pow_pos}
use lib.Pow as pow
use Rattle.capnp_model.specs.Sections.{with_bits, numbers_in, number_of}
use Rattle.capnp_model.specs.Edits.{Cell, Edit, on_plain}
use Rattle.capnp_model.proofs.lemmas.Bits.{bits_at-with_bits}
use Rattle.capnp_model.proofs.lemmas.Numbers.{length-numbers_in, number_of-numbers_in}
use Rattle.capnp_model.proofs.lemmas.WordBits.{low_bits}

together : (a p b r x big : ℕ) → big ≡ b * p → a * big + (r * b + x) ≡ (a * p + r) * b + x
together a p b r x big e = grind arith

-- A write behind the lowest w bits.
put_behind : (w n x k width value : ℕ) → x < 2 ^ w → with_bits (w + k) width value (n * 2 ^ w + x) ≡ with_bits k width value n * 2 ^ w + x
put_behind w n x k width value small =
    let s : ℕ = n * 2 ^ w + x in
    let e : (w + k) + width ≡ w + (k + width) = omega arith in
    let high : s / 2 ^ ((w + k) + width) ≡ n / 2 ^ (k + width) = ap (λ z. s / 2 ^ z) e ∙ sym (pow.shr-shr s w (k + width)) ∙ ap (λ z. z / 2 ^ (k + width)) (pow.high n w small) in
    let sum : w + k ≡ k + w = omega arith in
    let upper : s % 2 ^ (k + w) / 2 ^ w ≡ n % 2 ^ k = pow.field s k w ∙ ap (λ z. z % 2 ^ k) (pow.high n w small) in
    let lower : s % 2 ^ (k + w) % 2 ^ w ≡ x = low_bits s w (k + w) (omega arith) ∙ pow.low n w small in
    let low : s % 2 ^ (w + k) ≡ n % 2 ^ k * 2 ^ w + x = ap (λ z. s % 2 ^ z) sum ∙ sym (pow.split (s % 2 ^ (k + w)) w) ∙ ap (λ z. z * 2 ^ w + s % 2 ^ (k + w) % 2 ^ w) upper ∙ ap (λ z. n % 2 ^ k * 2 ^ w + z) lower in
    ap (λ z. (z * 2 ^ width + value) * 2 ^ (w + k) + s % 2 ^ (w + k)) high ∙ ap (λ z. (n / 2 ^ (k + width) * 2 ^ width + value) * 2 ^ (w + k) + z) low
    ∙ together (n / 2 ^ (k + width) * 2 ^ width + value) (2 ^ k) (2 ^ w) (n % 2 ^ k) x (2 ^ (w + k)) (pow.pow-add 2 w k)

at_start : (a s : ℕ) → a * 2 ^ 0 + s % 2 ^ 0 ≡ a
at_start a s = omega arith

-- A write over the lowest w bits.
put_lowest : (w n x value : ℕ) → x < 2 ^ w → with_bits (w * 0) w value (n * 2 ^ w + x) ≡ n * 2 ^ w + value
put_lowest w n x value small =
    let s : ℕ = n * 2 ^ w + x in
    let first : w * 0 ≡ 0 = omega arith in
    let whole : 0 + w ≡ w = omega arith in
    ap (λ z. with_bits z w value s) first ∙ ap (λ z. (s / 2 ^ z * 2 ^ w + value) * 2 ^ 0 + s % 2 ^ 0) whole ∙ ap (λ z. (z * 2 ^ w + value) * 2 ^ 0 + s % 2 ^ 0) (pow.high n w small) ∙ at_start (n * 2 ^ w + value) s

-- What is written over an element is its number.
alone : (w value x : ℕ) → value < 2 ^ w → with_bits 0 w value x % 2 ^ w ≡ value
alone w value x fits = let whole : with_bits 0 w value x ≡ with_bits 0 w value x / 2 ^ 0 = omega arith in ap (λ z. z % 2 ^ w) whole ∙ bits_at-with_bits 0 w value x fits

-- An element among others is written as its bits are in the section of all.
among : (w value : ℕ) (f : Edit) → value < 2 ^ w → ((c : Cell) → (f c).section ≡ with_bits 0 w value c.section) → (k : ℕ) (xs : List ℕ) → k < length xs → number_of w (on_plain f k xs) ≡ with_bits (w * k) w value (number_of w xs)
among w value f fits is k [] below = absurd (omega (arith, below))
among w value f fits is zero (x ∷ xs) below =
    let n : ℕ = number_of w xs in
    ap (λ z. n * 2 ^ w + z % 2 ^ w) (is _) ∙ ap (λ z. n * 2 ^ w + z) (alone w value x fits) ∙ sym (put_lowest w n (x % 2 ^ w) value (mod-lt x (pow_pos w)))
among w value f fits is (suc k) (x ∷ xs) below =
    let e : w * suc k ≡ w + w * k = omega arith in
    ap (λ z. z * 2 ^ w + x % 2 ^ w) (among w value f fits is k xs (omega (arith, below))) ∙ sym (put_behind w (number_of w xs) (x % 2 ^ w) (w * k) w value (mod-lt x (pow_pos w))) ∙ ap (λ z. with_bits z w value (number_of w (x ∷ xs))) (sym e)

-- An element of a section.
pub element_put : (w n k value section : ℕ) (f : Edit) → value < 2 ^ w → ((c : Cell) → (f c).section ≡ with_bits 0 w value c.section) → k < n → section < 2 ^ (w * n)
    → number_of w (on_plain f k (numbers_in w n section)) ≡ with_bits (w * k) w value section
element_put w n k value section f fits is below inside =
    among w value f fits is k (numbers_in w n section) (subst (λ (m : ℕ). k < m) (sym (length-numbers_in w n section)) below) ∙ ap (with_bits (w * k) w value) (number_of-numbers_in w n section inside)
