-- Bits that lie in one word of a section are those of the word.
use Rattle.std.proofs.Common.{◌≡◌, ℕ, zero, suc, ◌+◌, ◌-◌, ◌*◌, ◌/◌, ◌%◌, ◌^◌, ◌<◌, ◌≤◌, List, [], ◌∷◌, length, ap, sym, ◌∙◌, subst, add_comm, arith}
use Rattle.std.specs.Prelude.{slice_index, slice_set}
use Rattle.std.proofs.Math.Nat.{mod-lt, mod-eq_of_lt, div-eq_of_lt}
use Rattle.std.proofs.lemmas.Nat.{pow_pos}
use lib.Pow as pow
use Rattle.capnp_model.specs.Sections.{bits_at, with_bits, section_of}
use Rattle.capnp_model.proofs.lemmas.Bits.{above}
use Rattle.capnp_model.proofs.lemmas.Bounds.{joined_lt, with_bits_lt}
use Rattle.capnp_model.proofs.lemmas.Numbers.{number_of_lt, wider}

-- ---- the first word

pub low_bits : (s k m : ℕ) → k ≤ m → s % 2 ^ m % 2 ^ k ≡ s % 2 ^ k
low_bits s k m h = let e : (m - k) + k ≡ m = omega arith in subst (λ (z : ℕ). s % 2 ^ z % 2 ^ k ≡ s % 2 ^ k) e (pow.mod-mod-pow s (m - k) k)

-- bits below 64 are those of the lowest 64
bits_of_low : (s j width : ℕ) → j + width ≤ 64 → bits_at j width (s % 2 ^ 64) ≡ bits_at j width s
bits_of_low s j width h =
    sym (pow.field (s % 2 ^ 64) width j) ∙ ap (λ z. z / 2 ^ j) (low_bits s (width + j) 64 (omega arith)) ∙ pow.field s width j

in_first : (n x j width : ℕ) → j + width ≤ 64 → bits_at j width (n * 2 ^ 64 + x % 2 ^ 64) ≡ bits_at j width x
in_first n x j width h =
    sym (bits_of_low (n * 2 ^ 64 + x % 2 ^ 64) j width h)
    ∙ ap (bits_at j width) (pow.low n 64 (mod-lt x (pow_pos 64))) ∙ bits_of_low x j width h

in_rest : (n x k width : ℕ) → bits_at (64 + k) width (n * 2 ^ 64 + x % 2 ^ 64) ≡ bits_at k width n
in_rest n x k width =
    ap (λ z. z % 2 ^ width) (sym (pow.shr-shr (n * 2 ^ 64 + x % 2 ^ 64) 64 k) ∙ ap (λ z. z / 2 ^ k) (pow.high n 64 (mod-lt x (pow_pos 64))))

pub bits_at-section_of : (words : List ℕ) (i j width : ℕ) → i < length words → j + width ≤ 64 → bits_at (64 * i + j) width (section_of words) ≡ bits_at j width (slice_index words i)
bits_at-section_of [] i j width h l = absurd (omega arith)
bits_at-section_of (x ∷ xs) zero j width h l = let e : 64 * 0 + j ≡ j = omega arith in ap (λ z. bits_at z width (section_of (x ∷ xs))) e ∙ in_first (section_of xs) x j width l
bits_at-section_of (x ∷ xs) (suc i) j width h l =
    let e : 64 * suc i + j ≡ 64 + (64 * i + j) = omega arith in
    ap (λ z. bits_at z width (section_of (x ∷ xs))) e ∙ in_rest (section_of xs) x (64 * i + j) width ∙ bits_at-section_of xs i j width (omega arith) l

-- ---- a write

-- two numbers with the same bits from k on and below k are one
same_parts : (a b k : ℕ) → a / 2 ^ k ≡ b / 2 ^ k → a % 2 ^ k ≡ b % 2 ^ k → a ≡ b
same_parts a b k h l = sym (pow.split a k) ∙ ap (λ z. z * 2 ^ k + a % 2 ^ k) h ∙ ap (λ z. b / 2 ^ k * 2 ^ k + z) l ∙ pow.split b k

regroup : (q v r w a p pa pw : ℕ) → p ≡ pa * pw → (q * pw + v) * pa + r ≡ q * p + (v * pa + r)
regroup q v r w a p pa pw e = grind arith

-- below the end of what was written stand the number and what was below it
written_low : (at width value section : ℕ) → value < 2 ^ width → with_bits at width value section % 2 ^ (width + at) ≡ value * 2 ^ at + section % 2 ^ at
written_low at width value section fits =
    let power : 2 ^ (width + at) ≡ 2 ^ at * 2 ^ width = ap (λ z. 2 ^ z) (add_comm width at) ∙ pow.pow-add 2 at width in
    let q : ℕ = section / 2 ^ (at + width) in
    ap (λ z. z % 2 ^ (width + at)) (regroup q value (section % 2 ^ at) width at (2 ^ (width + at)) (2 ^ at) (2 ^ width) power)
    ∙ pow.low q (width + at) (joined_lt value (section % 2 ^ at) width at fits (mod-lt section (pow_pos at)))

-- above the end of what was written nothing changes
above_all : (at width value section m : ℕ) → value < 2 ^ width → at + width ≤ m → with_bits at width value section / 2 ^ m ≡ section / 2 ^ m
above_all at width value section m fits h =
    let e : (at + width) + (m - (at + width)) ≡ m = omega arith in
    let P : ℕ → Type 0 = λ z. with_bits at width value section / 2 ^ z ≡ section / 2 ^ z in
    subst P e (sym (pow.shr-shr (with_bits at width value section) (at + width) (m - (at + width))) ∙ ap (λ z. z / 2 ^ (m - (at + width))) (above at width value section fits) ∙ pow.shr-shr section (at + width) (m - (at + width)))

-- of a number's lowest bits the upper ones
upper_of_low : (s k m : ℕ) → k ≤ m → s % 2 ^ m / 2 ^ k ≡ s / 2 ^ k % 2 ^ (m - k)
upper_of_low s k m h = let e : (m - k) + k ≡ m = omega arith in subst (λ (z : ℕ). s % 2 ^ z / 2 ^ k ≡ s / 2 ^ k % 2 ^ (m - k)) e (pow.field s (m - k) k)

-- a write goes with taking the lowest m bits
pub written_in_low : (at width value s m : ℕ) → value < 2 ^ width → at + width ≤ m → with_bits at width value s % 2 ^ m ≡ with_bits at width value (s % 2 ^ m)
written_in_low at width value s m fits h =
    let k : ℕ = width + at in
    let within : k ≤ m = omega arith in
    let high : with_bits at width value s % 2 ^ m / 2 ^ k ≡ with_bits at width value (s % 2 ^ m) / 2 ^ k =
    upper_of_low (with_bits at width value s) k m within ∙ ap (λ z. z % 2 ^ (m - k)) (above_all at width value s k fits (omega arith)) ∙ sym (upper_of_low s k m within) ∙ sym (above_all at width value (s % 2 ^ m) k fits (omega arith)) in
    let low : with_bits at width value s % 2 ^ m % 2 ^ k ≡ with_bits at width value (s % 2 ^ m) % 2 ^ k =
    low_bits (with_bits at width value s) k m within ∙ written_low at width value s fits ∙ ap (λ z. value * 2 ^ at + z) (sym (low_bits s at m (omega arith))) ∙ sym (written_low at width value (s % 2 ^ m) fits) in
    same_parts (with_bits at width value s % 2 ^ m) (with_bits at width value (s % 2 ^ m)) k high low

-- a write in the lowest 64 bits
put_in_first : (n x j width value : ℕ) → value < 2 ^ width → j + width ≤ 64 → x < 2 ^ 64 → with_bits j width value (n * 2 ^ 64 + x) ≡ n * 2 ^ 64 + with_bits j width value x
put_in_first n x j width value fits inside small =
    let s : ℕ = n * 2 ^ 64 + x in
    let fits' : with_bits j width value x < 2 ^ 64 = with_bits_lt j width value x 64 fits inside small in
    let high : with_bits j width value s / 2 ^ 64 ≡ (n * 2 ^ 64 + with_bits j width value x) / 2 ^ 64 = above_all j width value s 64 fits inside ∙ pow.high n 64 small ∙ sym (pow.high n 64 fits') in
    let low : with_bits j width value s % 2 ^ 64 ≡ (n * 2 ^ 64 + with_bits j width value x) % 2 ^ 64 = written_in_low j width value s 64 fits inside ∙ ap (with_bits j width value) (pow.low n 64 small) ∙ sym (pow.low n 64 fits') in
    same_parts (with_bits j width value s) (n * 2 ^ 64 + with_bits j width value x) 64 high low

together : (a p b r x big : ℕ) → big ≡ b * p → a * big + (r * b + x) ≡ (a * p + r) * b + x
together a p b r x big e = grind arith

-- a write behind the lowest 64 bits
put_in_rest : (n x k width value : ℕ) → x < 2 ^ 64 → with_bits (64 + k) width value (n * 2 ^ 64 + x) ≡ with_bits k width value n * 2 ^ 64 + x
put_in_rest n x k width value small =
    let s : ℕ = n * 2 ^ 64 + x in
    let e : (64 + k) + width ≡ 64 + (k + width) = omega arith in
    let high : s / 2 ^ ((64 + k) + width) ≡ n / 2 ^ (k + width) = ap (λ z. s / 2 ^ z) e ∙ sym (pow.shr-shr s 64 (k + width)) ∙ ap (λ z. z / 2 ^ (k + width)) (pow.high n 64 small) in
    let sum : 64 + k ≡ k + 64 = omega arith in
    let upper : s % 2 ^ (k + 64) / 2 ^ 64 ≡ n % 2 ^ k = pow.field s k 64 ∙ ap (λ z. z % 2 ^ k) (pow.high n 64 small) in
    let lower : s % 2 ^ (k + 64) % 2 ^ 64 ≡ x = low_bits s 64 (k + 64) (omega arith) ∙ pow.low n 64 small in
    let low : s % 2 ^ (64 + k) ≡ n % 2 ^ k * 2 ^ 64 + x = ap (λ z. s % 2 ^ z) sum ∙ sym (pow.split (s % 2 ^ (k + 64)) 64) ∙ ap (λ z. z * 2 ^ 64 + s % 2 ^ (k + 64) % 2 ^ 64) upper ∙ ap (λ z. n % 2 ^ k * 2 ^ 64 + z) lower in
    ap (λ z. (z * 2 ^ width + value) * 2 ^ (64 + k) + s % 2 ^ (64 + k)) high ∙ ap (λ z. (n / 2 ^ (k + width) * 2 ^ width + value) * 2 ^ (64 + k) + z) low
    ∙ together (n / 2 ^ (k + width) * 2 ^ width + value) (2 ^ k) (2 ^ 64) (n % 2 ^ k) x (2 ^ (64 + k)) (pow.pow-add 2 64 k)

pub section_of-put : (words : List ℕ) (i j width value : ℕ) → value < 2 ^ width → i < length words → j + width ≤ 64 → slice_index words i < 2 ^ 64
    → section_of (slice_set words i (with_bits j width value (slice_index words i))) ≡ with_bits (64 * i + j) width value (section_of words)
section_of-put [] i j width value fits h l small = absurd (omega arith)
section_of-put (x ∷ xs) zero j width value fits h l small =
    let e : 64 * 0 + j ≡ j = omega arith in
    let n : ℕ = section_of xs in
    let kept : x % 2 ^ 64 ≡ x = mod-eq_of_lt small in
    let kept' : with_bits j width value x % 2 ^ 64 ≡ with_bits j width value x = mod-eq_of_lt (with_bits_lt j width value x 64 fits l small) in
    ap (λ z. n * 2 ^ 64 + z) kept' ∙ sym (put_in_first n x j width value fits l small) ∙ ap (λ z. with_bits j width value (n * 2 ^ 64 + z)) (sym kept) ∙ ap (λ z. with_bits z width value (section_of (x ∷ xs))) (sym e)
section_of-put (x ∷ xs) (suc i) j width value fits h l small =
    let e : 64 * suc i + j ≡ 64 + (64 * i + j) = omega arith in
    ap (λ z. z * 2 ^ 64 + x % 2 ^ 64) (section_of-put xs i j width value fits (omega arith) l small)
    ∙ sym (put_in_rest (section_of xs) (x % 2 ^ 64) (64 * i + j) width value (mod-lt x (pow_pos 64))) ∙ ap (λ z. with_bits z width value (section_of (x ∷ xs))) (sym e)

-- ---- behind the words

-- behind the words of a section there are zeros
pub bits_at-behind : (words : List ℕ) (i j width : ℕ) → length words ≤ i → bits_at (64 * i + j) width (section_of words) ≡ 0
bits_at-behind words i j width h =
    let small : section_of words < 2 ^ (64 * i + j) = wider (section_of words) (64 * length words) (64 * i + j) (omega arith) (number_of_lt 64 words) in
    let none : section_of words / 2 ^ (64 * i + j) ≡ 0 = div-eq_of_lt small in
    ap (λ z. z % 2 ^ width) none ∙ mod-eq_of_lt (pow_pos width)
