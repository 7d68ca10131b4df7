-- Numbers side by side in a section: those that were put there are there, and a section is the one of its numbers.
use Rattle.std.proofs.Common.{◌≡◌, ℕ, zero, suc, ◌+◌, ◌*◌, ◌/◌, ◌%◌, ◌^◌, ◌<◌, ◌≤◌, Bool, true, false, nat_lt, if◌then◌else◌, List, [], ◌∷◌, length, refl, ap, subst, sym, ◌∙◌, arith}
use Rattle.std.specs.List.{AllByRecursion}
use Rattle.std.proofs.Math.Nat.{mod-lt, mod-eq_of_lt, mod-mod, pow-le-pow_right}
use Rattle.std.proofs.lemmas.Nat.{pow_pos}
use lib.Pow as pow
use Rattle.capnp_model.specs.Sections.{numbers_in, number_of, words_of, section_of, needed_words, words_for}
use Rattle.capnp_model.proofs.lemmas.Bounds.{joined_lt}
use Rattle.capnp_model.proofs.lemmas.Tests.{is_lt}

pub length-numbers_in : (w n s : ℕ) → length (numbers_in w n s) ≡ n
length-numbers_in w zero s = refl
length-numbers_in w (suc n) s = ap suc (length-numbers_in w n (s / 2 ^ w))

-- more bits, larger bounds
pub wider : (n i j : ℕ) → i ≤ j → n < 2 ^ i → n < 2 ^ j
wider n i j h l = let power : 2 ^ i ≤ 2 ^ j = pow-le-pow_right {n = 2} (omega arith) {i = i} {j = j} h in omega arith

-- a section is within the bits of its numbers
pub number_of_lt : (w : ℕ) (xs : List ℕ) → number_of w xs < 2 ^ (w * length xs)
number_of_lt w [] = pow_pos (w * 0)
number_of_lt w (x ∷ xs) =
    let e : w * length xs + w ≡ w * suc (length xs) = omega arith in
    subst (λ (k : ℕ). number_of w xs * 2 ^ w + x % 2 ^ w < 2 ^ k) e (joined_lt (number_of w xs) (x % 2 ^ w) (w * length xs) w (number_of_lt w xs) (mod-lt x (pow_pos w)))

pub number_of-numbers_in : (w n s : ℕ) → s < 2 ^ (w * n) → number_of w (numbers_in w n s) ≡ s
number_of-numbers_in w zero s h = let e : w * 0 ≡ 0 = omega arith in let small : s < 1 = subst (λ (k : ℕ). s < 2 ^ k) e h in omega arith
number_of-numbers_in w (suc n) s h =
    let e : w * suc n ≡ w * n + w = omega arith in
    let less : s / 2 ^ w < 2 ^ (w * n) = pow.shr_lt (w * n) w (subst (λ (k : ℕ). s < 2 ^ k) e h) in
    ap (λ (m : ℕ). m * 2 ^ w + s % 2 ^ w % 2 ^ w) (number_of-numbers_in w n (s / 2 ^ w) less) ∙ ap (λ (m : ℕ). s / 2 ^ w * 2 ^ w + m) (mod-mod s (2 ^ w)) ∙ pow.split s w

pub numbers_in-number_of : (w : ℕ) (xs : List ℕ) → AllByRecursion (λ x. x < 2 ^ w) xs → numbers_in w (length xs) (number_of w xs) ≡ xs
numbers_in-number_of w [] h = refl
numbers_in-number_of w (x ∷ xs) h =
    let is : x % 2 ^ w ≡ x = mod-eq_of_lt h.0 in
    let first : (number_of w xs * 2 ^ w + x % 2 ^ w) % 2 ^ w ≡ x = pow.low (number_of w xs) w (mod-lt x (pow_pos w)) ∙ is in
    let rest : (number_of w xs * 2 ^ w + x % 2 ^ w) / 2 ^ w ≡ number_of w xs = pow.high (number_of w xs) w (mod-lt x (pow_pos w)) in
    ap (λ (y : ℕ). y ∷ numbers_in w (length xs) ((number_of w xs * 2 ^ w + x % 2 ^ w) / 2 ^ w)) first ∙ ap (λ (s : ℕ). x ∷ numbers_in w (length xs) s) rest ∙ ap (λ (ys : List ℕ). x ∷ ys) (numbers_in-number_of w xs h.1)

-- the numbers in a section are within their bits
pub numbers_in_lt : (w n s : ℕ) → AllByRecursion (λ x. x < 2 ^ w) (numbers_in w n s)
numbers_in_lt w zero s = tt
numbers_in_lt w (suc n) s = (mod-lt s (pow_pos w), numbers_in_lt w n (s / 2 ^ w))

-- ---- words

pub section_of_lt : (ws : List ℕ) (n : ℕ) → length ws ≡ n → section_of ws < 2 ^ (64 * n)
section_of_lt ws n e = subst (λ (k : ℕ). section_of ws < 2 ^ (64 * k)) e (number_of_lt 64 ws)

pub section_of-words_of : (n s : ℕ) → s < 2 ^ (64 * n) → section_of (words_of n s) ≡ s
section_of-words_of n s h = number_of-numbers_in 64 n s h

-- some words for so many bits
pub in_words_for : (bits s : ℕ) → s < 2 ^ bits → s < 2 ^ (64 * words_for bits)
in_words_for bits s h = wider s bits (64 * ((bits + 63) / 64)) (omega arith) h

pub masked_section : (bits s : ℕ) → s < 2 ^ bits → section_of (words_of (words_for bits) s) % 2 ^ bits ≡ s
masked_section bits s h = ap (λ (n : ℕ). n % 2 ^ bits) (section_of-words_of (words_for bits) s (in_words_for bits s h)) ∙ mod-eq_of_lt h

-- ---- needed words

pub needed_words_le : (w n : ℕ) → needed_words w n ≤ w
needed_words_le zero n = omega arith
needed_words_le (suc w) n = by (nat_lt n (2 ^ (64 * w))) (needed_words_le w n)
  where
    by : (b : Bool) → needed_words w n ≤ w → (if b then needed_words w n else suc w) ≤ suc w
    by true h = omega arith
    by false h = omega arith

pub needed_words_hold : (w n : ℕ) → n < 2 ^ (64 * w) → n < 2 ^ (64 * needed_words w n)
needed_words_hold zero n h = h
needed_words_hold (suc w) n h = by (nat_lt n (2 ^ (64 * w))) refl (needed_words_hold w n)
  where
    by : (b : Bool) → nat_lt n (2 ^ (64 * w)) ≡ b → (n < 2 ^ (64 * w) → n < 2 ^ (64 * needed_words w n)) → n < 2 ^ (64 * (if b then needed_words w n else suc w))
    by true e more = more (grind arith)
    by false e more = h

one_word_more : (v w n : ℕ) → w ≤ suc v → n < 2 ^ (64 * w) → (w ≤ v → needed_words v n ≡ needed_words w n) → (b : Bool) → nat_lt v w ≡ b → needed_words (suc v) n ≡ needed_words w n
one_word_more v w n le h more true e = let same : suc v ≡ w = grind arith in ap (λ z. needed_words z n) same
one_word_more v w n le h more false e =
    let less : w ≤ v = grind arith in
    ap (λ (b : Bool). if b then needed_words v n else suc v) (is_lt n (2 ^ (64 * v)) (wider n (64 * w) (64 * v) (omega arith) h)) ∙ more less

-- a section that fits into fewer words needs the same words
pub needed_words-more : (v w n : ℕ) → w ≤ v → n < 2 ^ (64 * w) → needed_words v n ≡ needed_words w n
needed_words-more zero w n le h = ap (λ z. needed_words z n) zero_is
  where
    zero_is : zero ≡ w
    zero_is = omega arith
needed_words-more (suc v) w n le h = one_word_more v w n le h (λ less. needed_words-more v w n less h) (nat_lt v w) refl

-- what is needed is needed of itself
pub needed_words-again : (w n : ℕ) → n < 2 ^ (64 * w) → needed_words (needed_words w n) n ≡ needed_words w n
needed_words-again w n h = sym (needed_words-more w (needed_words w n) n (needed_words_le w n) (needed_words_hold w n h))
