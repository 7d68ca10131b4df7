-- Words of a section whose last one is cut.
use Rattle.std.proofs.Common.{◌≡◌, ℕ, zero, suc, ◌+◌, ◌-◌, ◌*◌, ◌/◌, ◌%◌, ◌^◌, ◌<◌, List, [], ◌∷◌, ◌++◌, length, get_or, set, refl, ap, sym, ◌∙◌, arith}
use Rattle.std.proofs.Math.Nat.{mod-lt, mod-eq_of_lt}
use Rattle.std.proofs.lemmas.Nat.{pow_pos}
use Rattle.std.proofs.lemmas.List.{length-append}
use lib.Pow as pow
use Rattle.capnp_model.specs.Sections.{words_of, words_for}
use Rattle.capnp_model.proofs.lemmas.Numbers.{length-numbers_in}

-- the lowest word, and those behind it
low_word : (s j : ℕ) → s % 2 ^ (j + 64) % 2 ^ 64 ≡ s % 2 ^ 64
low_word s j = pow.mod-mod-pow s j 64

high_words : (s j : ℕ) → s % 2 ^ (j + 64) / 2 ^ 64 ≡ s / 2 ^ 64 % 2 ^ j
high_words s j =
    let small : s % 2 ^ 64 < 2 ^ 64 = mod-lt s (pow_pos 64) in
    ap (λ (n : ℕ). n / 2 ^ 64) (pow.mod-pow-add s j 64) ∙ pow.high (s / 2 ^ 64 % 2 ^ j) 64 small

cut_last : (q r s d : ℕ) → r < 64 → set (words_of (suc q) s) q (get_or (words_of (suc q) s) q d % 2 ^ r) ≡ words_of (suc q) (s % 2 ^ (64 * q + r))
cut_last zero r s d h =
    let bits : 64 * 0 + r ≡ r = omega arith in
    let a : (64 - r) + r ≡ 64 = omega arith in
    let inner : s % 2 ^ 64 % 2 ^ r ≡ s % 2 ^ r = ap (λ (k : ℕ). s % 2 ^ k % 2 ^ r) (sym a) ∙ pow.mod-mod-pow s (64 - r) r in
    let below : s % 2 ^ r < 2 ^ r = mod-lt s (pow_pos r) in
    let less : 2 ^ r < 2 ^ 64 = pow.pow-lt h in
    let small : s % 2 ^ r < 2 ^ 64 = omega arith in
    ap (λ (w : ℕ). w ∷ []) (inner ∙ sym (mod-eq_of_lt small) ∙ ap (λ (k : ℕ). s % 2 ^ k % 2 ^ 64) (sym bits))
cut_last (suc q) r s d h =
    let rest = cut_last q r (s / 2 ^ 64) d h in
    let bits : (64 * q + r) + 64 ≡ 64 * suc q + r = omega arith in
    ap (λ (ws : List ℕ). s % 2 ^ 64 ∷ ws) rest
    ∙ ap (λ (w : ℕ). w ∷ words_of (suc q) (s / 2 ^ 64 % 2 ^ (64 * q + r))) (sym (low_word s (64 * q + r)))
    ∙ ap (λ (t : ℕ). s % 2 ^ ((64 * q + r) + 64) % 2 ^ 64 ∷ words_of (suc q) t) (sym (high_words s (64 * q + r)))
    ∙ ap (λ (k : ℕ). words_of (suc (suc q)) (s % 2 ^ k)) bits

-- behind other words
pub set_behind : (front ws : List ℕ) (i w : ℕ) → set (front ++ ws) (length front + i) w ≡ front ++ set ws i w
set_behind [] ws i w = let z : 0 + i ≡ i = omega arith in ap (λ (j : ℕ). set ws j w) z
set_behind (x ∷ front) ws i w = let z : suc (length front) + i ≡ suc (length front + i) = omega arith in ap (λ (j : ℕ). set (x ∷ (front ++ ws)) j w) z ∙ ap (λ (xs : List ℕ). x ∷ xs) (set_behind front ws i w)

get_behind : (front ws : List ℕ) (i d : ℕ) → get_or (front ++ ws) (length front + i) d ≡ get_or ws i d
get_behind [] ws i d = let z : 0 + i ≡ i = omega arith in ap (λ (j : ℕ). get_or ws j d) z
get_behind (x ∷ front) ws i d = let z : suc (length front) + i ≡ suc (length front + i) = omega arith in ap (λ (j : ℕ). get_or (x ∷ (front ++ ws)) j d) z ∙ get_behind front ws i d

pub last_cut : (front xs : List ℕ) (bits s end d : ℕ) → xs ≡ front ++ words_of (words_for bits) s → length xs ≡ end → (bits % 64 ≡ 0 → ⊥)
    → set xs (end - 1) (get_or xs (end - 1) d % 2 ^ (bits % 64)) ≡ front ++ words_of (words_for bits) (s % 2 ^ bits)
last_cut front xs bits s end d is long some =
    let q = bits / 64 in
    let r = bits % 64 in
    let count : words_for bits ≡ suc q = omega (arith, some) in
    let whole : 64 * q + r ≡ bits = omega arith in
    let ws = words_of (suc q) s in
    let all : xs ≡ front ++ ws = is ∙ ap (λ (n : ℕ). front ++ words_of n s) count in
    let size : length xs ≡ length front + suc q = ap length all ∙ omega (arith, length-append front ws, length-numbers_in 64 (suc q) s) in
    let last : end - 1 ≡ length front + q = omega arith in
    ap (λ (ys : List ℕ). set ys (end - 1) (get_or ys (end - 1) d % 2 ^ r)) all
    ∙ ap (λ (i : ℕ). set (front ++ ws) i (get_or (front ++ ws) i d % 2 ^ r)) last
    ∙ ap (λ (w : ℕ). set (front ++ ws) (length front + q) (w % 2 ^ r)) (get_behind front ws q d)
    ∙ set_behind front ws q (get_or ws q d % 2 ^ r)
    ∙ ap (λ (ys : List ℕ). front ++ ys) (cut_last q r s d (omega arith) ∙ ap (λ (k : ℕ). words_of (suc q) (s % 2 ^ k)) whole)
    ∙ ap (λ (n : ℕ). front ++ words_of n (s % 2 ^ bits)) (sym count)

-- no bits are behind the last element: the words are as they were
pub nothing_cut : (bits s : ℕ) → bits % 64 ≡ 0 → words_of (words_for bits) s ≡ words_of (words_for bits) (s % 2 ^ bits)
nothing_cut bits s none =
    let whole : 64 * words_for bits ≡ bits = omega arith in
    cut (words_for bits) s ∙ ap (λ (k : ℕ). words_of (words_for bits) (s % 2 ^ k)) whole
  where
    cut : (n t : ℕ) → words_of n t ≡ words_of n (t % 2 ^ (64 * n))
    cut zero t = refl
    cut (suc n) t =
        let bits : 64 * n + 64 ≡ 64 * suc n = omega arith in
        ap (λ (ws : List ℕ). t % 2 ^ 64 ∷ ws) (cut n (t / 2 ^ 64))
        ∙ ap (λ (w : ℕ). w ∷ words_of n (t / 2 ^ 64 % 2 ^ (64 * n))) (sym (low_word t (64 * n)))
        ∙ ap (λ (u : ℕ). t % 2 ^ (64 * n + 64) % 2 ^ 64 ∷ words_of n u) (sym (high_words t (64 * n)))
        ∙ ap (λ (k : ℕ). words_of (suc n) (t % 2 ^ k)) bits

pub shifted : (r : ℕ) → r < 64 → 1 * 2 ^ r % 2 ^ 64 ≡ 2 ^ r
shifted r h = let less : 2 ^ r < 2 ^ 64 = pow.pow-lt h in let one : 1 * 2 ^ r ≡ 2 ^ r = omega arith in ap (λ (n : ℕ). n % 2 ^ 64) one ∙ mod-eq_of_lt less
