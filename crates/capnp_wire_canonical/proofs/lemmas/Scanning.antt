-- How many words a section needs, by a scan from its end.
use Rattle.std.proofs.Common.{◌≡◌, ℕ, zero, suc, ◌+◌, ◌-◌, ◌*◌, ◌%◌, ◌^◌, ◌<◌, ◌≤◌, min, Bool, true, false, nat_lt, if◌then◌else◌, List, [], ◌∷◌, length, get_or, take, drop, refl, ap, sym, ◌∙◌, arith, subst, inl, inr}
use Rattle.std.proofs.Math.Nat.{mod-eq_of_lt, pow-le-pow_right, mul-le-mul_right}
use Rattle.std.proofs.lemmas.Bool.{cases_lt}
use Rattle.std.proofs.lemmas.Bool.Decides.{nat_tests}
use lib.Pow as pow
use Rattle.capnp_model.specs.Sections.{section_of, needed_words}
use Rattle.capnp_model.proofs.lemmas.Numbers.{section_of_lt, wider}
use Rattle.capnp_model.proofs.lemmas.Lists.{length-take-short}

-- the words behind a place, and those before it
pub section_split : (n : ℕ) (ws : List ℕ) → section_of ws ≡ section_of (drop n ws) * 2 ^ (64 * n) + section_of (take n ws)
section_split zero ws = omega arith
section_split (suc n) [] = omega arith
section_split (suc n) (x ∷ ws) =
    let rest = section_split n ws in
    let power : 2 ^ (64 * suc n) ≡ 2 ^ (64 * n) * 2 ^ 64 = ap (λ (k : ℕ). 2 ^ k) (let e : 64 * suc n ≡ 64 * n + 64 = omega arith in e) ∙ pow.pow-add 2 (64 * n) 64 in
    ap (λ (s : ℕ). s * 2 ^ 64 + x % 2 ^ 64) rest ∙ spread (section_of (drop n ws)) (2 ^ (64 * n)) (section_of (take n ws)) (x % 2 ^ 64) (2 ^ 64) ∙ ap (λ (p : ℕ). section_of (drop n ws) * p + (section_of (take n ws) * 2 ^ 64 + x % 2 ^ 64)) (sym power)
  where
    spread : (a p b c w : ℕ) → (a * p + b) * w + c ≡ a * (p * w) + (b * w + c)
    spread a p b c w = grind arith

pub front_small : (n : ℕ) (ws : List ℕ) → section_of (take n ws) < 2 ^ (64 * n)
front_small n ws = let short = length-take-short n ws in wider (section_of (take n ws)) (64 * length (take n ws)) (64 * n) (omega arith) (section_of_lt (take n ws) (length (take n ws)) refl)

power_less : (j m s : ℕ) → 2 ^ (64 * j) ≤ s → s < 2 ^ (64 * m) → j < m
power_less j m s a b = elim (cases_lt j m) [
  | inl less ↦ less
  | inr ge ↦ let p : 2 ^ (64 * m) ≤ 2 ^ (64 * j) = pow-le-pow_right {n = 2} (omega arith) {i = 64 * m} {j = 64 * j} (omega arith) in absurd (omega arith)
]

fewer : (k m s : ℕ) → ((j : ℕ) → k ≡ suc j → 2 ^ (64 * j) ≤ s) → s < 2 ^ (64 * m) → k ≤ m
fewer zero m s h less = omega arith
fewer (suc j) m s h less = let p = power_less j m s (h j refl) less in omega arith

-- where nothing is behind, and the last word is not 0, just so many are needed
pub needed_is : (most n s : ℕ) → s < 2 ^ (64 * n) → ((m : ℕ) → n ≡ suc m → 2 ^ (64 * m) ≤ s) → needed_words most s ≡ min most n
needed_is zero n s small last = let z : 0 ≡ min 0 n = omega arith in z
needed_is (suc m) n s small last = by (nat_lt s (2 ^ (64 * m))) refl (needed_is m n s small last)
  where
    by : (b : Bool) → nat_lt s (2 ^ (64 * m)) ≡ b → needed_words m s ≡ min m n → (if b then needed_words m s else suc m) ≡ min (suc m) n
    by true e rest =
        let less : s < 2 ^ (64 * m) = grind (arith, nat_tests) in
        let le : n ≤ m = fewer n m s last less in
        omega arith
    by false e rest =
        let ge : 2 ^ (64 * m) ≤ s = grind (arith, nat_tests) in
        let lt : m < n = power_less m n s ge small in
        omega arith

needed_within : (most n s : ℕ) → s < 2 ^ (64 * n) → needed_words most s ≤ n
needed_within zero n s small = omega arith
needed_within (suc m) n s small = by (nat_lt s (2 ^ (64 * m))) refl (needed_within m n s small)
  where
    by : (b : Bool) → nat_lt s (2 ^ (64 * m)) ≡ b → needed_words m s ≤ n → (if b then needed_words m s else suc m) ≤ n
    by true e rest = rest
    by false e rest =
        let ge : 2 ^ (64 * m) ≤ s = grind (arith, nat_tests) in
        let lt : m < n = power_less m n s ge small in
        omega arith

-- where all words behind are 0 no more are needed
pub few_needed : (most n : ℕ) (ws : List ℕ) → section_of (drop n ws) ≡ 0 → needed_words most (section_of ws) ≤ n
few_needed most n ws e =
    let split = section_split n ws in
    let front = front_small n ws in
    let all : section_of ws ≡ section_of (take n ws) = split ∙ ap (λ (y : ℕ). y * 2 ^ (64 * n) + section_of (take n ws)) e ∙ (let z : 0 * 2 ^ (64 * n) + section_of (take n ws) ≡ section_of (take n ws) = omega arith in z) in
    needed_within most n (section_of ws) (omega arith)

-- one zero word less
pub zero_less : (n : ℕ) (ws : List ℕ) → 0 < n → section_of (drop n ws) ≡ 0 → get_or ws (n - 1) 0 ≡ 0 → section_of (drop (n - 1) ws) ≡ 0
zero_less zero ws h e z = absurd (omega arith)
zero_less (suc n) ws h e z = ap (λ (j : ℕ). section_of (drop j ws)) (let i : suc n - 1 ≡ n = omega arith in i) ∙ go n ws e (ap (λ (j : ℕ). get_or ws j 0) (let i : n ≡ suc n - 1 = omega arith in i) ∙ z)
  where
    go : (k : ℕ) (xs : List ℕ) → section_of (drop (suc k) xs) ≡ 0 → get_or xs k 0 ≡ 0 → section_of (drop k xs) ≡ 0
    go zero [] e z = refl
    go zero (x ∷ xs) e z = ap (λ (y : ℕ). section_of xs * 2 ^ 64 + y % 2 ^ 64) z ∙ ap (λ (y : ℕ). y * 2 ^ 64 + 0) e
    go (suc k) [] e z = refl
    go (suc k) (x ∷ xs) e z = go k xs e z

-- a word that is not 0
some_word : (n : ℕ) (ws : List ℕ) (w : ℕ) → w ≡ get_or ws n 0 → w < 2 ^ 64 → (w ≡ 0 → ⊥) → 1 ≤ section_of (drop n ws)
some_word zero [] w e f h = absurd (h e)
some_word zero (x ∷ ws) w e f h = let is : x % 2 ^ 64 ≡ w = ap (λ (y : ℕ). y % 2 ^ 64) (sym e) ∙ mod-eq_of_lt f in omega (arith, h)
some_word (suc n) [] w e f h = absurd (h e)
some_word (suc n) (x ∷ ws) w e f h = some_word n ws w e f h

pub last_word : (n m most : ℕ) (ws : List ℕ) (w : ℕ) → n ≡ m + 1 → section_of (drop n ws) ≡ 0 → w ≡ get_or ws m 0 → w < 2 ^ 64 → (w ≡ 0 → ⊥) → min n most ≡ needed_words most (section_of ws)
last_word n m most ws w one e is f h =
    let s = section_of ws in
    let split = section_split n ws in
    let front = front_small n ws in
    let all : s ≡ section_of (take n ws) = split ∙ ap (λ (y : ℕ). y * 2 ^ (64 * n) + section_of (take n ws)) e ∙ (let z : 0 * 2 ^ (64 * n) + section_of (take n ws) ≡ section_of (take n ws) = omega arith in z) in
    let small : s < 2 ^ (64 * n) = omega arith in
    let some = some_word m ws w is f h in
    let split_too = section_split m ws in
    let large : 2 ^ (64 * m) ≤ section_of (drop m ws) * 2 ^ (64 * m) = let p : 1 * 2 ^ (64 * m) ≤ section_of (drop m ws) * 2 ^ (64 * m) = mul-le-mul_right (2 ^ (64 * m)) some in omega arith in
    let big : 2 ^ (64 * m) ≤ s = omega arith in
    let last : (j : ℕ) → n ≡ suc j → 2 ^ (64 * j) ≤ s = λ j e. let same : m ≡ j = omega arith in subst (λ (i : ℕ). 2 ^ (64 * i) ≤ s) same big in
    let needed = needed_is most n s small last in
    omega arith

pub nothing_behind_words : (ws : List ℕ) → section_of (drop (length ws) ws) ≡ 0
nothing_behind_words [] = refl
nothing_behind_words (x ∷ ws) = nothing_behind_words ws
