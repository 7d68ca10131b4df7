-- The number of bytes, by words.
use Rattle.std.proofs.Common.{◌≡◌, ℕ, zero, suc, ◌+◌, ◌-◌, ◌*◌, ◌/◌, ◌%◌, ◌^◌, ◌<◌, ◌≤◌, List, [], ◌∷◌, ◌++◌, length, take, drop, refl, ap, sym, ◌∙◌, arith}
use Rattle.std.proofs.lemmas.List.{length-take, length-drop, take-append-drop}
use Rattle.std.proofs.Math.Pow.{pow_mono}
use Rattle.std.proofs.Math.Nat.{mod-eq_of_lt, div-eq_of_lt, zero-div, div-add-mod}
use Rattle.capnp_model.specs.Bytes.{words_in_bytes, AreBytes}
use Rattle.capnp_model.specs.Sections.{bits_at, number_of, section_of, with_bits}
use Rattle.capnp_model.proofs.lemmas.Numbers.{number_of_lt}
use Rattle.capnp_model.proofs.lemmas.SectionElements.{number_of-more}
use Rattle.capnp_units.specs.Segments.{whole_words}
use Rattle.capnp_wire_objects.proofs.lemmas.Words.{whole_words-length}
use Rattle.capnp_wire.proofs.lemmas.Bytes.{number_of-drop, number_of-take, section_of_part}
use Rattle.capnp_model_writes.specs.Writes.{spliced}
use Rattle.capnp_copy_arenas.specs.Memory.{overwritten}
use Rattle.capnp_copy_arenas.specs.Blobs.{whole_of, last_of, front_of}
use Rattle.capnp_copy_arenas.proofs.ByteWords.{words_append}

take_all : (n : ℕ) (xs : List ℕ) → length xs ≡ n → take n xs ≡ xs
take_all zero [] e = refl
take_all zero (x ∷ xs) e = absurd (omega (arith, e))
take_all (suc n) [] e = refl
take_all (suc n) (x ∷ xs) e = ap (λ (ys : List ℕ). x ∷ ys) (take_all n xs (omega (arith, e)))

nil_behind : (xs : List ℕ) → xs ++ [] ≡ xs
nil_behind [] = refl
nil_behind (x ∷ xs) = ap (λ (ys : List ℕ). x ∷ ys) (nil_behind xs)

-- the words of the bytes that fill them
front_length : (bytes : List ℕ) → length (front_of bytes) ≡ 8 * (length bytes / 8)
front_length bytes = length-take (8 * (length bytes / 8)) bytes ∙ omega arith

front_words : (bytes : List ℕ) → words_in_bytes (length bytes / 8) bytes ≡ words_in_bytes (length bytes / 8) (front_of bytes)
front_words bytes =
    let n = length bytes / 8 in
    let sum : length bytes / 8 ≡ length bytes / 8 + 0 = omega arith in
    let parts : bytes ≡ front_of bytes ++ drop (8 * (length bytes / 8)) bytes = sym (take-append-drop (8 * (length bytes / 8)) bytes) in
    ap (λ (k : ℕ). words_in_bytes k bytes) sum ∙ ap (words_in_bytes (length bytes / 8 + 0)) parts ∙ words_append (length bytes / 8) 0 (front_of bytes) (drop (8 * (length bytes / 8)) bytes) (front_length bytes) ∙ nil_behind (words_in_bytes (length bytes / 8) (front_of bytes))

pub front_words_length : (bytes : List ℕ) → length (words_in_bytes (whole_of bytes) (front_of bytes)) ≡ whole_of bytes
front_words_length bytes = sym (ap length (front_words bytes)) ∙ whole_words-length bytes

pub front_section : (bytes : List ℕ) → AreBytes bytes → section_of (words_in_bytes (whole_of bytes) (front_of bytes)) ≡ number_of 8 bytes % 2 ^ (8 * (8 * whole_of bytes))
front_section bytes small =
    let l : 0 + length bytes / 8 ≤ length bytes / 8 = omega arith in
    let part = section_of_part 0 (length bytes / 8) bytes small l in
    let all : take (length bytes / 8) (whole_words bytes) ≡ whole_words bytes = take_all (length bytes / 8) (whole_words bytes) (whole_words-length bytes) in
    sym (ap section_of (all ∙ front_words bytes)) ∙ sym part ∙ number_of-take 8 (8 * (length bytes / 8)) bytes

-- and the last word
pub last_is : (bytes : List ℕ) → last_of bytes ≡ number_of 8 bytes / 2 ^ (8 * (8 * whole_of bytes))
last_is bytes = number_of-drop 8 (8 * whole_of bytes) bytes

pub last_small : (bytes : List ℕ) → last_of bytes < 2 ^ 64
last_small bytes =
    let few : 8 * length (drop (8 * (length bytes / 8)) bytes) ≤ 64 = omega (arith, length-drop (8 * (length bytes / 8)) bytes) in
    let a = number_of_lt 8 (drop (8 * (length bytes / 8)) bytes) in
    let b : 2 ^ (8 * length (drop (8 * (length bytes / 8)) bytes)) ≤ 2 ^ 64 = pow_mono few in
    omega (arith, a, b)

joined : (s at x : ℕ) → s < 2 ^ at → with_bits at 64 x s ≡ 2 ^ at * x + s
joined s at x l =
    let low : s % 2 ^ at ≡ s = mod-eq_of_lt l in
    let none : s / 2 ^ (at + 64) ≡ 0 = (let more : 2 ^ at ≤ 2 ^ (at + 64) = pow_mono (omega arith) in div-eq_of_lt (omega (arith, l, more))) in
    ap (λ (z : ℕ). (z * 2 ^ 64 + x) * 2 ^ at + s % 2 ^ at) none ∙ ap (λ (z : ℕ). (0 * 2 ^ 64 + x) * 2 ^ at + z) low ∙ grind arith

pub all_words : (bytes : List ℕ) → AreBytes bytes → section_of (words_in_bytes (whole_of bytes) (front_of bytes) ++ last_of bytes ∷ []) ≡ number_of 8 bytes
all_words bytes small =
    let front = words_in_bytes (whole_of bytes) (front_of bytes) in
    let n = number_of 8 bytes in
    let long = front_words_length bytes in
    let at : 64 * length (words_in_bytes (whole_of bytes) (front_of bytes)) ≡ 8 * (8 * whole_of bytes) = omega (arith, long) in
    let low = front_section bytes small in
    let below : section_of (words_in_bytes (whole_of bytes) (front_of bytes)) < 2 ^ (64 * length (words_in_bytes (whole_of bytes) (front_of bytes))) = number_of_lt 64 (words_in_bytes (whole_of bytes) (front_of bytes)) in
    let more = number_of-more 64 (words_in_bytes (whole_of bytes) (front_of bytes)) (last_of bytes) (last_small bytes) in
    let sum = joined (section_of (words_in_bytes (whole_of bytes) (front_of bytes))) (64 * length (words_in_bytes (whole_of bytes) (front_of bytes))) (last_of bytes) below in
    more ∙ sum ∙ ap (λ (k : ℕ). 2 ^ k * last_of bytes + section_of (words_in_bytes (whole_of bytes) (front_of bytes))) at
    ∙ ap (λ (z : ℕ). 2 ^ (8 * (8 * whole_of bytes)) * last_of bytes + z) low
    ∙ ap (λ (z : ℕ). 2 ^ (8 * (8 * whole_of bytes)) * z + number_of 8 bytes % 2 ^ (8 * (8 * whole_of bytes))) (last_is bytes)
    ∙ div-add-mod (number_of 8 bytes) (2 ^ (8 * (8 * whole_of bytes)))

-- the number has no more bits than the list
pub number_fits : (bytes : List ℕ) (count : ℕ) → length bytes ≤ count → number_of 8 bytes % 2 ^ (8 * count) ≡ number_of 8 bytes
number_fits bytes count l =
    let a = number_of_lt 8 bytes in
    let b : 2 ^ (8 * length bytes) ≤ 2 ^ (8 * count) = pow_mono (omega (arith, l)) in
    mod-eq_of_lt (omega (arith, a, b))

-- words in front, and one behind
pub filled : (vs : List ℕ) (x : ℕ) (ws : List ℕ) → length ws ≡ suc (length vs) → spliced (length vs) (x ∷ []) (spliced 0 vs ws) ≡ vs ++ x ∷ []
unfolding spliced
filled vs x [] e = absurd (omega (arith, e))
filled [] x (w ∷ []) e = refl
filled [] x (w ∷ (v ∷ ws)) e = absurd (omega (arith, e))
filled (v ∷ vs) x (w ∷ ws) e = ap (λ (ys : List ℕ). v ∷ ys) (filled vs x ws (omega (arith, e)))

-- ---- the last word's bytes

pub number_behind : (xs ys : List ℕ) → number_of 8 ys ≡ 0 → number_of 8 (xs ++ ys) ≡ number_of 8 xs
number_behind [] ys z = z
number_behind (x ∷ xs) ys z = ap (λ (n : ℕ). n * 2 ^ 8 + x % 2 ^ 8) (number_behind xs ys z)

pub last_number : (rest zs all : List ℕ) → length rest < 8 → number_of 8 zs ≡ 0 → all ≡ overwritten 0 rest zs → bits_at 0 64 (number_of 8 all) ≡ number_of 8 rest
last_number rest zs all l z e =
    let none : number_of 8 (drop (0 + length rest) zs) ≡ 0 = number_of-drop 8 (0 + length rest) zs ∙ ap (λ (n : ℕ). n / 2 ^ (8 * (0 + length rest))) z ∙ zero-div (2 ^ (8 * (0 + length rest))) in
    let same : number_of 8 all ≡ number_of 8 rest = ap (number_of 8) e ∙ number_behind rest (drop (0 + length rest) zs) none in
    let a = number_of_lt 8 rest in
    let few : 8 * length rest ≤ 64 = omega (arith, l) in
    let b : 2 ^ (8 * length rest) ≤ 2 ^ 64 = pow_mono few in
    ap (bits_at 0 64) same ∙ omega (arith, a, b)
