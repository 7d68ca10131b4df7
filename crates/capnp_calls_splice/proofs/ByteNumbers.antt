-- The number of bytes, a word at a time.
use Rattle.std.proofs.Common.{◌≡◌, ℕ, ◌+◌, ◌*◌, ◌/◌, ◌%◌, ◌^◌, ◌<◌, ◌≤◌, min, Bool, true, false, nat_lt, List, [], ◌∷◌, ◌++◌, length, take, drop, refl, ap, sym, ◌∙◌, subst, arith}
use Rattle.std.specs.Int.{from_le_bytes, w64}
use Rattle.std.proofs.lemmas.List.{length-map, map_push}
use Rattle.std.proofs.lemmas.Nat.{pow_pos}
use Rattle.std.proofs.Math.Nat.{mod-lt, mod-eq_of_lt, div-eq_of_lt, zero-div}
use lib.Pow as pow
use Rattle.capnp_model.specs.Sections.{bits_at, with_bits, number_of, section_of}
use Rattle.capnp_model.specs.Spelling.{AreWords}
use Rattle.capnp_model.proofs.lemmas.Numbers.{number_of_lt, wider}
use Rattle.capnp_model.proofs.lemmas.SectionElements.{number_of-more}
use Rattle.capnp_wire.proofs.lemmas.Bytes.{number_of-drop, number_of-take}
use Rattle.capnp_wire_canonical.specs.Writes.{words_view}
use Rattle.capnp_copy_arenas.proofs.lemmas.BlobNumbers.{number_behind}

-- ---- eight bytes, or what there is of them

part_cases : (n m l : ℕ) → m ≡ min l 8 → n < 2 ^ (8 * l) → n % 2 ^ (8 * m) / 2 ^ 0 % 2 ^ 64 ≡ n % 2 ^ 64
part_cases n m l e less = by (nat_lt l 8) refl
  where
    by : (b : Bool) → nat_lt l 8 ≡ b → n % 2 ^ (8 * m) / 2 ^ 0 % 2 ^ 64 ≡ n % 2 ^ 64
    by true h =
        let same : m ≡ l = grind arith in
        let is : n % 2 ^ (8 * m) ≡ n = ap (λ (k : ℕ). n % 2 ^ (8 * k)) same ∙ mod-eq_of_lt less in
        ap (λ (k : ℕ). k / 2 ^ 0 % 2 ^ 64) is ∙ omega arith
    by false h =
        let same : m ≡ 8 = grind arith in
        ap (λ (k : ℕ). n % 2 ^ (8 * k) / 2 ^ 0 % 2 ^ 64) same ∙ omega arith

pub part_word : (rest part zs all : List ℕ) (m : ℕ) → m ≡ min (length rest) 8 → part ≡ take m rest → number_of 8 zs ≡ 0 → all ≡ part ++ drop (length part) zs → bits_at 0 64 (number_of 8 all) ≡ number_of 8 rest % 2 ^ 64
part_word rest part zs all m e front z is =
    let none : number_of 8 (drop (length part) zs) ≡ 0 = number_of-drop 8 (length part) zs ∙ ap (λ (n : ℕ). n / 2 ^ (8 * length part)) z ∙ zero-div (2 ^ (8 * length part)) in
    let same : number_of 8 all ≡ number_of 8 rest % 2 ^ (8 * m) = ap (number_of 8) is ∙ number_behind part (drop (length part) zs) none ∙ ap (number_of 8) front ∙ number_of-take 8 m rest in
    ap (λ (n : ℕ). n / 2 ^ 0 % 2 ^ 64) same ∙ part_cases (number_of 8 rest) m (length rest) e (number_of_lt 8 rest)

-- The bytes from a word's place on.
pub bytes_from : (bytes : List ℕ) (i : ℕ) → number_of 8 (drop (8 * i) bytes) % 2 ^ 64 ≡ number_of 8 bytes / 2 ^ (64 * i) % 2 ^ 64
bytes_from bytes i =
    let bits : 8 * (8 * i) ≡ 64 * i = omega arith in
    ap (λ (n : ℕ). n % 2 ^ 64) (number_of-drop 8 (8 * i) bytes ∙ ap (λ (k : ℕ). number_of 8 bytes / 2 ^ k) bits)

-- ---- one word more

joined : (s at x n i : ℕ) → at ≡ 64 * i → s ≡ n % 2 ^ (64 * i) → x ≡ n / 2 ^ (64 * i) % 2 ^ 64 → with_bits at 64 x s ≡ n % 2 ^ (64 * (i + 1))
joined s at x n i e low high =
    let below : s < 2 ^ at = subst (λ (k : ℕ). s < 2 ^ k) (sym e) (subst (λ (k : ℕ). k < 2 ^ (64 * i)) (sym low) (mod-lt n (pow_pos (64 * i)))) in
    let whole : s % 2 ^ at ≡ s = mod-eq_of_lt below in
    let none : s / 2 ^ (at + 64) ≡ 0 = div-eq_of_lt (wider s at (at + 64) (omega arith) below) in
    let only : 0 * 2 ^ 64 + x ≡ x = omega arith in
    let sum : 64 + 64 * i ≡ 64 * (i + 1) = omega arith in
    ap (λ (z : ℕ). (z * 2 ^ 64 + x) * 2 ^ at + s % 2 ^ at) none ∙ ap (λ (z : ℕ). z * 2 ^ at + s % 2 ^ at) only ∙ ap (λ (z : ℕ). x * 2 ^ at + z) whole
    ∙ ap (λ (k : ℕ). x * 2 ^ k + s) e ∙ ap (λ (z : ℕ). z * 2 ^ (64 * i) + s) high ∙ ap (λ (z : ℕ). n / 2 ^ (64 * i) % 2 ^ 64 * 2 ^ (64 * i) + z) low
    ∙ sym (pow.mod-pow-add n 64 (64 * i)) ∙ ap (λ (k : ℕ). n % 2 ^ k) sum

pub next_word : (ws : List (List ℕ)) (w : List ℕ) (new : List (List ℕ)) (n i : ℕ) → new ≡ ws ++ w ∷ [] → length ws ≡ i → section_of (words_view ws) ≡ n % 2 ^ (64 * i) → from_le_bytes w64 w ≡ n / 2 ^ (64 * i) % 2 ^ 64
    → section_of (words_view new) ≡ n % 2 ^ (64 * (i + 1))
next_word ws w new n i e long low high =
    let f = from_le_bytes w64 in
    let at : 64 * length (words_view ws) ≡ 64 * i = ap (λ (k : ℕ). 64 * k) (length-map ws (from_le_bytes w64) ∙ long) in
    let less : from_le_bytes w64 w < 2 ^ 64 = subst (λ (k : ℕ). k < 2 ^ 64) (sym high) (mod-lt (n / 2 ^ (64 * i)) (pow_pos 64)) in
    ap (λ (vs : List (List ℕ)). section_of (words_view vs)) e ∙ ap section_of (map_push (from_le_bytes w64) ws w)
    ∙ number_of-more 64 (words_view ws) (from_le_bytes w64 w) less ∙ joined (section_of (words_view ws)) (64 * length (words_view ws)) (from_le_bytes w64 w) n i at low high

words_push : (ws : List ℕ) (w : ℕ) → AreWords ws → w < 2 ^ 64 → AreWords (ws ++ w ∷ [])
words_push [] w h l = (l, tt)
words_push (x ∷ xs) w h l = (h.0, words_push xs w h.1 l)

pub next_whole : (ws : List (List ℕ)) (w : List ℕ) (new : List (List ℕ)) → new ≡ ws ++ w ∷ [] → AreWords (words_view ws) → from_le_bytes w64 w < 2 ^ 64 → AreWords (words_view new)
next_whole ws w new e all less = subst AreWords (sym (ap words_view e ∙ map_push (from_le_bytes w64) ws w)) (words_push (words_view ws) (from_le_bytes w64 w) all less)

pub all_bits : (n i len l : ℕ) → l ≤ len → len ≤ 8 * i → n < 2 ^ (8 * l) → n % 2 ^ (64 * i) ≡ n
all_bits n i len l few room less = mod-eq_of_lt (wider n (8 * l) (64 * i) (omega arith) less)
