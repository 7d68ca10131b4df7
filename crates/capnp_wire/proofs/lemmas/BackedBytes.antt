-- Bytes as one number, and the words in them.
use Rattle.std.proofs.Common.{◌≡◌, ℕ, zero, suc, ◌+◌, ◌-◌, ◌*◌, ◌/◌, ◌%◌, ◌^◌, ◌≤◌, List, [], ◌∷◌, length, take, drop, Option, Some, None, true, refl, ap, sym, ◌∙◌, arith}
use Rattle.std.specs.Prelude.{unwrap_or}
use Rattle.std.specs.List.{slice_get}
use Rattle.std.specs.Option.{is_some}
use Rattle.std.specs.Int.{from_le_bytes, w64}
use Rattle.std.proofs.lemmas.Nat.{pow_pos}
use Rattle.std.proofs.lemmas.List.{length-drop}
use Rattle.std.proofs.Math.Nat.{mod-lt, mod-mod}
use lib.Pow as pow
use Rattle.capnp_model.specs.Bytes.{words_in_bytes, AreBytes}
use Rattle.capnp_model.specs.Sections.{number_of, section_of}
use Rattle.capnp_model.specs.Segments.{place, words_at}
use Rattle.capnp_units.specs.Segments.{whole_words, words_in}
use Rattle.capnp_units.proofs.lemmas.FirstBytes.{first_eight}
use Rattle.capnp_wire_objects.specs.Arenas.{segment_bytes}
use Rattle.capnp_wire_objects.specs.Inside.{section_at, section_in}
use Rattle.capnp_wire_objects.proofs.lemmas.Words.{whole_words-length, segment_there, none_there}
use Rattle.capnp_wire_objects.proofs.lemmas.Tags.{words_are}
use Rattle.capnp_model.proofs.lemmas.WordsInBytes.{words_in_bytes-drop, words_in_bytes-take}
use Rattle.capnp_model.proofs.lemmas.ByteLists.{bytes_behind}

-- ---- parts of a number

pub number_of-drop : (w n : ℕ) (xs : List ℕ) → number_of w (drop n xs) ≡ number_of w xs / 2 ^ (w * n)
number_of-drop w zero xs = let e : w * 0 ≡ 0 = omega arith in let one : number_of w xs ≡ number_of w xs / 2 ^ 0 = omega arith in one ∙ ap (λ (k : ℕ). number_of w xs / 2 ^ k) (sym e)
number_of-drop w (suc n) [] = let e : 0 ≡ 0 / 2 ^ (w * suc n) = omega (arith, pow_pos (w * suc n)) in e
number_of-drop w (suc n) (x ∷ xs) =
    let sum : w + w * n ≡ w * suc n = omega arith in
    number_of-drop w n xs ∙ ap (λ (m : ℕ). m / 2 ^ (w * n)) (sym (pow.high (number_of w xs) w (mod-lt x (pow_pos w))))
    ∙ pow.shr-shr (number_of w xs * 2 ^ w + x % 2 ^ w) w (w * n) ∙ ap (λ (k : ℕ). (number_of w xs * 2 ^ w + x % 2 ^ w) / 2 ^ k) sum

pub number_of-take : (w n : ℕ) (xs : List ℕ) → number_of w (take n xs) ≡ number_of w xs % 2 ^ (w * n)
number_of-take w zero xs = let e : w * 0 ≡ 0 = omega arith in let one : 0 ≡ number_of w xs % 2 ^ 0 = omega arith in one ∙ ap (λ (k : ℕ). number_of w xs % 2 ^ k) (sym e)
number_of-take w (suc n) [] = let e : 0 ≡ 0 % 2 ^ (w * suc n) = omega (arith, pow_pos (w * suc n)) in e
number_of-take w (suc n) (x ∷ xs) =
    let sum : w * n + w ≡ w * suc n = omega arith in
    let all : ℕ = number_of w xs * 2 ^ w + x % 2 ^ w in
    let r = mod-lt x (pow_pos w) in
    ap (λ (m : ℕ). m * 2 ^ w + x % 2 ^ w) (number_of-take w n xs ∙ ap (λ (m : ℕ). m % 2 ^ (w * n)) (sym (pow.high (number_of w xs) w r)))
    ∙ ap (λ (m : ℕ). (all / 2 ^ w % 2 ^ (w * n)) * 2 ^ w + m) (sym (pow.low (number_of w xs) w r))
    ∙ sym (pow.mod-pow-add all (w * n) w) ∙ ap (λ (k : ℕ). all % 2 ^ k) sum

-- ---- words

pub word_is : (bytes : List ℕ) → 8 ≤ length bytes → AreBytes bytes → from_le_bytes w64 bytes ≡ number_of 8 bytes % 2 ^ 64
word_is bytes long small =
    let one : number_of 8 bytes / 2 ^ 0 ≡ number_of 8 bytes = omega arith in
    first_eight bytes long (small 0) (small 1) (small 2) (small 3) (small 4) (small 5) (small 6) (small 7) ∙ ap (λ (m : ℕ). m % 2 ^ 64) one

words_are_bits : (n : ℕ) (bytes : List ℕ) → 8 * n ≤ length bytes → AreBytes bytes → section_of (words_in_bytes n bytes) ≡ number_of 8 bytes % 2 ^ (64 * n)
words_are_bits zero bytes long small = omega arith
words_are_bits (suc n) bytes long small =
    let sum : 64 * n + 64 ≡ 64 * suc n = omega arith in
    let all : ℕ = number_of 8 bytes in
    let eight : 8 * 8 ≡ 64 = refl in
    let rest : section_of (words_in_bytes n (drop 8 bytes)) ≡ all / 2 ^ 64 % 2 ^ (64 * n) =
    words_are_bits n (drop 8 bytes) (omega (arith, length-drop 8 bytes)) (bytes_behind 8 bytes small) ∙ ap (λ (m : ℕ). m % 2 ^ (64 * n)) (number_of-drop 8 8 bytes) in
    let first : from_le_bytes w64 bytes % 2 ^ 64 ≡ all % 2 ^ 64 = ap (λ (m : ℕ). m % 2 ^ 64) (word_is bytes (omega arith) small) ∙ mod-mod all (2 ^ 64) in
    ap (λ (m : ℕ). m * 2 ^ 64 + from_le_bytes w64 bytes % 2 ^ 64) rest ∙ ap (λ (m : ℕ). (all / 2 ^ 64 % 2 ^ (64 * n)) * 2 ^ 64 + m) first
    ∙ sym (pow.mod-pow-add all (64 * n) 64) ∙ ap (λ (k : ℕ). all % 2 ^ k) sum

-- the words at a position of bytes
words_of_part : (p n : ℕ) (bytes : List ℕ) → p + n ≤ length bytes / 8 → take n (drop p (whole_words bytes)) ≡ words_in_bytes n (drop (8 * p) bytes)
words_of_part p n bytes h =
    let r = length bytes / 8 - p - n in
    let all : length bytes / 8 ≡ p + (n + r) = omega arith in
    ap (λ (k : ℕ). take n (drop p (words_in_bytes k bytes))) all ∙ ap (take n) (words_in_bytes-drop p (n + r) bytes) ∙ words_in_bytes-take n r (drop (8 * p) bytes)

-- the bytes of words are their section
pub section_of_part : (p n : ℕ) (bytes : List ℕ) → AreBytes bytes → p + n ≤ length bytes / 8 → number_of 8 (take (8 * n) (drop (8 * p) bytes)) ≡ section_of (take n (drop p (whole_words bytes)))
section_of_part p n bytes small h =
    let bits : 8 * (8 * n) ≡ 64 * n = omega arith in
    number_of-take 8 (8 * n) (drop (8 * p) bytes) ∙ ap (λ (k : ℕ). number_of 8 (drop (8 * p) bytes) % 2 ^ k) bits
    ∙ sym (words_are_bits n (drop (8 * p) bytes) (omega (arith, length-drop (8 * p) bytes)) (bytes_behind (8 * p) bytes small)) ∙ ap section_of (sym (words_of_part p n bytes h))

pub section_there : (s : List (List ℕ)) (i p n : ℕ) (bytes : List ℕ) → Some bytes ≡ slice_get s i → p + n ≤ length bytes / 8 → section_of (take n (drop p (whole_words bytes))) ≡ section_at (words_in s) (place i p) n
unfolding section_at
section_there s i p n bytes e h =
    let there = segment_there s i bytes e in
    sym (ap section_in (words_are (words_in s) (place i p) n (whole_words bytes) there (let len = whole_words-length bytes in omega arith)))

-- a segment that has words is there
pub segment_is : (s : List (List ℕ)) (i p n : ℕ) (bytes : List ℕ) → bytes ≡ segment_bytes s i → is_some (words_at (words_in s) (place i p) n) ≡ true → Some bytes ≡ slice_get s i
segment_is s i p n bytes is has = by (slice_get s i) refl is
  where
    by : (o : Option (List ℕ)) → slice_get s i ≡ o → bytes ≡ unwrap_or o [] → Some bytes ≡ slice_get s i
    by None e h = absurd (none_there s i p n (sym e) has)
    by (Some bs) e h = ap (λ (x : List ℕ). Some x) h ∙ sym e
