-- The words of a part of bytes.
use Rattle.std.proofs.Common.{◌≡◌, ℕ, zero, suc, ◌+◌, ◌-◌, ◌*◌, ◌/◌, ◌≤◌, List, ◌∷◌, length, take, drop, Some, refl, ap, sym, ◌∙◌, arith, length-drop, length-take-le}
use Rattle.std.specs.Int.{from_le_bytes, w64}
use Rattle.std.specs.List.{slice_get}
use Rattle.std.proofs.lemmas.List.{drop-take}
use Rattle.capnp_model.specs.Bytes.{words_in_bytes}
use Rattle.capnp_model.specs.Segments.{place, words_at}
use Rattle.capnp_units.specs.Segments.{whole_words, words_in}
use Rattle.capnp_wire_objects.proofs.lemmas.Tags.{words_are}
use Rattle.capnp_model.proofs.lemmas.ByteLists.{word_of_eight}
use Rattle.capnp_wire_objects.proofs.lemmas.Words.{word_of_front, whole_words-length, segment_there}
use Rattle.capnp_model.proofs.lemmas.WordsInBytes.{words_in_bytes-drop, words_in_bytes-take}

front_word : (n : ℕ) (bytes : List ℕ) → 8 ≤ n → from_le_bytes w64 (take n bytes) ≡ from_le_bytes w64 bytes
front_word n bytes h = sym (word_of_eight (take n bytes)) ∙ word_of_front n bytes (take 8 (take n bytes)) h refl

words_in_front : (n : ℕ) (bytes : List ℕ) → words_in_bytes n (take (8 * n) bytes) ≡ words_in_bytes n bytes
words_in_front zero bytes = refl
words_in_front (suc n) bytes =
    let wide : 8 * suc n ≡ 8 + 8 * n = omega arith in
    rw wide
    (ap (λ (w : ℕ). w ∷ words_in_bytes n (drop 8 (take (8 + 8 * n) bytes))) (front_word (8 + 8 * n) bytes (omega arith))
    ∙ ap (λ (l : List ℕ). from_le_bytes w64 bytes ∷ words_in_bytes n l) (drop-take 8 (8 * n) bytes)
    ∙ ap (λ (ws : List ℕ). from_le_bytes w64 bytes ∷ ws) (words_in_front n (drop 8 bytes)))

words_of_part : (p n : ℕ) (bytes : List ℕ) → p + n ≤ length bytes / 8 → whole_words (take (8 * n) (drop (8 * p) bytes)) ≡ take n (drop p (whole_words bytes))
words_of_part p n bytes h =
    let r = length bytes / 8 - p - n in
    let all : p + (n + r) ≡ length bytes / 8 = omega arith in
    let part = take (8 * n) (drop (8 * p) bytes) in
    let long : length part ≡ 8 * n = length-take-le (8 * n) (drop (8 * p) bytes) (omega (arith, length-drop (8 * p) bytes)) in
    let count : length part / 8 ≡ n = omega arith in
    ap (λ (k : ℕ). words_in_bytes k part) count ∙ words_in_front n (drop (8 * p) bytes) ∙ sym (words_in_bytes-take n r (drop (8 * p) bytes))
    ∙ ap (take n) (sym (words_in_bytes-drop p (n + r) bytes)) ∙ ap (λ (k : ℕ). take n (drop p (words_in_bytes k bytes))) all

-- the words at a place are those of its bytes
pub words_there : (s : List (List ℕ)) (i p n : ℕ) (bytes : List ℕ) → Some bytes ≡ slice_get s i → p + n ≤ length bytes / 8 → words_at (words_in s) (place i p) n ≡ Some (whole_words (take (8 * n) (drop (8 * p) bytes)))
words_there s i p n bytes e h =
    let there = segment_there s i bytes e in
    words_are (words_in s) (place i p) n (whole_words bytes) there (let len = whole_words-length bytes in omega arith) ∙ ap (λ (ws : List ℕ). Some ws) (sym (words_of_part p n bytes h))
