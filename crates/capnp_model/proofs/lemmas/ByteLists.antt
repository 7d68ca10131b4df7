-- Bytes in front of others and behind them, and the words that they spell.
use Rattle.std.proofs.Common.{◌≡◌, ℕ, zero, suc, ◌+◌, ◌-◌, ◌*◌, ◌^◌, ◌<◌, List, [], ◌∷◌, ◌++◌, length, take, drop, ap, sym, ◌∙◌, arith, length-take-le, length-drop, take-append-drop}
use Rattle.std.specs.Int.{from_le_bytes, to_le_bytes, w64}
use Rattle.std.proofs.lemmas.List.{get_or-take, get_or-drop, nil_from_length}
use Rattle.std.proofs.lemmas.Nat.{le_bytes_8}
use Rattle.capnp_model.specs.Bytes.{AreBytes, bytes_of_words, words_in_bytes}

pub bytes_in_front : (n : ℕ) (bytes : List ℕ) → AreBytes bytes → AreBytes (take n bytes)
bytes_in_front zero bytes small i = omega arith
bytes_in_front (suc n) [] small i = omega arith
bytes_in_front (suc n) (b ∷ bytes) small zero = small zero
bytes_in_front (suc n) (b ∷ bytes) small (suc i) = bytes_in_front n bytes (λ j. small (suc j)) i

pub bytes_behind : (n : ℕ) (bytes : List ℕ) → AreBytes bytes → AreBytes (drop n bytes)
bytes_behind n bytes small i = rw (get_or-drop n bytes i 0) (small (n + i))

-- Eight bytes make a number below 2 ^ 64.
pub word_bound : (bytes : List ℕ) → AreBytes bytes → from_le_bytes w64 bytes < 2 ^ 64
word_bound bytes small = omega (arith, small 0, small 1, small 2, small 3, small 4, small 5, small 6, small 7)

-- a word is that of its first eight bytes
pub word_of_eight : (bytes : List ℕ) → from_le_bytes w64 (take 8 bytes) ≡ from_le_bytes w64 bytes
word_of_eight bytes =
    let at0 = get_or-take 8 bytes 0 0 (omega arith) in
    let at1 = get_or-take 8 bytes 1 0 (omega arith) in
    let at2 = get_or-take 8 bytes 2 0 (omega arith) in
    let at3 = get_or-take 8 bytes 3 0 (omega arith) in
    let at4 = get_or-take 8 bytes 4 0 (omega arith) in
    let at5 = get_or-take 8 bytes 5 0 (omega arith) in
    let at6 = get_or-take 8 bytes 6 0 (omega arith) in
    let at7 = get_or-take 8 bytes 7 0 (omega arith) in
    omega arith

-- The words of whole words' bytes spell them.
pub words_spell : (n : ℕ) (bytes : List ℕ) → length bytes ≡ 8 * n → AreBytes bytes → bytes_of_words (words_in_bytes n bytes) ≡ bytes
words_spell zero bytes long small = sym (nil_from_length bytes (omega arith))
words_spell (suc n) bytes long small =
    let first : to_le_bytes w64 (from_le_bytes w64 bytes) ≡ take 8 bytes = le_bytes_8 (take 8 bytes) (from_le_bytes w64 bytes) (length-take-le 8 bytes (omega arith)) (bytes_in_front 8 bytes small) (sym (word_of_eight bytes)) in
    let rest = words_spell n (drop 8 bytes) (omega (arith, length-drop 8 bytes)) (bytes_behind 8 bytes small) in
    ap (λ l. l ++ bytes_of_words (words_in_bytes n (drop 8 bytes))) first ∙ ap (λ l. take 8 bytes ++ l) rest ∙ take-append-drop 8 bytes
