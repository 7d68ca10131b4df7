-- Segments that were read are such as a message can have.
use Rattle.std.proofs.Common.{◌≡◌, ℕ, zero, suc, ◌*◌, ◌^◌, ◌≤◌, ◌<◌, true, get_or, List, [], ◌∷◌, length, take, drop, map, sum, refl, ap, arith, length-drop, length-take-le}
use Rattle.std.specs.List.{AllByRecursion}
use Rattle.std.specs.Int.{from_le_bytes, w64}
use Rattle.std.specs.declared.option.Option.{Option}
use Rattle.capnp_model.specs.Bytes.{words_in_bytes, AreBytes}
use Rattle.capnp_model.specs.Messages.{cut, within, halves}
use Rattle.capnp_model.specs.Spelling.{AreWords, AreShort, CanSpell}
use Rattle.capnp_model.proofs.lemmas.WordsInBytes.{words_in_bytes-length, AreWords-take, AreWords-drop}
use Rattle.capnp_model.proofs.lemmas.ByteLists.{bytes_behind}
use Rattle.capnp_stream.proofs.lemmas.WordLemmas.{sum-cons}

word-bound : (bytes : List ℕ) → AreBytes bytes → from_le_bytes w64 bytes < 2 ^ 64
word-bound bytes small = omega (arith, small 0, small 1, small 2, small 3, small 4, small 5, small 6, small 7)

pub words-are : (n : ℕ) (bytes : List ℕ) → AreBytes bytes → AreWords (words_in_bytes n bytes)
words-are zero bytes small = tt
words-are (suc n) bytes small = (word-bound bytes small, words-are n (drop 8 bytes) (bytes_behind 8 bytes small))

cut-are : (ns ws : List ℕ) → AreWords ws → AllByRecursion AreWords (cut ns ws)
cut-are [] ws h = tt
cut-are (n ∷ ns) ws h = (AreWords-take n ws h, cut-are ns (drop n ws) (AreWords-drop n ws h))

pub length-cut : (ns ws : List ℕ) → length (cut ns ws) ≡ length ns
length-cut [] ws = refl
length-cut (n ∷ ns) ws = ap suc (length-cut ns (drop n ws))

pub lengths-cut : (ns ws : List ℕ) → sum ns ≤ length ws → map length (cut ns ws) ≡ ns
lengths-cut [] ws fits = refl
lengths-cut (n ∷ ns) ws fits =
    let total = sum-cons n ns in
    let one : length (take n ws) ≡ n = length-take-le n ws (omega arith) in
    let others = lengths-cut ns (drop n ws) (omega (arith, length-drop n ws)) in
    rw (one, others) refl

-- the halves of words are short
pub halves-are : (ws : List ℕ) → AreWords ws → AreShort (halves ws)
halves-are [] h = tt
halves-are (w ∷ ws) h = let one : w < 2 ^ 64 = h.0 in (omega arith, (omega arith, halves-are ws h.1))

pub short-taken : (n : ℕ) (ns : List ℕ) → AreShort ns → AreShort (take n ns)
short-taken zero ns h = tt
short-taken (suc n) [] h = tt
short-taken (suc n) (m ∷ ns) h = (h.0, short-taken n ns h.1)

pub short-dropped : (n : ℕ) (ns : List ℕ) → AreShort ns → AreShort (drop n ns)
short-dropped zero ns h = h
short-dropped (suc n) [] h = tt
short-dropped (suc n) (m ∷ ns) h = short-dropped n ns h.1

-- numbers that are each short
pub AreShort-of : (ns : List ℕ) → ((i : ℕ) → get_or ns i 0 < 2 ^ 32) → AreShort ns
AreShort-of [] small = tt
AreShort-of (n ∷ ns) small = (small 0, AreShort-of ns (λ i. small (suc i)))

pub sum-short : (ns : List ℕ) → AreShort ns → sum ns ≤ length ns * 2 ^ 32
sum-short [] short = omega arith
sum-short (n ∷ ns) short = let one : n < 2 ^ 32 = short.0 in omega (arith, sum-cons n ns, sum-short ns short.1)

-- words that were read, cut by a table within the limits
pub CanSpell-of_cut : (limit : Option ℕ) (ns bytes : List ℕ) → 0 < length ns → length ns ≤ 511 → AreShort ns → within (sum ns) limit ≡ true → AreBytes bytes → CanSpell limit (cut ns (words_in_bytes (sum ns) bytes))
CanSpell-of_cut limit ns bytes some few short kept small =
    let words = words_in_bytes (sum ns) bytes in
    let count = length-cut ns words in
    let lengths : map length (cut ns words) ≡ ns = lengths-cut ns words (omega (arith, words_in_bytes-length (sum ns) bytes)) in
    record {
      some = omega arith;
      few = omega arith;
      sizes = rw lengths short;
      total = rw lengths kept;
      words = cut-are ns words (words-are (sum ns) bytes small);
    }
