-- Framed messages at the front of a buffer, from the table on.
use Rattle.std.proofs.Common.{◌≡◌, ℕ, zero, suc, ◌+◌, ◌-◌, ◌*◌, ◌/◌, ◌%◌, ◌^◌, ◌<◌, ◌≤◌, ◌≢◌, add-one, List, [], ◌∷◌, ◌++◌, true, false, leb, ltb, get_or, None, Ok, Err, refl, sym, ap, ◌∙◌, arith, length, take, drop, sum, length-drop, length-take-le, take-append-drop, append_assoc}
use Rattle.std.proofs.lemmas.Bool.{lt-ltb, le-leb}
use Rattle.std.proofs.lemmas.Grind.{common_steps}
use Rattle.std.specs.Bool.{IsTrue}
use lib.Dec.{eqb}
use mathlib.Core.Bool.{Bool, ◌&&◌}
use Rattle.std.proofs.Math.Seq.{take-suc}
use Rattle.std.proofs.lemmas.List.{drop-drop, drop-take, get_or-drop, nil_from_length, take_all, take_at, drop_at, length-append}
use Rattle.std.specs.Int.{from_le_bytes, w64}
use Rattle.std.specs.declared.option.Option.{Option}
use Rattle.capnp_units.specs.Segments.{whole_words, words_in}
use Rattle.capnp_model.specs.Kinds as kinds
use Rattle.capnp_model.specs.Segments.{Segments}
use Rattle.capnp_model.specs.Bytes.{words_in_bytes, taken, AreBytes}
use Rattle.capnp_model.specs.Messages.{within, plain_words, flat_words, halves, cut, behind_lengths, behind_first, message_by, flat_at}
use Rattle.capnp_model.proofs.lemmas.Chaining.{ok_then, guard_then}
use Rattle.capnp_model.proofs.lemmas.WordsInBytes.{words_in_bytes-length}
use Rattle.capnp_stream.specs.Ranges.{ranges_from, bytes_at}
use Rattle.capnp_stream.specs.Flat.{table_lengths, table_bytes, frame_segments, Describes}
use Rattle.capnp_stream.specs.declared.flat.NoAllocSegmentTableInfo.{NoAllocSegmentTableInfo}
use Rattle.capnp_stream.proofs.lemmas.PieceLemmas.{err_then, guard_err, plain_short}
use Rattle.capnp_model.proofs.lemmas.ByteLists.{bytes_behind}
use Rattle.capnp_stream.proofs.lemmas.WordLemmas.{from_le_bytes-take, words_in_bytes-take, whole_words-step, segments-of_ranges, sum-snoc, whole_words-of_length}

-- ---- the halves of a table's words

take-halves : (m k : ℕ) (ws : List ℕ) → m ≤ 2 * k → take m (halves (take k ws)) ≡ take m (halves ws)
take-halves zero k ws fits = refl
take-halves (suc m) zero ws fits = absurd (omega (arith, fits))
take-halves (suc m) (suc k) [] fits = refl
take-halves (suc zero) (suc k) (w ∷ ws) fits = refl
take-halves (suc (suc m)) (suc k) (w ∷ ws) fits = ap (λ l. w % 2 ^ 32 ∷ w / 2 ^ 32 ∷ l) (take-halves m k ws (omega (arith, fits)))

even-half : (i : ℕ) (ws : List ℕ) → get_or (halves ws) (2 * i) 0 ≡ get_or ws i 0 % 2 ^ 32
even-half i [] = refl
even-half zero (w ∷ ws) = refl
even-half (suc i) (w ∷ ws) = let next : 2 * suc i ≡ suc (suc (2 * i)) = omega arith in rw next (even-half i ws)

odd-half : (i : ℕ) (ws : List ℕ) → get_or (halves ws) (2 * i + 1) 0 ≡ get_or ws i 0 / 2 ^ 32
odd-half i [] = refl
odd-half zero (w ∷ ws) = refl
odd-half (suc i) (w ∷ ws) = let next : 2 * suc i + 1 ≡ suc (suc (2 * i + 1)) = omega arith in rw next (odd-half i ws)

length-halves : (ws : List ℕ) → length (halves ws) ≡ 2 * length ws
length-halves [] = refl
length-halves (w ∷ ws) = omega (arith, length-halves ws)

-- the word at eight bytes
word-there : (i n : ℕ) (bytes : List ℕ) → i < n → 8 * n ≤ length bytes → get_or (words_in_bytes n bytes) i 0 ≡ from_le_bytes w64 (drop (8 * i) bytes)
word-there i zero bytes inside fits = absurd (omega (arith, inside))
word-there zero (suc n) bytes inside fits = refl
word-there (suc i) (suc n) bytes inside fits =
    let next : 8 * suc i ≡ 8 + 8 * i = omega arith in
    let at : drop (8 * i) (drop 8 bytes) ≡ drop (8 * suc i) bytes = drop-drop (8 * i) 8 bytes ∙ ap (λ k. drop k bytes) (sym next) in
    let f : List ℕ → ℕ = from_le_bytes w64 in
    word-there i n (drop 8 bytes) (omega (arith, inside)) (omega (arith, fits, length-drop 8 bytes)) ∙ ap f at

-- ---- words of a buffer

plain-long : (n : ℕ) (b : List ℕ) → 8 * n ≤ length b → plain_words n b ≡ Ok (take n (whole_words b), drop (8 * n) b)
plain-long n b fits =
    let yes : leb (8 * n) (length b) ≡ true = le-leb _ _ fits in
    let count : length b / 8 ≡ n + (length b / 8 - n) = omega arith in
    let words : words_in_bytes n (take (8 * n) b) ≡ take n (whole_words b) = sym (words_in_bytes-take n (length b / 8 - n) b (omega arith)) ∙ ap (λ k. take n (words_in_bytes k b)) (sym count) in
    let read : taken (8 * n) b ≡ Ok (take (8 * n) b, drop (8 * n) b) = rw yes refl in
    ok_then (taken (8 * n) b) _ (take (8 * n) b, drop (8 * n) b) _ read (ap (λ (ws : List ℕ). Ok (ws, drop (8 * n) b)) words)

flat-long : (n : ℕ) (b : List ℕ) → 8 * n ≤ length b → flat_words n b ≡ Ok (take n (whole_words b), drop (8 * n) b)
flat-long n b fits = let read = plain-long n b fits in rw read refl

flat-short : (n : ℕ) (b : List ℕ) → length b < 8 * n → flat_words n b ≡ Err kinds.MessageEndsPrematurely
flat-short n b short = let no = plain_short n b short in rw no refl

words_in_bytes-front : (n : ℕ) (b : List ℕ) → 8 * n ≤ length b → words_in_bytes n (take (8 * n) b) ≡ words_in_bytes n b
words_in_bytes-front n b fits = sym (words_in_bytes-take n 0 b (omega arith)) ∙ ap (λ k. take n (words_in_bytes k b)) (omega arith) ∙ take_all n (words_in_bytes n b) (omega (arith, words_in_bytes-length n b))

-- ---- lengths in a table

-- the number of a segment, by the word that holds its length
pub even-length : (bytes : List ℕ) (id word : ℕ) → id % 2 ≡ 0 → table_bytes (id + 1) ≤ length bytes → word ≡ from_le_bytes w64 (take 8 (drop (8 * ((id + 1) / 2)) bytes)) → word / 2 ^ 32 ≡ get_or (drop 1 (halves (whole_words bytes))) id 0
even-length bytes id word even fits reads =
    let i = (id + 1) / 2 in
    let at : 1 + id ≡ 2 * i + 1 = omega arith in
    let inside : i < length bytes / 8 = omega arith in
    let is : get_or (whole_words bytes) i 0 ≡ word = word-there i (length bytes / 8) bytes inside (omega arith) ∙ sym (from_le_bytes-take 8 (drop (8 * i) bytes) (omega arith) (omega (arith, length-drop (8 * i) bytes))) ∙ sym reads in
    sym (get_or-drop 1 (halves (whole_words bytes)) id 0 ∙ ap (λ k. get_or (halves (whole_words bytes)) k 0) at ∙ odd-half i (whole_words bytes) ∙ ap (λ w. w / 2 ^ 32) is)

pub odd-length : (bytes : List ℕ) (id word : ℕ) → id % 2 ≢ 0 → table_bytes (id + 1) ≤ length bytes → word ≡ from_le_bytes w64 (take 8 (drop (8 * ((id + 1) / 2)) bytes)) → word % 2 ^ 32 ≡ get_or (drop 1 (halves (whole_words bytes))) id 0
odd-length bytes id word odd fits reads =
    let i = (id + 1) / 2 in
    let at : 1 + id ≡ 2 * i = omega (arith, odd) in
    let inside : i < length bytes / 8 = omega arith in
    let is : get_or (whole_words bytes) i 0 ≡ word = word-there i (length bytes / 8) bytes inside (omega arith) ∙ sym (from_le_bytes-take 8 (drop (8 * i) bytes) (omega arith) (omega (arith, length-drop (8 * i) bytes))) ∙ sym reads in
    sym (get_or-drop 1 (halves (whole_words bytes)) id 0 ∙ ap (λ k. get_or (halves (whole_words bytes)) k 0) at ∙ even-half i (whole_words bytes) ∙ ap (λ w. w % 2 ^ 32) is)

-- the number of a segment, by the four bytes that hold its length
length-by : (r : ℕ) (bytes : List ℕ) (id : ℕ) → id % 2 ≡ r → AreBytes bytes → table_bytes (id + 1) ≤ length bytes
    → get_or bytes (4 * id + 4) 0 + get_or bytes (4 * id + 4 + 1) 0 * 256 + get_or bytes (4 * id + 4 + 2) 0 * 65536 + get_or bytes (4 * id + 4 + 3) 0 * 16777216 ≡ get_or (drop 1 (halves (whole_words bytes))) id 0
length-by zero bytes id even small fits =
    let at = 4 * id in
    let word = from_le_bytes w64 (take 8 (drop (8 * ((id + 1) / 2)) bytes)) in
    let there : 8 * ((id + 1) / 2) ≡ at = omega arith in
    let f : List ℕ → ℕ = from_le_bytes w64 in
    let is : word ≡ f (drop at bytes) = from_le_bytes-take 8 (drop (8 * ((id + 1) / 2)) bytes) (omega arith) (omega (arith, length-drop (8 * ((id + 1) / 2)) bytes)) ∙ ap (λ (k : ℕ). f (drop k bytes)) there in
    let b : (k m : ℕ) → at + k ≡ m → get_or (drop at bytes) k 0 ≡ get_or bytes m 0 = λ k m e. get_or-drop at bytes k 0 ∙ ap (λ j. get_or bytes j 0) e in
    let half = even-length bytes id word even fits refl in
    let first = bytes_behind at bytes small in
    omega (arith, half, is, b 4 (at + 4) refl, b 5 (at + 4 + 1) (omega arith), b 6 (at + 4 + 2) (omega arith), b 7 (at + 4 + 3) (omega arith), first 0, first 1, first 2, first 3)
length-by (suc r) bytes id odd small fits =
    let at = 4 * id + 4 in
    let word = from_le_bytes w64 (take 8 (drop (8 * ((id + 1) / 2)) bytes)) in
    let there : 8 * ((id + 1) / 2) ≡ at = omega arith in
    let f : List ℕ → ℕ = from_le_bytes w64 in
    let is : word ≡ f (drop at bytes) = from_le_bytes-take 8 (drop (8 * ((id + 1) / 2)) bytes) (omega arith) (omega (arith, length-drop (8 * ((id + 1) / 2)) bytes)) ∙ ap (λ (k : ℕ). f (drop k bytes)) there in
    let b : (k m : ℕ) → at + k ≡ m → get_or (drop at bytes) k 0 ≡ get_or bytes m 0 = λ k m e. get_or-drop at bytes k 0 ∙ ap (λ j. get_or bytes j 0) e in
    let half = odd-length bytes id word (omega (arith, odd)) fits refl in
    let first = bytes_behind at bytes small in
    omega (arith, half, is, b 0 at (omega arith), b 1 (at + 1) refl, b 2 (at + 2) refl, b 3 (at + 3) refl, first 0, first 1, first 2, first 3)

pub length-at : (bytes : List ℕ) (id : ℕ) → AreBytes bytes → table_bytes (id + 1) ≤ length bytes
    → get_or bytes (4 * id + 4) 0 + get_or bytes (4 * id + 4 + 1) 0 * 256 + get_or bytes (4 * id + 4 + 2) 0 * 65536 + get_or bytes (4 * id + 4 + 3) 0 * 16777216 ≡ get_or (drop 1 (halves (whole_words bytes))) id 0
length-at bytes id small fits = length-by (id % 2) bytes id refl small fits

pub table-holds : (n : ℕ) (bytes : List ℕ) → table_bytes n ≤ length bytes → length (table_lengths n bytes) ≡ n
table-holds n bytes fits =
    let all = halves (whole_words bytes) in
    length-take-le n (drop 1 all) (omega (arith, length-drop 1 all, length-halves (whole_words bytes), words_in_bytes-length (length bytes / 8) bytes))

pub table-next : (n : ℕ) (bytes : List ℕ) → table_bytes (n + 1) ≤ length bytes → table_lengths (n + 1) bytes ≡ table_lengths n bytes ++ get_or (drop 1 (halves (whole_words bytes))) n 0 ∷ []
table-next n bytes fits =
    let all = halves (whole_words bytes) in
    let inside : n < length (drop 1 all) = omega (arith, length-drop 1 all, length-halves (whole_words bytes), words_in_bytes-length (length bytes / 8) bytes) in
    ap (λ k. take k (drop 1 all)) (add-one n) ∙ take-suc (drop 1 all) n 0 inside

pub table-more : (n : ℕ) (bytes : List ℕ) → table_bytes (n + 1) ≤ length bytes → sum (table_lengths (n + 1) bytes) ≡ sum (table_lengths n bytes) + get_or (drop 1 (halves (whole_words bytes))) n 0
table-more n bytes fits = ap sum (table-next n bytes fits) ∙ sum-snoc (table_lengths n bytes) (get_or (drop 1 (halves (whole_words bytes))) n 0)

whole-front : (k : ℕ) (b : List ℕ) → 8 * k ≤ length b → whole_words (take (8 * k) b) ≡ take k (whole_words b)
whole-front k b fits =
    let count : length b / 8 ≡ k + (length b / 8 - k) = omega arith in
    whole_words-of_length k (take (8 * k) b) (length-take-le (8 * k) b fits) ∙ sym (words_in_bytes-take k (length b / 8 - k) b (omega arith)) ∙ ap (λ m. take k (words_in_bytes m b)) (sym count)

-- what lies behind a table changes none of its lengths
pub table-front : (n : ℕ) (t b : List ℕ) → length t ≡ table_bytes n → table_lengths n (t ++ b) ≡ table_lengths n t
table-front n t b size =
    let k = n / 2 + 1 in
    let all = t ++ b in
    let halved = halves (whole_words all) in
    let front : take k (whole_words all) ≡ whole_words t = sym (whole-front k all (omega (arith, length-append t b))) ∙ ap whole_words (take_at t b (8 * k) size) in
    let same : take (1 + n) halved ≡ take (1 + n) (halves (whole_words t)) = sym (take-halves (1 + n) k (whole_words all) (omega arith)) ∙ ap (λ ws. take (1 + n) (halves ws)) front in
    sym (drop-take 1 n halved) ∙ ap (drop 1) same ∙ drop-take 1 n (halves (whole_words t))

-- nor does what lies behind a buffer that begins with it
pub table-grown : (n : ℕ) (a more : List ℕ) → table_bytes n ≤ length a → table_lengths n (a ++ more) ≡ table_lengths n a
table-grown n a more fits =
    let t = take (table_bytes n) a in
    let behind = drop (table_bytes n) a in
    let size : length t ≡ table_bytes n = length-take-le (table_bytes n) a fits in
    let joined : t ++ behind ≡ a = take-append-drop (table_bytes n) a in
    let all : a ++ more ≡ t ++ (behind ++ more) = ap (λ (l : List ℕ). l ++ more) (sym joined) ∙ append_assoc t behind more in
    ap (table_lengths n) all ∙ table-front n t (behind ++ more) size ∙ sym (table-front n t behind size) ∙ ap (table_lengths n) joined

pub message-in : (n : ℕ) (t body : List ℕ) → length t ≡ table_bytes n → 8 * sum (table_lengths n t) ≤ length body
    → words_in (frame_segments n (t ++ body)) ≡ cut (table_lengths n t) (whole_words (take (8 * sum (table_lengths n t)) body))
message-in n t body size fits =
    let ns = table_lengths n t in
    let total = sum ns in
    let words : words_in_bytes total body ≡ whole_words (take (8 * total) body) = sym (words_in_bytes-front total body fits) ∙ sym (whole_words-of_length total (take (8 * total) body) (length-take-le (8 * total) body fits)) in
    ap (λ b. words_in (bytes_at b (ranges_from 0 (table_lengths n (t ++ body))))) (drop_at t body (table_bytes n) size)
    ∙ ap (λ l. words_in (bytes_at body (ranges_from 0 l))) (table-front n t body size) ∙ segments-of_ranges body 0 ns (omega (arith, fits)) ∙ ap (cut ns) words

-- a table whose first word and rest were read
pub joined-table : (n word : ℕ) (front behind : List ℕ) → length front ≡ 8 → word ≡ from_le_bytes w64 front → 8 * ((n + 1) / 2) ≤ length behind
    → table_lengths (n + 1) (front ++ behind) ≡ take (n + 1) (word / 2 ^ 32 ∷ halves (whole_words (take (8 * ((n + 1) / 2)) behind)))
joined-table n word front behind size reads fits =
    let k = (n + 1) / 2 in
    let all = front ++ behind in
    let f : List ℕ → ℕ = from_le_bytes w64 in
    let step : whole_words all ≡ word ∷ whole_words behind = whole_words-step all (omega (arith, length-append front behind)) ∙ ap (λ l. f l ∷ whole_words (drop 8 all)) (take_at front behind 8 size) ∙ ap (λ w. w ∷ whole_words (drop 8 all)) (sym reads) ∙ ap (λ l. word ∷ whole_words l) (drop_at front behind 8 size) in
    let rest : take n (halves (whole_words behind)) ≡ take n (halves (whole_words (take (8 * k) behind))) = sym (take-halves n k (whole_words behind) (omega arith)) ∙ ap (λ l. take n (halves l)) (sym (whole-front k behind fits)) in
    ap (λ ws. take (n + 1) (drop 1 (halves ws))) step ∙ ap (λ m. take m (word / 2 ^ 32 ∷ halves (whole_words behind))) (add-one n) ∙ ap (λ l. word / 2 ^ 32 ∷ l) rest
    ∙ sym (ap (λ m. take m (word / 2 ^ 32 ∷ halves (whole_words (take (8 * k) behind)))) (add-one n))

-- ---- the message at the front of a buffer

flat-by : (limit : Option ℕ) (xs : List ℕ) → 0 < length xs → flat_at limit xs ≡ message_by plain_words flat_words limit xs
unfolding flat_at
flat-by limit [] h = absurd (omega (arith, h))
flat-by limit (x ∷ xs) h = refl

module _ (limit : Option ℕ) (bytes : List ℕ) where
  pub flat-nothing : length bytes ≡ 0 → flat_at limit bytes ≡ Err kinds.MessageEndsPrematurely
  unfolding flat_at
  flat-nothing none = let is : bytes ≡ [] = nil_from_length bytes none in rw is refl

  flat-is : 0 < length bytes → flat_at limit bytes ≡ message_by plain_words flat_words limit bytes
  flat-is some = flat-by limit bytes some

  pub flat-wants : 0 < length bytes → length bytes < 8 → flat_at limit bytes ≡ Err kinds.FailedToFillTheWholeBuffer
  flat-wants some short = flat-is some ∙ err_then (plain_words 1 bytes) _ _ (plain_short 1 bytes (omega arith))

  module _ (word : ℕ) (reads : word ≡ from_le_bytes w64 bytes) (long : 8 ≤ length bytes) where
    n : ℕ
    n = word % 2 ^ 32

    flat-first : flat_at limit bytes ≡ behind_first plain_words flat_words limit (n ∷ word / 2 ^ 32 ∷ []) (drop 8 bytes)
    unfolding n
    flat-first =
        let one : take 1 (whole_words bytes) ≡ word ∷ [] = ap (take 1) (whole_words-step bytes long) ∙ ap (λ w. w ∷ []) (from_le_bytes-take 8 bytes (omega arith) long ∙ sym reads) in
        flat-is (omega arith) ∙ ok_then (plain_words 1 bytes) _ _ _ (plain-long 1 bytes (omega arith)) (ap (λ ws. behind_first plain_words flat_words limit (halves ws) (drop 8 bytes)) one)

    pub flat-many : 511 ≤ word % 2 ^ 32 → flat_at limit bytes ≡ Err kinds.InvalidNumberOfSegments
    unfolding n
    flat-many many = let no : ltb n 511 ≡ false = grind (arith, many) in flat-first ∙ guard_err _ _ _ no

    module _ (few : word % 2 ^ 32 < 511) where
      pub flat-cut : length bytes < table_bytes (word % 2 ^ 32 + 1) → flat_at limit bytes ≡ Err kinds.FailedToFillTheWholeBuffer
      unfolding n
      flat-cut short =
          flat-first ∙ guard_then _ _ _ _ (lt-ltb n 511 few) (err_then (plain_words ((n + 1) / 2) (drop 8 bytes)) _ _ (plain_short ((n + 1) / 2) (drop 8 bytes) (omega (arith, length-drop 8 bytes))))

      module _ (whole : table_bytes (word % 2 ^ 32 + 1) ≤ length bytes) where
        lengths : List ℕ
        lengths = table_lengths (word % 2 ^ 32 + 1) bytes

        flat-table : flat_at limit bytes ≡ behind_lengths flat_words limit lengths (drop (table_bytes (word % 2 ^ 32 + 1)) bytes)
        unfolding n lengths
        flat-table =
            let k = (n + 1) / 2 in
            let rest = drop 8 bytes in
            let step : whole_words bytes ≡ word ∷ whole_words rest = whole_words-step bytes long ∙ ap (λ w. w ∷ whole_words rest) (from_le_bytes-take 8 bytes (omega arith) long ∙ sym reads) in
            let others : take (n + 1) (word / 2 ^ 32 ∷ halves (take k (whole_words rest))) ≡ table_lengths (n + 1) bytes =
            ap (λ m. take m (word / 2 ^ 32 ∷ halves (take k (whole_words rest)))) (add-one n) ∙ ap (λ l. word / 2 ^ 32 ∷ l) (take-halves n k (whole_words rest) (omega arith))
            ∙ sym (ap (λ m. take m (word / 2 ^ 32 ∷ halves (whole_words rest))) (add-one n)) ∙ ap (λ ws. take (n + 1) (drop 1 (halves ws))) (sym step) in
            let behind : drop (8 * k) rest ≡ drop (table_bytes (n + 1)) bytes = drop-drop (8 * k) 8 bytes ∙ ap (λ m. drop m bytes) (omega arith) in
            flat-first ∙ guard_then _ _ _ _ (lt-ltb n 511 few) (ok_then (plain_words k rest) _ _ _ (plain-long k rest (omega (arith, length-drop 8 bytes)))
            (ap (λ l. behind_lengths flat_words limit l (drop (8 * k) rest)) others ∙ ap (behind_lengths flat_words limit (table_lengths (n + 1) bytes)) behind))

        pub flat-large : within (sum (table_lengths (word % 2 ^ 32 + 1) bytes)) limit ≡ false → flat_at limit bytes ≡ Err kinds.MessageTooLarge
        unfolding lengths
        flat-large large = flat-table ∙ guard_err _ _ _ large

        module _ (kept : within (sum (table_lengths (word % 2 ^ 32 + 1) bytes)) limit ≡ true) where
          pub flat-ends : length bytes < table_bytes (word % 2 ^ 32 + 1) + 8 * sum (table_lengths (word % 2 ^ 32 + 1) bytes) → flat_at limit bytes ≡ Err kinds.MessageEndsPrematurely
          unfolding lengths
          flat-ends short =
              let body = drop (table_bytes (word % 2 ^ 32 + 1)) bytes in
              flat-table ∙ guard_then _ _ _ _ kept (err_then (flat_words (sum lengths) body) _ _ (flat-short (sum lengths) body (omega (arith, length-drop (table_bytes (word % 2 ^ 32 + 1)) bytes))))

          pub flat-whole : table_bytes (word % 2 ^ 32 + 1) + 8 * sum (table_lengths (word % 2 ^ 32 + 1) bytes) ≤ length bytes
              → flat_at limit bytes ≡ Ok (words_in (frame_segments (word % 2 ^ 32 + 1) bytes), drop (table_bytes (word % 2 ^ 32 + 1) + 8 * sum (table_lengths (word % 2 ^ 32 + 1) bytes)) bytes)
          unfolding lengths
          flat-whole fits =
              let at = table_bytes (word % 2 ^ 32 + 1) in
              let body = drop at bytes in
              let total = sum lengths in
              let room : 8 * total ≤ length body = omega (arith, length-drop at bytes) in
              let count : length body / 8 ≡ total + (length body / 8 - total) = omega arith in
              let words : take total (whole_words body) ≡ words_in_bytes total (take (8 * total) body) = ap (λ k. take total (words_in_bytes k body)) count ∙ words_in_bytes-take total (length body / 8 - total) body (omega arith) in
              let parts : cut lengths (take total (whole_words body)) ≡ words_in (frame_segments (word % 2 ^ 32 + 1) bytes) = ap (cut lengths) (words ∙ words_in_bytes-front total body room) ∙ sym (segments-of_ranges body 0 lengths (omega arith)) in
              let behind : drop (8 * total) body ≡ drop (at + 8 * total) bytes = drop-drop (8 * total) at bytes in
              flat-table ∙ guard_then _ _ _ _ kept (ok_then (flat_words total body) _ _ _ (flat-long total body room)
              (ap (λ s. Ok (s, drop (8 * total) body)) parts ∙ ap (λ l. Ok (words_in (frame_segments (word % 2 ^ 32 + 1) bytes), l)) behind))

-- the same table as one that describes the bytes, and no other, describes them
pub same-info : (found info : NoAllocSegmentTableInfo) (bytes : List ℕ) → Describes found bytes → (r : Bool)
    → r ≡ (eqb found.segments_count info.segments_count && (eqb found.segment_table_length_bytes info.segment_table_length_bytes && eqb found.total_segments_length_bytes info.total_segments_length_bytes))
    → (IsTrue r → Describes info bytes) × (Describes info bytes → IsTrue r)
same-info found info bytes d r is = grind (arith, common_steps)

-- bytes that a table describes begin with a message
pub described-reads : (info : NoAllocSegmentTableInfo) (bytes : List ℕ) → Describes info bytes → (r : Segments × List ℕ) × (flat_at None bytes ≡ Ok r)
described-reads info bytes d =
    let word = from_le_bytes w64 bytes in
    let n = word % 2 ^ 32 + 1 in
    let total : 8 * sum (table_lengths info.segments_count bytes) ≡ 8 * sum (table_lengths n bytes) = ap (λ k. 8 * sum (table_lengths k bytes)) d.count in
    let fits : table_bytes n + 8 * sum (table_lengths n bytes) ≤ length bytes = omega (arith, d.count, d.table, d.total, d.fits, total) in
    let few : word % 2 ^ 32 < 511 = omega (arith, d.count, d.few) in
    (_, flat-whole None bytes word refl (omega (arith, fits)) few (omega (arith, fits)) refl fits)
