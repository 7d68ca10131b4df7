-- Words in bytes, and the segments that they are cut into.
use Rattle.std.proofs.Common.{◌≡◌, ℕ, zero, suc, ◌+◌, ◌-◌, ◌*◌, ◌/◌, ◌%◌, ◌^◌, ◌<◌, ◌≤◌, subst, append_assoc, append-nil, List, [], ◌∷◌, ◌++◌, length, take, drop, sum, refl, sym, ap, ◌∙◌, arith, length-drop, length-take-le, take-append-drop}
use Rattle.std.specs.Prelude.{All}
use Rattle.std.specs.List.{slice_range, concat}
use Rattle.std.specs.Int.{from_le_bytes, to_le_bytes, w64}
use Rattle.std.proofs.lemmas.List.{drop-take, drop-drop, nil_from_length, map-append, length-append}
use Rattle.std.proofs.lemmas.List.Elements.{All-cons, All-nil}
use Rattle.std.proofs.lemmas.List.Sums.{sum_by-cons}
use Rattle.capnp_model.specs.Bytes.{AreBytes, words_in_bytes, bytes_of_words}
use Rattle.capnp_model.specs.Messages.{frame, cut, halves}
use Rattle.capnp_units.specs.Segments.{whole_words, words_in}
use Rattle.capnp_model.specs.Spelling.{AreShort}
use Rattle.capnp_model.proofs.lemmas.WordsInBytes.{words_in_bytes-drop, words_in_bytes-length}
use Rattle.capnp_stream.specs.Writing.{IsSegment, AreWritable}
use Rattle.capnp_stream.specs.Ranges.{ranges_from, range_lengths, bytes_at}
use Rattle.capnp_model.proofs.lemmas.ByteLists.{words_spell}

-- what follows eight bytes changes nothing of their word
pub from_le_bytes-front : (a b : List ℕ) → 8 ≤ length a → from_le_bytes w64 (a ++ b) ≡ from_le_bytes w64 a
from_le_bytes-front (x ∷ x1 ∷ x2 ∷ x3 ∷ x4 ∷ x5 ∷ x6 ∷ x7 ∷ a) b h = refl
from_le_bytes-front [] b h = absurd (omega arith)
from_le_bytes-front (x ∷ []) b h = absurd (omega arith)
from_le_bytes-front (x ∷ x1 ∷ []) b h = absurd (omega arith)
from_le_bytes-front (x ∷ x1 ∷ x2 ∷ []) b h = absurd (omega arith)
from_le_bytes-front (x ∷ x1 ∷ x2 ∷ x3 ∷ []) b h = absurd (omega arith)
from_le_bytes-front (x ∷ x1 ∷ x2 ∷ x3 ∷ x4 ∷ []) b h = absurd (omega arith)
from_le_bytes-front (x ∷ x1 ∷ x2 ∷ x3 ∷ x4 ∷ x5 ∷ []) b h = absurd (omega arith)
from_le_bytes-front (x ∷ x1 ∷ x2 ∷ x3 ∷ x4 ∷ x5 ∷ x6 ∷ []) b h = absurd (omega arith)

pub from_le_bytes-take : (n : ℕ) (bytes : List ℕ) → 8 ≤ n → n ≤ length bytes → from_le_bytes w64 (take n bytes) ≡ from_le_bytes w64 bytes
from_le_bytes-take n bytes wide fits =
    let f : List ℕ → ℕ = from_le_bytes w64 in
    sym (from_le_bytes-front (take n bytes) (drop n bytes) (omega (arith, length-take-le n bytes fits))) ∙ ap f (take-append-drop n bytes)

pub words_in_bytes-take : (n m : ℕ) (bytes : List ℕ) → 8 * (n + m) ≤ length bytes → take n (words_in_bytes (n + m) bytes) ≡ words_in_bytes n (take (8 * n) bytes)
words_in_bytes-take zero m bytes fits = refl
words_in_bytes-take (suc n) m bytes fits =
    let next : suc n + m ≡ suc (n + m) = omega arith in
    let wide : 8 * suc n ≡ 8 + 8 * n = omega arith in
    let first : from_le_bytes w64 (take (8 + 8 * n) bytes) ≡ from_le_bytes w64 bytes = from_le_bytes-take (8 + 8 * n) bytes (omega arith) (omega arith) in
    let rest : take n (words_in_bytes (n + m) (drop 8 bytes)) ≡ words_in_bytes n (take (8 * n) (drop 8 bytes)) = words_in_bytes-take n m (drop 8 bytes) (omega (arith, length-drop 8 bytes)) in
    rw (next, wide, drop-take 8 (8 * n) bytes, first, rest) refl

-- so many bytes hold so many words
pub whole_words-of_length : (n : ℕ) (bytes : List ℕ) → length bytes ≡ 8 * n → whole_words bytes ≡ words_in_bytes n bytes
whole_words-of_length n bytes e = let count : length bytes / 8 ≡ n = omega arith in ap (λ k. words_in_bytes k bytes) count

pub sum-cons : (n : ℕ) (ns : List ℕ) → sum (n ∷ ns) ≡ n + sum ns
sum-cons n ns = sum_by-cons (λ k. k) n ns

-- segments that lie one after the other are those that the words are cut into
pub segments-of_ranges : (bytes : List ℕ) (at : ℕ) (ns : List ℕ) → 8 * (at + sum ns) ≤ length bytes
    → words_in (bytes_at bytes (ranges_from at ns)) ≡ cut ns (words_in_bytes (sum ns) (drop (8 * at) bytes))
segments-of_ranges bytes at [] fits = refl
segments-of_ranges bytes at (n ∷ ns) fits =
    let total = sum-cons n ns in
    let rest = drop (8 * at) bytes in
    let long : 8 * (n + sum ns) ≤ length rest = omega (arith, length-drop (8 * at) bytes) in
    let width : 8 * (at + n) - 8 * at ≡ 8 * n = omega arith in
    let size : length (take (8 * n) rest) ≡ 8 * n = length-take-le (8 * n) rest (omega arith) in
    let one : whole_words (slice_range bytes (8 * at) (8 * (at + n))) ≡ take n (words_in_bytes (n + sum ns) rest) =
    ap (λ k. whole_words (take k rest)) width ∙ whole_words-of_length n (take (8 * n) rest) size ∙ sym (words_in_bytes-take n (sum ns) rest long) in
    let next : 8 * (at + n) ≡ 8 * at + 8 * n = omega arith in
    let behind : words_in_bytes (sum ns) (drop (8 * (at + n)) bytes) ≡ drop n (words_in_bytes (n + sum ns) rest) =
    ap (λ k. words_in_bytes (sum ns) (drop k bytes)) next ∙ ap (words_in_bytes (sum ns)) (sym (drop-drop (8 * n) (8 * at) bytes)) ∙ sym (words_in_bytes-drop n (sum ns) rest) in
    let others = segments-of_ranges bytes (at + n) ns (omega (arith, total)) ∙ ap (cut ns) behind in
    rw (total, one, others) refl

pub cut-of_joined : (bytes body : List ℕ) (ranges : List (ℕ × ℕ)) (ns : List ℕ) → bytes ≡ body → ranges ≡ ranges_from 0 ns → 8 * sum ns ≤ length body
    → words_in (bytes_at bytes ranges) ≡ cut ns (words_in_bytes (sum ns) body)
cut-of_joined bytes body ranges ns same joined fits =
    ap (λ b. words_in (bytes_at b ranges)) same ∙ ap (λ r. words_in (bytes_at body r)) joined ∙ segments-of_ranges body 0 ns (omega arith)

-- segments that lie one after the other to the end of the bytes are all of them
pub concat-of_ranges : (bytes : List ℕ) (at : ℕ) (ns : List ℕ) → length bytes ≡ 8 * (at + sum ns) → concat (bytes_at bytes (ranges_from at ns)) ≡ drop (8 * at) bytes
concat-of_ranges bytes at [] fits = sym (nil_from_length (drop (8 * at) bytes) (omega (arith, length-drop (8 * at) bytes, fits)))
concat-of_ranges bytes at (n ∷ ns) fits =
    let rest = drop (8 * at) bytes in
    let width : 8 * (at + n) - 8 * at ≡ 8 * n = omega arith in
    let next : 8 * (at + n) ≡ 8 * at + 8 * n = omega arith in
    let one : slice_range bytes (8 * at) (8 * (at + n)) ≡ take (8 * n) rest = ap (λ k. take k rest) width in
    let behind : drop (8 * (at + n)) bytes ≡ drop (8 * n) rest = ap (λ k. drop k bytes) next ∙ sym (drop-drop (8 * n) (8 * at) bytes) in
    let others = concat-of_ranges bytes (at + n) ns (omega (arith, sum-cons n ns, fits)) ∙ behind in
    rw (one, others) (take-append-drop (8 * n) rest)

pub concat-of_joined : (bytes body : List ℕ) (ranges : List (ℕ × ℕ)) (ns : List ℕ) → bytes ≡ body → ranges ≡ ranges_from 0 ns → length body ≡ 8 * sum ns → bytes ≡ concat (bytes_at bytes ranges)
concat-of_joined bytes body ranges ns same joined fits =
    let whole : length body ≡ 8 * (0 + sum ns) = omega (arith, fits) in
    rw (same, joined) (sym (concat-of_ranges body 0 ns whole))

-- The range lies within so many bytes.
abbrev pub IsWithin : ℕ → ℕ × ℕ → Type 0
IsWithin size r = (r.0 ≤ r.1) × (8 * r.1 ≤ size)

pub ranges_from-within : (size at : ℕ) (ns : List ℕ) → 8 * (at + sum ns) ≤ size → All (IsWithin size) (ranges_from at ns)
ranges_from-within size at [] fits = All-nil (IsWithin size)
ranges_from-within size at (n ∷ ns) fits =
    let total = sum-cons n ns in
    let one : IsWithin size (at, at + n) = (omega arith, omega (arith, total)) in
    All-cons (IsWithin size) (at, at + n) (ranges_from (at + n) ns) one (ranges_from-within size (at + n) ns (omega (arith, total)))

-- segments of short lengths that lie in bytes can be written
writable-from : (bytes : List ℕ) (at : ℕ) (ns : List ℕ) → 8 * (at + sum ns) ≤ length bytes → AreShort ns → All IsSegment (bytes_at bytes (ranges_from at ns))
writable-from bytes at [] fits short = All-nil IsSegment
writable-from bytes at (n ∷ ns) fits short =
    let total = sum-cons n ns in
    let rest = drop (8 * at) bytes in
    let small : n < 2 ^ 32 = short.0 in
    let width : 8 * (at + n) - 8 * at ≡ 8 * n = omega arith in
    let size : length (slice_range bytes (8 * at) (8 * (at + n))) ≡ 8 * n = ap (λ k. length (take k rest)) width ∙ length-take-le (8 * n) rest (omega (arith, length-drop (8 * at) bytes)) in
    All-cons IsSegment (slice_range bytes (8 * at) (8 * (at + n))) (bytes_at bytes (ranges_from (at + n) ns)) (omega (arith, size), omega (arith, size)) (writable-from bytes (at + n) ns (omega (arith, total)) short.1)

count-from : (bytes : List ℕ) (at : ℕ) (ns : List ℕ) → length (bytes_at bytes (ranges_from at ns)) ≡ length ns
count-from bytes at [] = refl
count-from bytes at (n ∷ ns) = ap suc (count-from bytes (at + n) ns)

pub writable-joined : (bytes body : List ℕ) (ranges : List (ℕ × ℕ)) (ns : List ℕ) → bytes ≡ body → ranges ≡ ranges_from 0 ns → 8 * sum ns ≤ length body → AreShort ns → 0 < length ns → length ns ≤ 511
    → AreWritable (bytes_at bytes ranges)
writable-joined bytes body ranges ns same joined fits short some few =
    let all : bytes_at bytes ranges ≡ bytes_at body (ranges_from 0 ns) = ap (λ b. bytes_at b ranges) same ∙ ap (bytes_at body) joined in
    let count = count-from body 0 ns in
    subst AreWritable (sym all) (record { some = omega arith; few = omega arith; words = writable-from body 0 ns (omega arith) short })

pub ranges_from-lengths : (at : ℕ) (ns : List ℕ) → range_lengths (ranges_from at ns) ≡ ns
ranges_from-lengths at [] = refl
ranges_from-lengths at (n ∷ ns) = let one : at + n - at ≡ n = omega arith in rw (one, ranges_from-lengths (at + n) ns) refl

-- one more segment behind the others
pub ranges_from-snoc : (at : ℕ) (ns : List ℕ) (n : ℕ) → ranges_from at (ns ++ n ∷ []) ≡ ranges_from at ns ++ (at + sum ns, at + sum ns + n) ∷ []
ranges_from-snoc at [] n = let same : at + 0 ≡ at = omega arith in rw same refl
ranges_from-snoc at (m ∷ ns) n =
    let total : at + m + sum ns ≡ at + sum (m ∷ ns) = omega (arith, sum-cons m ns) in
    ap (λ l. (at, at + m) ∷ l) (ranges_from-snoc (at + m) ns n ∙ ap (λ k. ranges_from (at + m) ns ++ (k, k + n) ∷ []) total)

pub sum-snoc : (ns : List ℕ) (n : ℕ) → sum (ns ++ n ∷ []) ≡ sum ns + n
sum-snoc [] n = omega (arith, sum-cons n [])
sum-snoc (m ∷ ns) n = omega (arith, sum-cons m (ns ++ n ∷ []), sum-cons m ns, sum-snoc ns n)

lengths-push : (rs : List (ℕ × ℕ)) (at n : ℕ) → range_lengths (rs ++ (at, at + n) ∷ []) ≡ range_lengths rs ++ n ∷ []
lengths-push rs at n = let one : at + n - at ≡ n = omega arith in map-append (λ (r : ℕ × ℕ). r.1 - r.0) rs ((at, at + n) ∷ []) ∙ ap (λ k. range_lengths rs ++ k ∷ []) one

pub joined-push : (rs : List (ℕ × ℕ)) (at n : ℕ) → at ≡ sum (range_lengths rs) → rs ≡ ranges_from 0 (range_lengths rs) → rs ++ (at, at + n) ∷ [] ≡ ranges_from 0 (range_lengths (rs ++ (at, at + n) ∷ []))
joined-push rs at n total joined =
    let behind : 0 + sum (range_lengths rs) ≡ at = omega arith in
    ap (λ l. l ++ (at, at + n) ∷ []) joined ∙ ap (λ k. ranges_from 0 (range_lengths rs) ++ (k, k + n) ∷ []) (sym behind)
    ∙ sym (ranges_from-snoc 0 (range_lengths rs) n) ∙ ap (ranges_from 0) (sym (lengths-push rs at n))

pub total-push : (rs : List (ℕ × ℕ)) (at n : ℕ) → at ≡ sum (range_lengths rs) → at + n ≡ sum (range_lengths (rs ++ (at, at + n) ∷ []))
total-push rs at n total = omega (arith, ap sum (lengths-push rs at n), sum-snoc (range_lengths rs) n)

-- eight bytes are a word
pub whole_words-step : (bytes : List ℕ) → 8 ≤ length bytes → whole_words bytes ≡ from_le_bytes w64 (take 8 bytes) ∷ whole_words (drop 8 bytes)
whole_words-step bytes long =
    let rest : length (drop 8 bytes) + 8 ≡ length bytes = omega (arith, length-drop 8 bytes) in
    let count : length bytes / 8 ≡ suc (length (drop 8 bytes) / 8) = omega arith in
    rw (count, sym (from_le_bytes-take 8 bytes (omega arith) long)) refl

-- the lengths read so far and those that are left
pub lengths-step : (lengths once twice : List ℕ) (bytes behind : List ℕ) (word : ℕ) (all : List ℕ) → 8 ≤ length bytes → behind ≡ drop 8 bytes → word ≡ from_le_bytes w64 (take 8 bytes)
    → once ≡ lengths ++ word % 2 ^ 32 ∷ [] → twice ≡ once ++ word / 2 ^ 32 ∷ [] → lengths ++ halves (whole_words bytes) ≡ all → twice ++ halves (whole_words behind) ≡ all
lengths-step lengths once twice bytes behind word all long left reads one two before =
    let a = word % 2 ^ 32 in
    let b = word / 2 ^ 32 in
    let now : whole_words bytes ≡ word ∷ whole_words behind = whole_words-step bytes long ∙ ap (λ w. w ∷ whole_words (drop 8 bytes)) (sym reads) ∙ ap (λ l. word ∷ whole_words l) (sym left) in
    let whole : lengths ++ a ∷ b ∷ halves (whole_words behind) ≡ all = ap (λ ws. lengths ++ halves ws) (sym now) ∙ before in
    ap (λ l. l ++ halves (whole_words behind)) (two ∙ ap (λ l. l ++ b ∷ []) one)
    ∙ append_assoc (lengths ++ a ∷ []) (b ∷ []) (halves (whole_words behind)) ∙ append_assoc lengths (a ∷ []) (b ∷ halves (whole_words behind)) ∙ whole

-- ---- words that were read of bytes, written as bytes

pub frame-bytes : (bytes : List ℕ) → length bytes % 8 ≡ 0 → AreBytes bytes → frame (whole_words bytes ∷ []) ≡ to_le_bytes w64 (length bytes / 8 * 2 ^ 32) ++ bytes
frame-bytes bytes whole small =
    let n = length bytes / 8 in
    let words : bytes_of_words (whole_words bytes) ≡ bytes = words_spell n bytes (omega arith) small in
    let first : 0 + 2 ^ 32 * length (whole_words bytes) ≡ n * 2 ^ 32 = omega (arith, words_in_bytes-length n bytes) in
    rw (first, words) (ap (λ l. l ++ (bytes ++ [])) (append-nil (to_le_bytes w64 (n * 2 ^ 32))) ∙ ap (λ l. to_le_bytes w64 (n * 2 ^ 32) ++ l) (append-nil bytes))

pub frame-length : (bytes : List ℕ) → length bytes % 8 ≡ 0 → AreBytes bytes → length (frame (whole_words bytes ∷ [])) ≡ 8 + length bytes
frame-length bytes whole small = ap length (frame-bytes bytes whole small) ∙ length-append (to_le_bytes w64 (length bytes / 8 * 2 ^ 32)) bytes

-- ---- a loop over the words of bytes

pub words-step : (words more : List ℕ) (bytes rest : List ℕ) (word : ℕ) (all : List ℕ) → 8 ≤ length bytes → rest ≡ drop 8 bytes → word ≡ from_le_bytes w64 (take 8 bytes)
    → more ≡ words ++ word ∷ [] → words ++ whole_words bytes ≡ all → more ++ whole_words rest ≡ all
words-step words more bytes rest word all long left reads one before =
    let now : whole_words bytes ≡ word ∷ whole_words rest = whole_words-step bytes long ∙ ap (λ w. w ∷ whole_words (drop 8 bytes)) (sym reads) ∙ ap (λ l. word ∷ whole_words l) (sym left) in
    ap (λ l. l ++ whole_words rest) one ∙ append_assoc words (word ∷ []) (whole_words rest) ∙ ap (λ l. words ++ l) (sym now) ∙ before
