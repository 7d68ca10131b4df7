-- Numbers that are put into the words of a section.
use Rattle.std.proofs.Common.{◌≡◌, ℕ, zero, suc, ◌+◌, ◌-◌, ◌*◌, ◌/◌, ◌%◌, ◌^◌, ◌<◌, ◌≤◌, Bool, true, false, nat_lt, if◌then◌else◌, Some, List, [], ◌∷◌, ◌++◌, length, get_or, set, take, refl, ap, sym, subst, ◌∙◌, arith}
use Rattle.std.specs.Prelude.{slice_get}
use Rattle.std.specs.Int.{from_le_bytes, to_le_bytes, w64}
use Rattle.std.proofs.Math.Nat.{mod-eq_of_lt, div-eq_of_lt, div-lt_iff_lt-mul, mod-lt}
use lib.Pow as pow
use Rattle.std.proofs.Math.ListN.{length-set}
use Rattle.std.proofs.lemmas.Nat.{pow_pos, from_le_bytes-to_le_bytes_8}
use Rattle.std.proofs.lemmas.List.{map-set, get_or-map, take_more}
use Rattle.capnp_model.specs.Sections.{bits_at, with_bits, words_of, section_of, needed_words}
use Rattle.capnp_model.specs.Spelling.{AreWords}
use Rattle.capnp_model.proofs.lemmas.Bits.{above}
use Rattle.capnp_model.proofs.lemmas.Bounds.{joined_lt, with_bits_lt}
use Rattle.capnp_model.proofs.lemmas.Numbers.{length-numbers_in, numbers_in_lt, numbers_in-number_of, section_of-words_of, needed_words_le, needed_words-more}
use Rattle.capnp_model.proofs.lemmas.WordBits.{section_of-put, bits_at-section_of}
use Rattle.capnp_wire_canonical.specs.Writes.{words_view}
use Rattle.capnp_calls_splice.specs.DataWords.{put_set, put_sets, AreData}
use Rattle.capnp_calls_splice.specs.declared.plain.PlainSet.{PlainSet}

-- ---- one word

words_after : (ws : List ℕ) (i w : ℕ) → AreWords ws → w < 2 ^ 64 → AreWords (set ws i w)
words_after [] i w h l = h
words_after (x ∷ xs) zero w h l = (l, h.1)
words_after (x ∷ xs) (suc i) w h l = (h.0, words_after xs i w h.1 l)

word_bound : (ws : List ℕ) (i : ℕ) → AreWords ws → get_or ws i 0 < 2 ^ 64
word_bound [] i h = pow_pos 64
word_bound (x ∷ xs) zero h = h.0
word_bound (x ∷ xs) (suc i) h = word_bound xs i h.1

-- A number that is put into one of a section's words is put into the section.
pub word_put : (ws : List ℕ) (n s i j width v : ℕ) → ws ≡ words_of n s → s < 2 ^ (64 * n) → i < n → j + width ≤ 64 → v < 2 ^ width
    → set ws i (with_bits j width v (get_or ws i 0)) ≡ words_of n (with_bits (64 * i + j) width v s)
word_put ws n s i j width v e small less within fits =
    let long : length ws ≡ n = ap length e ∙ length-numbers_in 64 n s in
    let words : AreWords ws = subst AreWords (sym e) (numbers_in_lt 64 n s) in
    let bound = word_bound ws i words in
    let x : ℕ = with_bits j width v (get_or ws i 0) in
    let new : List ℕ = set ws i x in
    let same : length new ≡ n = length-set ws i x ∙ long in
    let is : section_of ws ≡ s = ap section_of e ∙ section_of-words_of n s small in
    let put : section_of new ≡ with_bits (64 * i + j) width v s = section_of-put ws i j width v fits (omega arith) within bound ∙ ap (with_bits (64 * i + j) width v) is in
    sym (numbers_in-number_of 64 new (words_after ws i x words (with_bits_lt j width v (get_or ws i 0) 64 fits within bound)))
    ∙ ap (λ (k : ℕ). words_of k (section_of new)) same ∙ ap (words_of n) put

pub put_lt : (n s i j width v : ℕ) → s < 2 ^ (64 * n) → i < n → j + width ≤ 64 → v < 2 ^ width → with_bits (64 * i + j) width v s < 2 ^ (64 * n)
put_lt n s i j width v small less within fits = with_bits_lt (64 * i + j) width v s (64 * n) fits (omega arith) small

-- ---- the words of a slice

pub viewed : (slice : List (List ℕ)) (i : ℕ) (b : List ℕ) → Some b ≡ slice_get slice i → from_le_bytes w64 b ≡ get_or (words_view slice) i 0
viewed [] i b e = absurd (cc e)
viewed (x ∷ xs) zero b e = let same : b ≡ x = cc e in ap (from_le_bytes w64) same
viewed (x ∷ xs) (suc i) b e = viewed xs i b e

-- So many words are those of a section.
pub long_as : (slice : List (List ℕ)) (n s : ℕ) → length slice ≡ n → s < 2 ^ (64 * n) → words_view slice ≡ words_of n s → AreData slice s
long_as slice n s e small is = record { fits = subst (λ (k : ℕ). s < 2 ^ (64 * k)) (sym e) small; words = is ∙ ap (λ (k : ℕ). words_of k s) (sym e) }

-- A number is put into a word of the section.
pub slice_put : (slice : List (List ℕ)) (p : PlainSet) (w : ℕ) (b : List ℕ) (s : ℕ) → AreData slice s → p.word < length slice → w ≡ with_bits p.shift p.width p.bits (from_le_bytes w64 (get_or slice p.word []))
    → w < 2 ^ 64 → b ≡ to_le_bytes w64 w → AreData (set slice p.word b) (put_set p s)
slice_put slice p w b s is less put small bytes =
    let ws = words_view slice in
    let n : ℕ = length slice in
    let at = get_or-map (from_le_bytes w64) slice p.word [] 0 less in
    let value : from_le_bytes w64 b ≡ with_bits p.shift p.width p.bits (get_or ws p.word 0) =
    ap (from_le_bytes w64) bytes ∙ from_le_bytes-to_le_bytes_8 w small ∙ put ∙ ap (with_bits p.shift p.width p.bits) (sym at) in
    long_as (set slice p.word b) n (put_set p s) (length-set slice p.word b) (put_lt n s p.word p.shift p.width p.bits is.fits less p.inside p.fits)
    (map-set (from_le_bytes w64) slice p.word b ∙ ap (set ws p.word) value ∙ word_put ws n s p.word p.shift p.width p.bits is.words is.fits less p.inside p.fits)

-- ---- the last word

first_bits : (w : ℕ) → w < 2 ^ 64 → bits_at 0 64 w ≡ w
first_bits w l = omega arith

no_bits : (s k : ℕ) → s < 2 ^ k → bits_at k 64 s ≡ 0
no_bits s k h = ap (λ (n : ℕ). n % 2 ^ 64) (div-eq_of_lt h) ∙ mod-eq_of_lt (pow_pos 64)

-- A section whose last word isn't zero needs all its words.
pub all_needed : (m s : ℕ) (ws : List ℕ) → ws ≡ words_of (suc m) s → s < 2 ^ (64 * suc m) → (get_or ws m 0 ≡ 0 → ⊥) → needed_words (suc m) s ≡ suc m
all_needed m s ws e small some = by (nat_lt s (2 ^ (64 * m))) refl
  where
    long : length ws ≡ suc m
    long = ap length e ∙ length-numbers_in 64 (suc m) s

    is : section_of ws ≡ s
    is = ap section_of e ∙ section_of-words_of (suc m) s small

    at : 64 * m + 0 ≡ 64 * m
    at = omega arith

    bound : get_or ws m 0 < 2 ^ 64
    bound = word_bound ws m (subst AreWords (sym e) (numbers_in_lt 64 (suc m) s))

    last : bits_at (64 * m) 64 s ≡ get_or ws m 0
    last = ap (bits_at (64 * m) 64) (sym is) ∙ ap (λ (k : ℕ). bits_at k 64 (section_of ws)) (sym at) ∙ bits_at-section_of ws m 0 64 (omega (arith, long)) (omega arith) ∙ first_bits (get_or ws m 0) bound

    by : (b : Bool) → nat_lt s (2 ^ (64 * m)) ≡ b → (if b then needed_words m s else suc m) ≡ suc m
    by true h = absurd (some (sym last ∙ no_bits s (64 * m) (grind arith)))
    by false h = refl

-- The same, by the words of a slice.
pub least : (slice : List (List ℕ)) (b : List ℕ) (s : ℕ) → AreData slice s → Some b ≡ slice_get slice (length slice - 1) → (from_le_bytes w64 b ≡ 0 → ⊥) → needed_words (length slice) s ≡ length slice
least [] b s is last some = refl
least (x ∷ xs) b s is last some =
    let m : ℕ = length xs in
    let same : suc m - 1 ≡ m = omega arith in
    let at : Some b ≡ slice_get (x ∷ xs) m = last ∙ ap (slice_get (x ∷ xs)) same in
    all_needed m s (words_view (x ∷ xs)) is.words is.fits (λ e. some (viewed (x ∷ xs) m b at ∙ e))

-- A section that needs all its words has something in the last.
pub last_some : (m s : ℕ) → needed_words (suc m) s ≡ suc m → 2 ^ (64 * m) ≤ s
last_some m s e = by (nat_lt s (2 ^ (64 * m))) refl e
  where
    by : (b : Bool) → nat_lt s (2 ^ (64 * m)) ≡ b → (if b then needed_words m s else suc m) ≡ suc m → 2 ^ (64 * m) ≤ s
    by true h e = absurd (omega (arith, needed_words_le m s, e))
    by false h e = grind arith

-- Something in the last word needs all words.
pub all_words : (k s : ℕ) → 2 ^ (64 * k) ≤ s → needed_words (suc k) s ≡ suc k
all_words k s large = by (nat_lt s (2 ^ (64 * k))) refl
  where
    by : (b : Bool) → nat_lt s (2 ^ (64 * k)) ≡ b → (if b then needed_words k s else suc k) ≡ suc k
    by true e = absurd (grind arith)
    by false e = refl

-- A number below the last word leaves the last word.
below_last : (k i width v s : ℕ) → v < 2 ^ width → i + width ≤ 64 * k → 2 ^ (64 * k) ≤ s → 2 ^ (64 * k) ≤ with_bits i width v s
below_last k i width v s fits inside large = by (nat_lt (with_bits i width v s) (2 ^ (64 * k))) refl
  where
    by : (b : Bool) → nat_lt (with_bits i width v s) (2 ^ (64 * k)) ≡ b → 2 ^ (64 * k) ≤ with_bits i width v s
    by true e =
        let m : ℕ = i + width in
        let rest : ℕ = 64 * k - m in
        let whole : rest + m ≡ 64 * k = omega arith in
        let less : with_bits i width v s < 2 ^ (64 * k) = grind arith in
        let high : with_bits i width v s / 2 ^ m < 2 ^ rest = pow.shr_lt rest m (subst (λ (j : ℕ). with_bits i width v s < 2 ^ j) (sym whole) less) in
        let front : s / 2 ^ m < 2 ^ rest = subst (λ (x : ℕ). x < 2 ^ rest) (above i width v s fits) high in
        let joined = joined_lt (s / 2 ^ m) (s % 2 ^ m) rest m front (mod-lt s (pow_pos m)) in
        let small : s < 2 ^ (64 * k) = subst (λ (x : ℕ). x < 2 ^ (64 * k)) (pow.split s m) (subst (λ (j : ℕ). s / 2 ^ m * 2 ^ m + s % 2 ^ m < 2 ^ j) whole joined) in
        absurd (omega (arith, small, large))
    by false e = grind arith

-- So a section that needs all its words does so still.
pub needed_still : (p : PlainSet) (n s : ℕ) → suc p.word < n → needed_words n s ≡ n → needed_words n (put_set p s) ≡ n
needed_still p zero s less e = absurd (omega (arith, less))
needed_still p (suc k) s less e =
    let within = p.inside in
    all_words k (put_set p s) (below_last k (64 * p.word + p.shift) p.width p.bits s p.fits (omega arith) (last_some k s e))

-- ---- zeros in the last words

-- A word of a section.
pub word_at : (n s i : ℕ) (ws : List ℕ) → ws ≡ words_of n s → s < 2 ^ (64 * n) → i < n → bits_at (64 * i) 64 s ≡ get_or ws i 0
word_at n s i ws e small less =
    let long : length ws ≡ n = ap length e ∙ length-numbers_in 64 n s in
    let is : section_of ws ≡ s = ap section_of e ∙ section_of-words_of n s small in
    let at : 64 * i + 0 ≡ 64 * i = omega arith in
    let bound : get_or ws i 0 < 2 ^ 64 = word_bound ws i (subst AreWords (sym e) (numbers_in_lt 64 n s)) in
    ap (bits_at (64 * i) 64) (sym is) ∙ ap (λ (k : ℕ). bits_at k 64 (section_of ws)) (sym at) ∙ bits_at-section_of ws i 0 64 (omega (arith, long)) (omega arith) ∙ first_bits (get_or ws i 0) bound

-- Where the last word is zero, one fewer has room for the section.
pub without_last : (m s : ℕ) → s < 2 ^ (64 * suc m) → bits_at (64 * m) 64 s ≡ 0 → s < 2 ^ (64 * m)
without_last m s small none =
    let whole : 64 + 64 * m ≡ 64 * suc m = omega arith in
    let high : s / 2 ^ (64 * m) < 2 ^ 64 = pow.shr_lt 64 (64 * m) (subst (λ (j : ℕ). s < 2 ^ j) (sym whole) small) in
    let zero_is : s / 2 ^ (64 * m) ≡ 0 = sym (mod-eq_of_lt high) ∙ none in
    let one : s / 2 ^ (64 * m) < 1 = omega (arith, zero_is) in
    subst (λ (x : ℕ). s < x) (one_times (2 ^ (64 * m))) ((div-lt_iff_lt-mul (pow_pos (64 * m))).0 one)
  where
    one_times : (x : ℕ) → 1 * x ≡ x
    one_times x = omega arith

-- Where it isn't, all are needed.
pub with_last : (m s : ℕ) → (bits_at (64 * m) 64 s ≡ 0 → ⊥) → needed_words (suc m) s ≡ suc m
with_last m s some = by (nat_lt s (2 ^ (64 * m))) refl
  where
    by : (b : Bool) → nat_lt s (2 ^ (64 * m)) ≡ b → (if b then needed_words m s else suc m) ≡ suc m
    by true e = absurd (some (no_bits s (64 * m) (grind arith)))
    by false e = refl

-- One word fewer is looked at.
pub needed_less : (m s : ℕ) → s < 2 ^ (64 * m) → needed_words (suc m) s ≡ needed_words m s
needed_less m s small = needed_words-more (suc m) m s (omega arith) small

-- A word of a slice that has the section's words.
slice_word : (slice : List (List ℕ)) (m s : ℕ) → AreData slice s → m < length slice → bits_at (64 * m) 64 s ≡ from_le_bytes w64 (get_or slice m [])
slice_word slice m s is less = word_at (length slice) s m (words_view slice) is.words is.fits less ∙ get_or-map (from_le_bytes w64) slice m [] 0 less

-- Behind so many words there are zeros; so there are where the one before them is zero.
pub passes_zero : (slice : List (List ℕ)) (count r s : ℕ) → AreData slice s → 0 < count → count ≤ length slice → r ≡ from_le_bytes w64 (get_or slice (count - 1) []) → r ≡ 0 → s < 2 ^ (64 * count)
    → (s < 2 ^ (64 * (count - 1))) × (needed_words count s ≡ needed_words (count - 1) s)
passes_zero slice zero r s is some less word none small = absurd (omega (arith, some))
passes_zero slice (suc m) r s is some less word none small =
    let same : suc m - 1 ≡ m = omega arith in
    let last : bits_at (64 * m) 64 s ≡ 0 = slice_word slice m s is (omega arith) ∙ ap (λ (i : ℕ). from_le_bytes w64 (get_or slice i [])) (sym same) ∙ sym word ∙ none in
    let fits : s < 2 ^ (64 * m) = without_last m s small last in
    (subst (λ (i : ℕ). s < 2 ^ (64 * i)) (sym same) fits, needed_less m s fits ∙ ap (λ (i : ℕ). needed_words i s) (sym same))

-- They are needed where it isn't.
pub meets_some : (slice : List (List ℕ)) (count r s : ℕ) → AreData slice s → 0 < count → count ≤ length slice → r ≡ from_le_bytes w64 (get_or slice (count - 1) []) → (r ≡ 0 → ⊥) → needed_words count s ≡ count
meets_some slice zero r s is some less word there = absurd (omega (arith, some))
meets_some slice (suc m) r s is some less word there =
    let same : suc m - 1 ≡ m = omega arith in
    with_last m s (λ e. there (word ∙ ap (λ (i : ℕ). from_le_bytes w64 (get_or slice i [])) same ∙ sym (slice_word slice m s is (omega arith)) ∙ e))

-- ---- numbers in turn

one_more : (ps : List PlainSet) (p : PlainSet) (s : ℕ) → put_sets (ps ++ p ∷ []) s ≡ put_set p (put_sets ps s)
one_more [] p s = refl
one_more (q ∷ ps) p s = one_more ps p (put_set q s)

pub next_put : (ps : List PlainSet) (i : ℕ) (p : PlainSet) (s : ℕ) → i < length ps → p ≡ get_or ps i p → put_sets (take (i + 1) ps) s ≡ put_set p (put_sets (take i ps) s)
next_put ps i p s less is = ap (λ (qs : List PlainSet). put_sets qs s) (take_more ps i p less) ∙ ap (λ (q : PlainSet). put_sets (take i ps ++ q ∷ []) s) (sym is) ∙ one_more (take i ps) p s
