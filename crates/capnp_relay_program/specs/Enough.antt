-- How many bytes suffice for a piece, whatever is wrong with it. (Encoding, "Serialization Over a Stream", "Packing")
use Rattle.std.proofs.Common.{◌≡◌, ℕ, zero, suc, ◌+◌, ◌*◌, ◌%◌, ◌/◌, ◌<◌, ◌≤◌, Bool, true, false, cond, leb, eqb, List, [], ◌∷◌, length, take, drop, Result, Ok, Err, refl, ap, arith, length-drop}
use Rattle.std.proofs.lemmas.Bool.{le-leb}
use Rattle.std.specs.Int.{w64, from_le_bytes}
use Rattle.capnp_model.specs.Kinds.{Kind, PackedInputDidNotEndCleanlyOnASegmentBoundary}
use Rattle.capnp_model.specs.Chains.{◌and_then◌, guard}
use Rattle.capnp_model.specs.Bytes.{taken}
use Rattle.capnp_model.specs.Messages.{plain_words}
use Rattle.capnp_model.specs.Packing.{Run, first, next, zeros, verbatim, byte_at, spread, counted, run_at, group_at, started, with_word, unpacked_from, unpacked}
use Rattle.capnp_model.proofs.lemmas.Chaining.{bind_ok, ok_is}
use Rattle.capnp_stream.specs.Pieces.{IsEarlyEnd, EndsEarly}

-- a step that ends early does so behind a first one that doesn't
pub then_early : {A B : Type 0} (r : Result A Kind) (f : A → Result B Kind) → (EndsEarly r → ⊥) → EndsEarly (r and_then f) → (x : A) × (r ≡ Ok x) × EndsEarly (f x)
then_early (Ok x) f late early = (x, refl, early)
then_early (Err k) f late early = absurd (late early)

pub guard_late : (b : Bool) (k : Kind) → (IsEarlyEnd k → ⊥) → EndsEarly (guard b k) → ⊥
guard_late true k other early = early
guard_late false k other early = other early

-- how many bytes are left behind what was read
abbrev rest_len : {A : Type 0} → A × List ℕ → ℕ
rest_len r = length r.1

taken_late : (n : ℕ) (b : List ℕ) → n ≤ length b → EndsEarly (taken n b) → ⊥
taken_late n b fits early = let whole : leb n (length b) ≡ true = le-leb n (length b) fits in rw whole at early

taken_rest : (n : ℕ) (b : List ℕ) (r : List ℕ × List ℕ) → n ≤ length b → taken n b ≡ Ok r → length b ≤ n + length r.1
taken_rest n b r fits e =
    let whole : leb n (length b) ≡ true = le-leb n (length b) fits in
    let left : length (drop n b) ≡ length r.1 = ap rest_len (ok_is (take n b, drop n b) r (rw whole at e)) in
    omega (arith, length-drop n b, left)

-- eight bytes suffice for each word
pub plain_words_enough : (n : ℕ) (bytes : List ℕ) → 8 * n ≤ length bytes → EndsEarly (plain_words n bytes) → ⊥
plain_words_enough n bytes fits early = (then_early (taken (8 * n) bytes) _ (taken_late (8 * n) bytes fits) early).2

-- ---- packed words

byte_at_late : (n : ℕ) (b : List ℕ) → 1 ≤ length b → EndsEarly (byte_at n b) → ⊥
byte_at_late zero b fits early = early
byte_at_late (suc n) [] fits early = omega (arith, fits)
byte_at_late (suc n) (c ∷ b) fits early = early

byte_at_rest : (n : ℕ) (b : List ℕ) (r : ℕ × List ℕ) → byte_at n b ≡ Ok r → length b ≤ 1 + length r.1
byte_at_rest zero b r e = let left : length b ≡ length r.1 = ap rest_len (ok_is (0, b) r e) in omega (arith, left)
byte_at_rest (suc n) [] r e = absurd cc
byte_at_rest (suc n) (c ∷ b) r e = let left : length b ≡ length r.1 = ap rest_len (ok_is (c, b) r e) in omega (arith, left)

spread_late : (m t : ℕ) (b : List ℕ) → m ≤ length b → EndsEarly (spread m t b) → ⊥
spread_late zero t b fits early = early
spread_late (suc m) t b fits early =
    let first = then_early (byte_at (t % 2) b) _ (byte_at_late (t % 2) b (omega (arith, fits))) early in
    let left = byte_at_rest (t % 2) b first.0 first.1 in
    (then_early (spread m (t / 2) first.0.1) _ (spread_late m (t / 2) first.0.1 (omega (arith, fits, left))) first.2).2

spread_rest : (m t : ℕ) (b : List ℕ) (r : List ℕ × List ℕ) → spread m t b ≡ Ok r → length b ≤ m + length r.1
spread_rest zero t b r e = let left : length b ≡ length r.1 = ap rest_len (ok_is ([], b) r e) in omega (arith, left)
spread_rest (suc m) t b r e =
    let first = bind_ok (byte_at (t % 2) b) _ r e in
    let others = bind_ok (spread m (t / 2) first.0.1) _ r first.2 in
    let left : length others.0.1 ≡ length r.1 = ap rest_len (ok_is (first.0.0 ∷ others.0.0, others.0.1) r others.2) in
    let one = byte_at_rest (t % 2) b first.0 first.1 in
    let more = spread_rest m (t / 2) first.0.1 others.0 others.1 in
    omega (arith, one, more, left)

counted_late : (n : ℕ) (run : ℕ → Run) (b : List ℕ) → 1 ≤ length b → EndsEarly (counted n run b) → ⊥
counted_late n run [] fits early = omega (arith, fits)
counted_late n run (k ∷ b) fits early = (then_early (guard (leb k n) PackedInputDidNotEndCleanlyOnASegmentBoundary) _ (guard_late (leb k n) PackedInputDidNotEndCleanlyOnASegmentBoundary (λ no. no)) early).2

counted_rest : (n : ℕ) (run : ℕ → Run) (b : List ℕ) (r : Run × List ℕ) → counted n run b ≡ Ok r → length b ≤ 1 + length r.1
counted_rest n run [] r e = absurd cc
counted_rest n run (k ∷ b) r e =
    let left : length b ≡ length r.1 = ap rest_len (ok_is (run k, b) r (bind_ok (guard (leb k n) PackedInputDidNotEndCleanlyOnASegmentBoundary) _ r e).2) in
    omega (arith, left)

run_at_late : (n t : ℕ) (b : List ℕ) → 1 ≤ length b → EndsEarly (run_at n t b) → ⊥
run_at_late n t b fits = by (eqb t 0) (eqb t 255)
  where
    by : (i j : Bool) → EndsEarly (cond i (counted n zeros b) (cond j (counted n verbatim b) (Ok (next, b)))) → ⊥
    by true j early = counted_late n zeros b fits early
    by false true early = counted_late n verbatim b fits early
    by false false early = early

run_at_rest : (n t : ℕ) (b : List ℕ) (r : Run × List ℕ) → run_at n t b ≡ Ok r → length b ≤ 1 + length r.1
run_at_rest n t b r = by (eqb t 0) (eqb t 255)
  where
    by : (i j : Bool) → cond i (counted n zeros b) (cond j (counted n verbatim b) (Ok (next, b))) ≡ Ok r → length b ≤ 1 + length r.1
    by true j e = counted_rest n zeros b r e
    by false true e = counted_rest n verbatim b r e
    by false false e = let left : length b ≡ length r.1 = ap rest_len (ok_is (next, b) r e) in omega (arith, left)

group_at_late : (n : ℕ) (b : List ℕ) → 10 ≤ length b → EndsEarly (group_at n b) → ⊥
group_at_late n [] fits early = omega (arith, fits)
group_at_late n (t ∷ b) fits early =
    let word = then_early (spread 8 t b) _ (spread_late 8 t b (omega (arith, fits))) early in
    let left = spread_rest 8 t b word.0 word.1 in
    (then_early (run_at n t word.0.1) _ (run_at_late n t word.0.1 (omega (arith, fits, left))) word.2).2

group_at_rest : (n : ℕ) (b : List ℕ) (r : ℕ × Run × List ℕ) → group_at n b ≡ Ok r → length b ≤ 10 + length r.2
group_at_rest n [] r e = absurd cc
group_at_rest n (t ∷ b) r e =
    let word = bind_ok (spread 8 t b) _ r e in
    let run = bind_ok (run_at n t word.0.1) _ r word.2 in
    let last : length run.0.1 ≡ length r.2 = ap (λ (g : ℕ × Run × List ℕ). length g.2) (ok_is (from_le_bytes w64 word.0.0, run.0.0, run.0.1) r run.2) in
    let left = spread_rest 8 t b word.0 word.1 in
    let behind = run_at_rest n t word.0.1 run.0 run.1 in
    omega (arith, left, behind, last)

started_late : (run : Run) (b : List ℕ) → 1 ≤ length b → EndsEarly (started run b) → ⊥
started_late first [] fits early = omega (arith, fits)
started_late first (c ∷ b) fits early = early
started_late next b fits early = early
started_late (zeros k) b fits early = early
started_late (verbatim k) b fits early = early

with_word_late : (w : ℕ) (q : Result (List ℕ × List ℕ) Kind) → EndsEarly (with_word w q) → EndsEarly q
with_word_late w (Ok y) early = early
with_word_late w (Err k) early = early

-- ten bytes suffice for each of n words, from inside any run on
Suffice : ℕ → Type 0
Suffice n = (run : Run) (b : List ℕ) → 10 * n ≤ length b → EndsEarly (unpacked_from n run b) → ⊥

group_late : (n : ℕ) (run : Run) (b : List ℕ) → Suffice n → 10 * suc n ≤ length b → EndsEarly (started run b and_then λ _. group_at n b and_then λ g. with_word g.0 (unpacked_from n g.1 g.2)) → ⊥
unfolding Suffice
group_late n run b h fits early =
    let begun = then_early (started run b) _ (started_late run b (omega (arith, fits))) early in
    let group = then_early (group_at n b) _ (group_at_late n b (omega (arith, fits))) begun.2 in
    let left = group_at_rest n b group.0 group.1 in
    h group.0.1 group.0.2 (omega (arith, fits, left)) (with_word_late group.0.0 _ group.2)

unpacked_from_enough : (n : ℕ) → Suffice n
unfolding unpacked_from Suffice
unpacked_from_enough zero run b fits early = early
unpacked_from_enough (suc n) first b fits early = group_late n first b (unpacked_from_enough n) fits early
unpacked_from_enough (suc n) next b fits early = group_late n next b (unpacked_from_enough n) fits early
unpacked_from_enough (suc n) (zeros zero) b fits early = group_late n (zeros 0) b (unpacked_from_enough n) fits early
unpacked_from_enough (suc n) (verbatim zero) b fits early = group_late n (verbatim 0) b (unpacked_from_enough n) fits early
unpacked_from_enough (suc n) (zeros (suc k)) b fits early = unpacked_from_enough n (zeros k) b (omega (arith, fits)) (with_word_late 0 _ early)
unpacked_from_enough (suc n) (verbatim (suc k)) b fits early =
    let word = then_early (taken 8 b) _ (taken_late 8 b (omega (arith, fits))) early in
    let left = taken_rest 8 b word.0 (omega (arith, fits)) word.1 in
    unpacked_from_enough n (verbatim k) word.0.1 (omega (arith, fits, left)) (with_word_late _ _ word.2)

-- a tag, eight bytes and a count suffice for each word
pub unpacked_enough : (n : ℕ) (bytes : List ℕ) → 10 * n ≤ length bytes → EndsEarly (unpacked n bytes) → ⊥
unfolding Suffice
unpacked_enough n bytes = unpacked_from_enough n first bytes

-- nothing is read for no word
pub plain_words_none : (bytes : List ℕ) → plain_words 0 bytes ≡ Ok ([], bytes)
plain_words_none bytes = let whole : leb 0 (length bytes) ≡ true = le-leb 0 (length bytes) (omega arith) in rw whole refl

pub unpacked_none : (bytes : List ℕ) → unpacked 0 bytes ≡ Ok ([], bytes)
unfolding unpacked_from
unpacked_none bytes = refl

-- there are some
pub some_plain : 0 < 8
some_plain = omega arith

pub some_packed : 0 < 10
some_packed = omega arith
