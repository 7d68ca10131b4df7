-- Tables of messages, and what lies behind them.
use Rattle.std.proofs.Common.{◌≡◌, ℕ, suc, Option, ◌+◌, ◌/◌, ◌%◌, ◌^◌, ◌<◌, ◌≤◌, ltb, List, [], ◌∷◌, length, take, drop, sum, Some, Ok, Err, Result, refl, sym, ap, subst, ◌∙◌, arith, length-drop}
use Rattle.std.specs.Prelude.{min, ◌-◌}
use Rattle.std.specs.Int.{w64, from_le_bytes}
use Rattle.std.proofs.lemmas.List.{nil_from_length}
use Rattle.std.proofs.lemmas.List.Sums.{sum_by-cons, sum_by-take-le}
use Rattle.capnp_units.specs.Segments.{whole_words}
use Rattle.capnp_units.specs.Errors.{kind_of}
use Rattle.capnp_units.specs.declared.kinds.ErrorKind.{ErrorKind}
use Rattle.capnp_units.specs.declared.kinds.ErrorKind.TheVariants.{FailedToFillTheWholeBuffer, PrematureEndOfPackedInput, PackedInputDidNotEndCleanlyOnASegmentBoundary, Device}
use Rattle.capnp_model.specs.Kinds.{Kind, InvalidNumberOfSegments, MessageTooLarge}
use Rattle.capnp_model.specs.Chains.{guard}
use Rattle.capnp_model.specs.Messages.{Reader, halves, within, behind_lengths, behind_first, message_at}
use Rattle.capnp_model.proofs.lemmas.Chaining.{ok_then}
use Rattle.capnp_stream_io.specs.Counting.{KindCounts}
use Rattle.capnp_stream.specs.Pieces.{EndsEarly, ReadsFronts, TakesPiece, IsPieceFault}
use Rattle.capnp_stream.proofs.lemmas.EarlyLemmas.{early-then}
use Rattle.capnp_relay_program.specs.Enough.{then_early, guard_late}

-- the numbers of a word and of those behind it
pub halves_of_front : (bytes : List ℕ) (w : ℕ) (behind : List ℕ) → 8 ≤ length bytes → w ≡ from_le_bytes w64 bytes → behind ≡ drop 8 bytes
    → sum (halves (whole_words bytes)) ≡ w % 2 ^ 32 + w / 2 ^ 32 + sum (halves (whole_words behind))
halves_of_front bytes w behind long reads are =
    let count : length bytes / 8 ≡ suc (length behind / 8) = omega (arith, ap length are, length-drop 8 bytes) in
    let words : whole_words bytes ≡ w ∷ whole_words behind = rw (count, reads, are) refl in
    let others = halves (whole_words behind) in
    let first : sum (w % 2 ^ 32 ∷ w / 2 ^ 32 ∷ others) ≡ w % 2 ^ 32 + sum (w / 2 ^ 32 ∷ others) = sum_by-cons (λ k. k) (w % 2 ^ 32) (w / 2 ^ 32 ∷ others) in
    let second : sum (w / 2 ^ 32 ∷ others) ≡ w / 2 ^ 32 + sum others = sum_by-cons (λ k. k) (w / 2 ^ 32) others in
    ap (λ ws. sum (halves ws)) words ∙ omega (arith, first, second)

-- what is read of a table, and words that can be read behind it, tell what lies behind the first word or what is wrong with it
pub behind_is_told : (read : Reader) (limit : Option ℕ) (w : ℕ) (behind others left : List ℕ)
    → read ((w % 2 ^ 32 + 1) / 2) behind ≡ Ok (others, left) → ((n : ℕ) → n ≤ w / 2 ^ 32 + sum (halves others) → EndsEarly (read n left) → ⊥)
    → EndsEarly (behind_first read read limit (halves (w ∷ [])) behind) → ⊥
behind_is_told read limit w behind others left reads_others room early =
    let lengths = take (w % 2 ^ 32 + 1) (w / 2 ^ 32 ∷ halves others) in
    let total : sum (w / 2 ^ 32 ∷ halves others) ≡ w / 2 ^ 32 + sum (halves others) = sum_by-cons (λ k. k) (w / 2 ^ 32) (halves others) in
    let few : sum lengths ≤ sum (w / 2 ^ 32 ∷ halves others) = sum_by-take-le (λ k. k) (w / 2 ^ 32 ∷ halves others) (w % 2 ^ 32 + 1) in
    let few_segments = then_early (guard (ltb (w % 2 ^ 32) 511) InvalidNumberOfSegments) _ (guard_late (ltb (w % 2 ^ 32) 511) InvalidNumberOfSegments (λ no. no)) early in
    let of_table : EndsEarly (behind_lengths read limit lengths left) = subst EndsEarly (ok_then (read ((w % 2 ^ 32 + 1) / 2) behind) _ (others, left) _ reads_others refl) few_segments.2 in
    let limited = then_early (guard (within (sum lengths) limit) MessageTooLarge) _ (guard_late (within (sum lengths) limit) MessageTooLarge (λ no. no)) of_table in
    (then_early (read (sum lengths) left) _ (room (sum lengths) (omega (arith, few, total))) limited.2).2

-- and so they tell the message
pub message_is_told : (read : Reader) (limit : Option ℕ) (bytes : List ℕ) (w : ℕ) (behind : List ℕ) → read 1 bytes ≡ Ok (w ∷ [], behind)
    → (EndsEarly (behind_first read read limit (halves (w ∷ [])) behind) → ⊥) → EndsEarly (message_at read limit bytes) → ⊥
unfolding message_at
message_is_told read limit bytes w behind reads_first told early = told (subst EndsEarly (ok_then (read 1 bytes) _ (w ∷ [], behind) _ reads_first refl) early)

-- the numbers of one word
pub sum_of_word : (w : ℕ) → sum (halves (w ∷ [])) ≡ w % 2 ^ 32 + w / 2 ^ 32
sum_of_word w =
    let first : sum (w % 2 ^ 32 ∷ w / 2 ^ 32 ∷ []) ≡ w % 2 ^ 32 + sum (w / 2 ^ 32 ∷ []) = sum_by-cons (λ k. k) (w % 2 ^ 32) (w / 2 ^ 32 ∷ []) in
    let second : sum (w / 2 ^ 32 ∷ []) ≡ w / 2 ^ 32 + 0 = sum_by-cons (λ k. k) (w / 2 ^ 32) [] in
    omega (arith, first, second)

-- the device of known bytes doesn't fail, so a refused piece isn't there
pub none_is_read : (read : Reader) (n : ℕ) (bytes : List ℕ) (k : ErrorKind) → KindCounts k 0 0 → IsPieceFault read n (Some bytes) k → (r : List ℕ × List ℕ) → read n bytes ≡ Ok r → ⊥
none_is_read read n bytes Device rose fault r e = let no : 0 ≡ min (0 + 1) (2 ^ 64 - 1) = rose in omega (arith, no)
none_is_read read n bytes FailedToFillTheWholeBuffer rose fault r e = let no : ◌≡◌ {A = Result (List ℕ × List ℕ) Kind} (Err (kind_of FailedToFillTheWholeBuffer)) (Ok r) = sym fault ∙ e in absurd cc
none_is_read read n bytes PrematureEndOfPackedInput rose fault r e = let no : ◌≡◌ {A = Result (List ℕ × List ℕ) Kind} (Err (kind_of PrematureEndOfPackedInput)) (Ok r) = sym fault ∙ e in absurd cc
none_is_read read n bytes PackedInputDidNotEndCleanlyOnASegmentBoundary rose fault r e = let no : ◌≡◌ {A = Result (List ℕ × List ℕ) Kind} (Err (kind_of PackedInputDidNotEndCleanlyOnASegmentBoundary)) (Ok r) = sym fault ∙ e in absurd cc
none_is_read read n bytes _ rose fault r e = absurd fault

-- a piece that was taken of known bytes is read there
pub piece_is_read : (read : Reader) (bytes left words : List ℕ) → TakesPiece read (Some bytes) (Some left) words → read (length words) bytes ≡ Ok (words, left)
piece_is_read read bytes left words taken = ap (read (length words)) taken.2 ∙ taken.1 left

-- where there is no byte it ends too early
pub none_is_told : (read : Reader) → ReadsFronts read → (limit : Option ℕ) (bytes : List ℕ) → length bytes ≡ 0 → EndsEarly (message_at read limit bytes)
unfolding message_at
none_is_told read fronts limit bytes none =
    let is : bytes ≡ [] = nil_from_length bytes none in
    early-then (read 1 bytes) _ (subst (λ b. EndsEarly (read 1 b)) (sym is) (fronts.wants 0))
