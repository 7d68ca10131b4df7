-- Tables that were read into the front of a buffer.
use Rattle.std.proofs.Common.{◌≡◌, ℕ, ◌+◌, ◌*◌, ◌/◌, ◌%◌, ◌^◌, ◌<◌, ◌≤◌, List, [], ◌∷◌, ◌++◌, Option, IfSome, sym, ap, subst, ◌∙◌, arith, length, take, drop, sum, length-drop, length-take-le, take-append-drop}
use Rattle.std.specs.Int.{from_le_bytes, w64}
use Rattle.capnp_units.specs.declared.kinds.ErrorKind.{ErrorKind}
use Rattle.capnp_units.specs.declared.kinds.ErrorKind.TheVariants.{FailedToFillTheWholeBuffer, PrematureEndOfPackedInput, PackedInputDidNotEndCleanlyOnASegmentBoundary, Device}
use Rattle.capnp_units.specs.Segments.{whole_words}
use Rattle.capnp_model.specs.Messages.{Reader, halves}
use Rattle.capnp_model.specs.Spelling.{AreShort}
use Rattle.capnp_model.proofs.lemmas.WordsInBytes.{words_in_bytes-length}
use Rattle.capnp_model.specs.Bytes.{AreBytes}
use Rattle.capnp_stream.specs.Pieces.{ReadsFronts, TakesPiece, TakesPieceStart, IsPieceFault, IsPieceKind}
use Rattle.capnp_stream.specs.Frames.{IsFrameFault, TakesStart, TakesTable, IsFramingKind, IsReadKind, IsPieceRefusal}
use Rattle.capnp_stream.specs.Flat.{table_lengths, table_bytes}
use Rattle.capnp_stream.specs.Lent.{NeedsMore, IsFillKind}
use Rattle.capnp_stream.proofs.lemmas.WordLemmas.{from_le_bytes-take}
use Rattle.capnp_stream.proofs.SpellLemmas.{halves-are, short-taken, short-dropped, words-are, sum-short}
use Rattle.capnp_stream.proofs.lemmas.PieceLemmas.{IsCut-of_piece}
use Rattle.capnp_stream.proofs.FlatLemmas.{joined-table, table-holds}
use Rattle.capnp_stream.proofs.lemmas.FrameLemmas.{first-part, first-needs, others-fault, others-part, table-of_pieces, TakesTable-of_lengths}

module _ (read : Reader) (fronts : ReadsFronts read) (limit : Option ℕ) (n : ℕ) (old : List ℕ) (is : n ≡ from_le_bytes w64 old % 2 ^ 32 + 1) (few : n ≤ 511)
    (a b : Option (List ℕ)) (first : TakesPiece read a b (from_le_bytes w64 old ∷ [])) where
  below : from_le_bytes w64 old % 2 ^ 32 < 511
  below = omega arith

  half : n / 2 ≡ (from_le_bytes w64 old % 2 ^ 32 + 1) / 2
  half = ap (λ (m : ℕ). m / 2) is

  -- the table has more words
  pub count-part : 1 < n → TakesStart read limit a b
  count-part some = first-part read fronts limit (from_le_bytes w64 old) a b first below (omega arith)

  pub count-needs : (size : ℕ) → size < table_bytes n → IfSome a (NeedsMore read limit size)
  count-needs size short =
      let Short : ℕ → Type 0 = λ m. size < table_bytes m in
      first-needs read fronts limit (from_le_bytes w64 old) a b first size below (subst Short is short)

  module _ (c : Option (List ℕ)) where
    -- they weren't taken
    module _ (k : ErrorKind) (fault : IsPieceFault read (n / 2) b k) (start : TakesPieceStart read (n / 2) b c) where
      cut : IsPieceRefusal read ((from_le_bytes w64 old % 2 ^ 32 + 1) / 2) b c k
      cut =
          let Fault : ℕ → Type 0 = λ m. IsPieceFault read m b k in
          let Start : ℕ → Type 0 = λ m. TakesPieceStart read m b c in
          IsCut-of_piece read _ b c k (subst Fault half fault) (subst Start half start)

      pub rest-fault : IsFramingKind k → IfSome a (λ xs. IsFrameFault read limit xs k)
      rest-fault framing = others-fault read fronts limit (from_le_bytes w64 old) a b first below c k cut framing

      pub rest-part : TakesStart read limit a c
      rest-part = others-part read fronts limit (from_le_bytes w64 old) a b first below c k cut

    -- they were taken
    pub table-of_buffer : (new : List ℕ) → length new ≡ length old → table_bytes n ≤ length old → take 8 new ≡ take 8 old → TakesPiece read b c (whole_words (take (8 * (n / 2)) (drop 8 new)))
        → TakesTable read limit a c (table_lengths n new)
    table-of_buffer new same there kept second =
        let word = from_le_bytes w64 old in
        let m = word % 2 ^ 32 in
        let behind = drop 8 new in
        let f : List ℕ → ℕ = from_le_bytes w64 in
        let others = whole_words (take (8 * (n / 2)) behind) in
        let size : length (take 8 new) ≡ 8 = length-take-le 8 new (omega arith) in
        let room : 8 * (n / 2) ≤ length behind = omega (arith, length-drop 8 new) in
        let tells : word ≡ f (take 8 new) = sym (from_le_bytes-take 8 old (omega arith) (omega arith)) ∙ ap f (sym kept) in
        let Room : ℕ → Type 0 = λ k. 8 * k ≤ length behind in
        let joined : table_lengths (m + 1) (take 8 new ++ behind) ≡ take (m + 1) (word / 2 ^ 32 ∷ halves (whole_words (take (8 * ((m + 1) / 2)) behind))) = joined-table m word (take 8 new) behind size tells (subst Room half room) in
        let lengths : table_lengths n new ≡ take (m + 1) (word / 2 ^ 32 ∷ halves others) =
        ap (table_lengths n) (sym (take-append-drop 8 new)) ∙ ap (λ (k : ℕ). table_lengths k (take 8 new ++ behind)) is ∙ joined
        ∙ ap (λ (k : ℕ). take (m + 1) (word / 2 ^ 32 ∷ halves (whole_words (take (8 * k) behind)))) (sym half) in
        let count : length others ≡ (m + 1) / 2 = words_in_bytes-length (length (take (8 * (n / 2)) behind) / 8) (take (8 * (n / 2)) behind) ∙ omega (arith, length-take-le (8 * (n / 2)) behind room, half) in
        TakesTable-of_lengths read fronts limit a c _ _ lengths (table-of_pieces read fronts limit word a b first below c others count second)

-- a buffer whose first word stayed counts as many segments
pub word-kept : (old new : List ℕ) → length new ≡ length old → 8 ≤ length old → take 8 new ≡ take 8 old → from_le_bytes w64 new ≡ from_le_bytes w64 old
word-kept old new same there kept =
    let f : List ℕ → ℕ = from_le_bytes w64 in
    sym (from_le_bytes-take 8 new (omega arith) (omega (arith, same, there))) ∙ ap f kept ∙ from_le_bytes-take 8 old (omega arith) there

-- the count of a first word that isn't too large
pub few-segments : (word : ℕ) → word % 2 ^ 32 + 1 < 512 → (0 < word % 2 ^ 32 + 1) × (word % 2 ^ 32 + 1 ≤ 511)
few-segments word below = (omega arith, omega (arith, below))

-- each table has a word, and room in a buffer for the longest
pub any-front : (n : ℕ) → 8 ≤ table_bytes n
any-front n = omega arith

pub any-room : (n size : ℕ) → n ≤ 511 → 2048 ≤ size → table_bytes n ≤ size
any-room n size few there = omega (arith, few, there)

-- the lengths of a table are numbers of half a word
pub table-short : (n : ℕ) (bytes : List ℕ) → AreBytes bytes → AreShort (table_lengths n bytes)
table-short n bytes small = short-taken n (drop 1 (halves (whole_words bytes))) (short-dropped 1 (halves (whole_words bytes)) (halves-are (whole_words bytes) (words-are (length bytes / 8) bytes small)))

pub table-sum : (n : ℕ) (bytes : List ℕ) → n ≤ 511 → table_bytes n ≤ length bytes → AreBytes bytes → sum (table_lengths n bytes) < 2 ^ 41
table-sum n bytes few there small = omega (arith, sum-short (table_lengths n bytes) (table-short n bytes small), table-holds n bytes there)

-- ---- the kinds of refusals

pub read-kind : (faults : ErrorKind → Type 0) (k : ErrorKind) → IsPieceKind faults k → IsReadKind faults k
read-kind faults Device h = tt
read-kind faults FailedToFillTheWholeBuffer h = h
read-kind faults PrematureEndOfPackedInput h = h
read-kind faults PackedInputDidNotEndCleanlyOnASegmentBoundary h = h
read-kind faults _ h = absurd h

pub fill-kind : (faults : ErrorKind → Type 0) (k : ErrorKind) → IsPieceKind faults k → IsFillKind faults k
fill-kind faults Device h = tt
fill-kind faults FailedToFillTheWholeBuffer h = h
fill-kind faults PrematureEndOfPackedInput h = h
fill-kind faults PackedInputDidNotEndCleanlyOnASegmentBoundary h = h
fill-kind faults _ h = absurd h
