-- Pieces of messages.
use Rattle.std.proofs.Common.{◌≡◌, ◌⊎◌, inl, inr, ℕ, ◌+◌, ◌*◌, ◌/◌, ◌%◌, ◌<◌, ◌≤◌, ltb, leb, List, [], ◌∷◌, ◌++◌, Bool, true, false, Ok, Err, Result, length, take, sum, length-take-le, refl, sym, ap, subst, ◌∙◌, arith}
use Rattle.std.specs.Int.{from_le_bytes, w64}
use Rattle.std.specs.declared.option.Option.{Option}
use Rattle.std.specs.Io.KnownBytes.{Consumes}
use Rattle.std.proofs.KnownBytes.{Consumes-whole}
use Rattle.capnp_units.specs.declared.kinds.ErrorKind.{ErrorKind}
use Rattle.capnp_units.specs.declared.kinds.ErrorKind.TheVariants.{FailedToFillTheWholeBuffer, PrematureEndOfPackedInput, PackedInputDidNotEndCleanlyOnASegmentBoundary, Device}
use Rattle.capnp_model.specs.Kinds as kinds
use Rattle.capnp_model.specs.Kinds.{Kind}
use Rattle.capnp_model.specs.Chains.{◌and_then◌, guard}
use Rattle.capnp_model.specs.Segments.{Segments}
use Rattle.capnp_model.specs.Bytes.{words_in_bytes, bytes_of_words, taken, AreBytes}
use Rattle.capnp_model.specs.Messages.{Reader, within, plain_words, halves, behind_lengths, behind_first, message_at}
use Rattle.capnp_model.proofs.lemmas.Chaining.{ok_is, ok_then, bind_ok}
use Rattle.capnp_model.proofs.lemmas.ByteWords.{taken_front}
use Rattle.capnp_stream_io.specs.Streams.{ConsumesFewer, EndsBefore}
use Rattle.capnp_model.proofs.lemmas.WordsInBytes.{words_in_bytes-length}
use Rattle.capnp_stream.specs.Pieces.{EachIsNeeded, ReadsFronts, TakesPiece, TakesPieceStart, IsPieceFault, IsPieceKind, is_framed_fault}
use Rattle.capnp_stream.specs.Frames.{IsPieceRefusal}
use Rattle.capnp_stream.proofs.lemmas.EarlyLemmas.{EndsEarly-of}
use Rattle.capnp_stream.specs.Segments.{whole_words}
use Rattle.capnp_model.proofs.lemmas.ByteLists.{words_spell}
use Rattle.capnp_stream.proofs.lemmas.WordLemmas.{whole_words-of_length}

-- ---- steps that refuse

pub err_then : {A B : Type 0} (r : Result A Kind) (f : A → Result B Kind) (k : Kind) → r ≡ Err k → (r and_then f) ≡ Err k
err_then (Ok x) f k e = absurd cc
err_then (Err d) f k e = let same : d ≡ k = cc in ap Err same

pub guard_err : {B : Type 0} (b : Bool) (k : Kind) (r : Result B Kind) → b ≡ false → (guard b k and_then λ _. r) ≡ Err k
guard_err true k r e = absurd cc
guard_err false k r e = refl

-- ---- words as they are

taken_short : (n : ℕ) (b : List ℕ) → length b < n → taken n b ≡ Err kinds.FailedToFillTheWholeBuffer
taken_short n b short = let no : leb n (length b) ≡ false = grind (arith, short) in rw no refl

pub plain_short : (n : ℕ) (b : List ℕ) → length b < 8 * n → plain_words n b ≡ Err kinds.FailedToFillTheWholeBuffer
plain_short n b short = err_then (taken (8 * n) b) _ _ (taken_short (8 * n) b short)

plain_front : (n : ℕ) (b more : List ℕ) → length b ≡ 8 * n → plain_words n (b ++ more) ≡ Ok (words_in_bytes n b, more)
plain_front n b more e = ok_then _ _ _ _ (taken_front (8 * n) b more e) refl

-- a front of a buffer for a piece is no piece
plain-needed : (n : ℕ) (b : List ℕ) → length b ≤ 8 * n → EachIsNeeded (plain_words n) b
plain-needed n b fits m below = EndsEarly-of (plain_words n (take m b)) kinds.FailedToFillTheWholeBuffer (plain_short n (take m b) (omega (arith, length-take-le m b (omega arith)))) tt

-- a buffer that was filled holds a piece
pub plain-piece : (a b : Option (List ℕ)) (buf : List ℕ) → length buf % 8 ≡ 0 → Consumes a b buf → TakesPiece plain_words a b (whole_words buf)
plain-piece a b buf whole taken =
    let n = length buf / 8 in
    let count : length (whole_words buf) ≡ n = words_in_bytes-length n buf in
    let Reads : ℕ → Type 0 = λ k. (more : List ℕ) → plain_words k (buf ++ more) ≡ Ok (whole_words buf, more) in
    let Needed : ℕ → Type 0 = λ k. EachIsNeeded (plain_words k) buf in
    (buf, subst Reads (sym count) (λ more. plain_front n buf more (omega arith)), taken, subst Needed (sym count) (plain-needed n buf (omega arith)))

-- fewer bytes than those of a piece begin with none
plain-start : (n : ℕ) (a b : Option (List ℕ)) → ConsumesFewer a b (8 * n) → TakesPieceStart plain_words n a b
plain-start n a b p =
    (p.0, (λ r e. let no : ◌≡◌ {A = Result (List ℕ × List ℕ) Kind} (Err kinds.FailedToFillTheWholeBuffer) (Ok r) = sym (plain_short n p.0 p.1) ∙ e in absurd cc), p.2, plain-needed n p.0 (omega (arith, p.1)))

-- why a buffer was not filled, and what was taken
module _ (n : ℕ) (a b : Option (List ℕ)) (refuses : ErrorKind → Type 0) (device : (k : ErrorKind) → refuses k → k ≡ Device) where
  pub plain-fault : (k : ErrorKind) → (refuses k × ConsumesFewer a b (8 * n)) ⊎ ((k ≡ FailedToFillTheWholeBuffer) × EndsBefore a b (8 * n)) → IsPieceFault plain_words n a k
  plain-fault k (inl p) = let failed : k ≡ Device = device k p.0 in rw failed tt
  plain-fault k (inr p) =
      let cut : k ≡ FailedToFillTheWholeBuffer = p.0 in
      let q = p.1 in
      rw cut (Consumes-whole a b q.0 _ q.2 q.3 (plain_short n q.0 q.1))

  pub plain-part : (k : ErrorKind) → (refuses k × ConsumesFewer a b (8 * n)) ⊎ ((k ≡ FailedToFillTheWholeBuffer) × EndsBefore a b (8 * n)) → TakesPieceStart plain_words n a b
  plain-part k (inl p) = plain-start n a b p.1
  plain-part k (inr p) = let q = p.1 in plain-start n a b (q.0, q.1, q.2)

-- a piece of words as they are is refused by a device's kind, or by that of bytes that are cut
pub plain-own : {X Y : Type 0} (refuses : ErrorKind → Type 0) → ((k : ErrorKind) → refuses k → k ≡ Device) → (k : ErrorKind) → (refuses k × X) ⊎ ((k ≡ FailedToFillTheWholeBuffer) × Y) → IsPieceKind is_framed_fault k
plain-own refuses device k (inl p) = let failed : k ≡ Device = device k p.0 in rw failed tt
plain-own refuses device k (inr p) = let cut : k ≡ FailedToFillTheWholeBuffer = p.0 in rw cut tt

-- the bytes of the words that a buffer holds are the buffer's
pub plain-bytes : (buf : List ℕ) → length buf % 8 ≡ 0 → AreBytes buf → bytes_of_words (whole_words buf) ≡ buf
plain-bytes buf whole small = words_spell (length buf / 8) buf (omega arith) small

-- ---- pieces in any form

-- eight bytes that were read are one word
pub one-word : (read : Reader) (a b : Option (List ℕ)) (bytes : List ℕ) (word : ℕ) → length bytes ≡ 8 → word ≡ from_le_bytes w64 bytes → TakesPiece read a b (whole_words bytes) → TakesPiece read a b (word ∷ [])
one-word read a b bytes word size reads piece = subst (TakesPiece read a b) (whole_words-of_length 1 bytes size ∙ ap (λ w. w ∷ []) (sym reads)) piece

pub IsCut-of_piece : (read : Reader) (n : ℕ) (a b : Option (List ℕ)) (k : ErrorKind) → IsPieceFault read n a k → TakesPieceStart read n a b → IsPieceRefusal read n a b k
IsCut-of_piece read n a b Device fault start = (tt, start)
IsCut-of_piece read n a b FailedToFillTheWholeBuffer fault start = (fault, start)
IsCut-of_piece read n a b PrematureEndOfPackedInput fault start = (fault, start)
IsCut-of_piece read n a b PackedInputDidNotEndCleanlyOnASegmentBoundary fault start = (fault, start)
IsCut-of_piece read n a b _ fault start = absurd fault

-- what follows a message changes nothing
module _ (read : Reader) (fronts : ReadsFronts read) (limit : Option ℕ) (x : List ℕ) where
  lengths_more : (ns b : List ℕ) (r : Segments × List ℕ) → behind_lengths read limit ns b ≡ Ok r → behind_lengths read limit ns (b ++ x) ≡ Ok (r.0, r.1 ++ x)
  lengths_more ns b r e =
      let g = bind_ok (guard (within (sum ns) limit) kinds.MessageTooLarge) _ r e in
      let t = bind_ok (read (sum ns) b) _ r g.2 in
      ok_then _ _ g.0 _ g.1 (ok_then _ _ _ _ (fronts.no_further (sum ns) b t.0 x t.1) (ap (λ (p : Segments × List ℕ). Ok (p.0, p.1 ++ x)) (ok_is _ r t.2)))

  first_more : (w b : List ℕ) (r : Segments × List ℕ) → behind_first read read limit w b ≡ Ok r → behind_first read read limit w (b ++ x) ≡ Ok (r.0, r.1 ++ x)
  first_more [] b r e = absurd cc
  first_more (n ∷ l) b r e =
      let g = bind_ok (guard (ltb n 511) kinds.InvalidNumberOfSegments) _ r e in
      let t = bind_ok (read ((n + 1) / 2) b) _ r g.2 in
      ok_then _ _ g.0 _ g.1 (ok_then _ _ _ _ (fronts.no_further ((n + 1) / 2) b t.0 x t.1) (lengths_more (take (n + 1) (l ++ halves t.0.0)) t.0.1 r t.2))

  pub message_more : (b : List ℕ) (r : Segments × List ℕ) → message_at read limit b ≡ Ok r → message_at read limit (b ++ x) ≡ Ok (r.0, r.1 ++ x)
  unfolding message_at
  message_more b r e =
      let t = bind_ok (read 1 b) _ r e in
      ok_then _ _ _ _ (fronts.no_further 1 b t.0 x t.1) (first_more (halves t.0.0) t.0.1 r t.2)
