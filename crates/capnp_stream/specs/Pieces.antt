-- Pieces of messages on streams: the first word, the rest of the table, the segments. (Encoding, "Serialization Over a Stream")
use Rattle.std.specs.Prelude.{◌≡◌, ℕ, suc, ◌<◌, List, [], ◌++◌, length, take, ⊤, IfSome, Result, Ok, Err}
use Rattle.std.specs.declared.option.Option.{Option}
use Rattle.std.specs.Io.KnownBytes.{Consumes}
use Rattle.capnp_units.specs.Errors.{kind_of}
use Rattle.capnp_units.specs.declared.kinds.ErrorKind.{ErrorKind}
use Rattle.capnp_units.specs.declared.kinds.ErrorKind.TheVariants.{FailedToFillTheWholeBuffer, PrematureEndOfPackedInput, PackedInputDidNotEndCleanlyOnASegmentBoundary, Device}
use Rattle.capnp_model.specs.Kinds as kinds
use Rattle.capnp_model.specs.Kinds.{Kind}
use Rattle.capnp_model.specs.Messages.{Reader}

-- The kinds of bytes that end too early: with others behind them they may be whole.
abbrev pub IsEarlyEnd : Kind → Type 0
IsEarlyEnd kinds.FailedToFillTheWholeBuffer = ⊤
IsEarlyEnd kinds.PrematureEndOfPackedInput = ⊤
IsEarlyEnd _ = ⊥

-- Nothing was read, since the bytes end too early.
abbrev pub EndsEarly : {A : Type 0} → Result A Kind → Type 0
EndsEarly (Ok x) = ⊥
EndsEarly (Err kind) = IsEarlyEnd kind

-- Each proper beginning of the bytes ends too early: what they say isn't said before the last of them.
abbrev pub EachIsNeeded : {A : Type 0} → (List ℕ → Result A Kind) → List ℕ → Type 0
EachIsNeeded rule bytes = (n : ℕ) → n < length bytes → EndsEarly (rule (take n bytes))

-- A reader takes a front of the bytes, doesn't look behind it, and needs a byte for a word.
pub record ReadsFronts (read : Reader) : Type 0 where
  pub no_further : (n : ℕ) (b : List ℕ) (r : List ℕ × List ℕ) (x : List ℕ) → read n b ≡ Ok r → read n (b ++ x) ≡ Ok (r.0, r.1 ++ x)
  pub wants : (n : ℕ) → EndsEarly (read (suc n) [])

-- A piece with these words was taken, whatever follows it.
abbrev pub TakesPiece : Reader → Option (List ℕ) → Option (List ℕ) → List ℕ → Type 0
TakesPiece read old new words = (part : List ℕ) × ((more : List ℕ) → read (length words) (part ++ more) ≡ Ok (words, more)) × Consumes old new part × EachIsNeeded (read (length words)) part

-- Less than a piece of n words was taken, and no byte behind the first that is at fault.
abbrev pub TakesPieceStart : Reader → ℕ → Option (List ℕ) → Option (List ℕ) → Type 0
TakesPieceStart read n old new = (part : List ℕ) × ((r : List ℕ × List ℕ) → read n part ≡ Ok r → ⊥) × Consumes old new part × EachIsNeeded (read n) part

-- Why no piece of n words was taken: the device failed, or the bytes begin with none, and the kind says why.
abbrev pub IsPieceFault : Reader → ℕ → Option (List ℕ) → ErrorKind → Type 0
IsPieceFault read n old Device = ⊤
IsPieceFault read n old FailedToFillTheWholeBuffer = IfSome old (λ xs. read n xs ≡ Err (kind_of FailedToFillTheWholeBuffer))
IsPieceFault read n old PrematureEndOfPackedInput = IfSome old (λ xs. read n xs ≡ Err (kind_of PrematureEndOfPackedInput))
IsPieceFault read n old PackedInputDidNotEndCleanlyOnASegmentBoundary = IfSome old (λ xs. read n xs ≡ Err (kind_of PackedInputDidNotEndCleanlyOnASegmentBoundary))
IsPieceFault read n old _ = ⊥

-- The kinds by which the reader of a piece refuses, in a form whose pieces are at fault by these.
abbrev pub IsPieceKind : (ErrorKind → Type 0) → ErrorKind → Type 0
IsPieceKind faults Device = ⊤
IsPieceKind faults FailedToFillTheWholeBuffer = faults FailedToFillTheWholeBuffer
IsPieceKind faults PrematureEndOfPackedInput = faults PrematureEndOfPackedInput
IsPieceKind faults PackedInputDidNotEndCleanlyOnASegmentBoundary = faults PackedInputDidNotEndCleanlyOnASegmentBoundary
IsPieceKind faults _ = ⊥

-- The kinds by which a piece of words as they are is none.
abbrev pub is_framed_fault : ErrorKind → Type 0
is_framed_fault FailedToFillTheWholeBuffer = ⊤
is_framed_fault _ = ⊥
