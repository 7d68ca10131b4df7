-- Messages on streams, in a form that a reader of words gives. (Encoding, "Serialization Over a Stream")
use Rattle.std.specs.Prelude.{◌≡◌, ◌⊎◌, ℕ, ◌<◌, List, [], ◌∷◌, ◌++◌, length, take, sum, ⊤, IfSome, IfErr, Err, Ok}
use Rattle.std.specs.declared.result.Result.{Result}
use Rattle.std.specs.declared.option.Option.{Option}
use Rattle.capnp_units.specs.declared.errors.Error.{Error}
use Rattle.std.specs.Io.KnownBytes.{Keeps, Consumes}
use Rattle.capnp_units.specs.Errors.{kind_of}
use Rattle.capnp_units.specs.declared.kinds.ErrorKind.{ErrorKind}
use Rattle.capnp_units.specs.declared.kinds.ErrorKind.TheVariants.{OutOfMemory, InvalidNumberOfSegments, FailedToFillTheWholeBuffer, PrematureEndOfPackedInput, PackedInputDidNotEndCleanlyOnASegmentBoundary, MessageTooLarge, Device}
use Rattle.capnp_model.specs.Segments.{Segments}
use Rattle.capnp_model.specs.Messages.{Reader, behind_lengths, message_at, cut}
use Rattle.capnp_model.specs.Spelling.{Spells}
use Rattle.capnp_stream.specs.Pieces.{EachIsNeeded, TakesPiece, TakesPieceStart, IsPieceFault}

-- The bytes begin with no message within the limit, and this is the kind of the first part that can't be read.
abbrev pub IsFrameFault : Reader → Option ℕ → List ℕ → ErrorKind → Type 0
IsFrameFault read limit bytes kind = message_at read limit bytes ≡ Err (kind_of kind)

-- One message was taken, whatever follows it.
abbrev pub TakesMessage : Reader → Option ℕ → Option (List ℕ) → Option (List ℕ) → Segments → Type 0
TakesMessage read limit old new s = (text : List ℕ) × Spells read limit text s × Consumes old new text

-- Less than a message was taken, and no byte behind the first that is at fault: each proper beginning of what was taken ends too early.
abbrev pub TakesStart : Reader → Option ℕ → Option (List ℕ) → Option (List ℕ) → Type 0
TakesStart read limit old new =
    (part : List ℕ) × ((r : Segments × List ℕ) → message_at read limit part ≡ Ok r → ⊥) × Consumes old new part × EachIsNeeded (message_at read limit) part

-- No proper beginning is a message.
abbrev pub HasNoMessage : Reader → Option ℕ → List ℕ → Type 0
HasNoMessage read limit part = (n : ℕ) (s : Segments) → n < length part → Spells read limit (take n part) s → ⊥

-- A message or less was taken.
abbrev pub TakesMessagePart : Reader → Option ℕ → Option (List ℕ) → Option (List ℕ) → Type 0
TakesMessagePart read limit old new = (part : List ℕ) × HasNoMessage read limit part × Consumes old new part

-- A table with these lengths was taken, and what follows are the segments.
abbrev pub TakesTable : Reader → Option ℕ → Option (List ℕ) → Option (List ℕ) → List ℕ → Type 0
TakesTable read limit old new lengths =
    (table : List ℕ) × Consumes old new table × ((more : List ℕ) → message_at read limit (table ++ more) ≡ behind_lengths read limit lengths more) × EachIsNeeded (message_at read limit) table

-- The words of the segments of these lengths were taken, and are these.
abbrev pub TakesBody : Reader → Option (List ℕ) → Option (List ℕ) → List ℕ → Segments → Type 0
TakesBody read old new lengths s =
    (words : List ℕ) × (length words ≡ sum lengths) × TakesPiece read old new words × (s ≡ cut lengths words)

-- No byte was taken, or the first word of a message, or its table.
abbrev pub TakesWholePieces : Reader → Option ℕ → Option (List ℕ) → Option (List ℕ) → Type 0
TakesWholePieces read limit old new =
    Keeps old new ⊎ ((word : ℕ) × TakesPiece read old new (word ∷ [])) ⊎ ((lengths : List ℕ) × TakesTable read limit old new lengths)

-- The kinds of bytes that are no message.
abbrev pub IsFramingKind : ErrorKind → Type 0
IsFramingKind InvalidNumberOfSegments = ⊤
IsFramingKind FailedToFillTheWholeBuffer = ⊤
IsFramingKind PrematureEndOfPackedInput = ⊤
IsFramingKind PackedInputDidNotEndCleanlyOnASegmentBoundary = ⊤
IsFramingKind MessageTooLarge = ⊤
IsFramingKind _ = ⊥

-- The kinds of bytes that are no message, in a form whose pieces are at fault by these kinds.
abbrev pub IsFormKind : (ErrorKind → Type 0) → ErrorKind → Type 0
IsFormKind faults InvalidNumberOfSegments = ⊤
IsFormKind faults FailedToFillTheWholeBuffer = faults FailedToFillTheWholeBuffer
IsFormKind faults PrematureEndOfPackedInput = faults PrematureEndOfPackedInput
IsFormKind faults PackedInputDidNotEndCleanlyOnASegmentBoundary = faults PackedInputDidNotEndCleanlyOnASegmentBoundary
IsFormKind faults MessageTooLarge = ⊤
IsFormKind faults _ = ⊥

-- The kinds by which the reader of a message in such a form refuses.
abbrev pub IsReadKind : (ErrorKind → Type 0) → ErrorKind → Type 0
IsReadKind faults Device = ⊤
IsReadKind faults OutOfMemory = ⊤
IsReadKind faults kind = IsFormKind faults kind

-- The kind of a refusal says why the bytes begin with no message.
abbrev pub TellsFault : {A : Type 0} → Reader → Option ℕ → Option (List ℕ) → Result A Error → Type 0
TellsFault read limit old result = IfErr result (λ e. IsFramingKind e.kind → IfSome old (λ xs. IsFrameFault read limit xs e.kind))

-- Why no piece of n words was taken, and what was. Memory is wanted before any byte is taken, and for a word at least.
abbrev pub IsPieceRefusal : Reader → ℕ → Option (List ℕ) → Option (List ℕ) → ErrorKind → Type 0
IsPieceRefusal read n old new OutOfMemory = Keeps old new × (0 < n)
IsPieceRefusal read n old new kind = IsPieceFault read n old kind × TakesPieceStart read n old new
