-- Messages that are read into a buffer. (Encoding, "Serialization Over a Stream")
use Rattle.std.specs.Prelude.{◌≡◌, ◌⊎◌, ℕ, ◌+◌, ◌<◌, ◌≤◌, true, List, ◌∷◌, ◌++◌, sum, ⊤, IfSome, IfErr}
use Rattle.std.specs.declared.result.Result.{Result}
use Rattle.std.specs.declared.option.Option.{Option}
use Rattle.capnp_units.specs.declared.errors.Error.{Error}
use Rattle.capnp_units.specs.declared.kinds.ErrorKind.{ErrorKind}
use Rattle.capnp_units.specs.declared.kinds.ErrorKind.TheVariants.{BufferNotLargeEnough, Device}
use Rattle.capnp_units.specs.Segments.{words_in}
use Rattle.capnp_model.specs.Messages.{Reader, within, behind_lengths, behind_first, message_at}
use Rattle.capnp_stream.specs.Frames.{TakesMessage, TakesWholePieces, IsFormKind}
use Rattle.capnp_stream.specs.Flat.{table_lengths, table_bytes, message_bytes, frame_segments, Describes}
use Rattle.capnp_stream.specs.declared.flat.NoAllocSegmentTableInfo.{NoAllocSegmentTableInfo}

-- A message was taken, within the limit, and stands unpacked at the front of these bytes.
pub record HoldsMessage (read : Reader) (limit : Option ℕ) (old new : Option (List ℕ)) (bytes : List ℕ) (info : NoAllocSegmentTableInfo) : Type 0 where
  pub described : Describes info bytes
  pub taken : TakesMessage read limit old new (words_in (frame_segments info.segments_count bytes))
  pub kept : within (sum (table_lengths info.segments_count bytes)) limit ≡ true

-- The first word of a table stands at the front of the bytes, and says this number, which is one less than that of the segments.
abbrev pub TellsCount : Reader → Option ℕ → List ℕ → ℕ → Type 0
TellsCount read limit bytes n =
    (front rest lengths : List ℕ) × (bytes ≡ front ++ rest) × ((more : List ℕ) → message_at read limit (front ++ more) ≡ behind_first read read limit (n ∷ lengths) more)

-- A table stands at the front of the bytes, and says these lengths of segments.
abbrev pub TellsLengths : Reader → Option ℕ → List ℕ → List ℕ → Type 0
TellsLengths read limit bytes ns =
    (front rest : List ℕ) × (bytes ≡ front ++ rest) × ((more : List ℕ) → message_at read limit (front ++ more) ≡ behind_lengths read limit ns more)

-- The bytes begin with the table of a message within the limits of segments and words that has more
-- than n bytes unpacked.
abbrev pub HasLonger : Reader → Option ℕ → ℕ → List ℕ → Type 0
HasLonger read limit size bytes =
    (ns : List ℕ) × TellsLengths read limit bytes ns × (within (sum ns) limit ≡ true) × (size < message_bytes ns)

-- The bytes begin with the table of a message within these limits that has at least n bytes
-- unpacked.
abbrev pub HasAsLong : Reader → Option ℕ → ℕ → List ℕ → Type 0
HasAsLong read limit size bytes =
    (ns : List ℕ) × TellsLengths read limit bytes ns × (within (sum ns) limit ≡ true) × (size ≤ message_bytes ns)

-- Any message has more than n bytes unpacked. Or the bytes begin with the table of one within the
-- limits of segments and words, and the table, or the table with the segments, has more.
abbrev pub NeedsMore : Reader → Option ℕ → ℕ → List ℕ → Type 0
NeedsMore read limit size bytes =
    (size < 8)
    ⊎ ((n : ℕ) × TellsCount read limit bytes n × (n < 511) × (size < table_bytes (n + 1)))
    ⊎ HasLonger read limit size bytes

-- A refusal for want of room says that the message needs more than n bytes.
abbrev pub TellsNeed : {A : Type 0} → Reader → Option ℕ → ℕ → Option (List ℕ) → Result A Error → Type 0
TellsNeed read limit size old result = IfErr result (λ e. e.kind ≡ BufferNotLargeEnough → IfSome old (NeedsMore read limit size))

-- Want of room is seen between pieces.
abbrev pub LacksBetweenPieces : {A : Type 0} → Reader → Option ℕ → Option (List ℕ) → Option (List ℕ) → Result A Error → Type 0
LacksBetweenPieces read limit old new result = IfErr result (λ e. e.kind ≡ BufferNotLargeEnough → TakesWholePieces read limit old new)

-- The kinds by which a reader refuses that takes no memory, in a form whose pieces are at fault by these.
abbrev pub IsFillKind : (ErrorKind → Type 0) → ErrorKind → Type 0
IsFillKind faults Device = ⊤
IsFillKind faults BufferNotLargeEnough = ⊤
IsFillKind faults kind = IsFormKind faults kind
