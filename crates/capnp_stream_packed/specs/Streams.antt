-- Packed bytes as streams of words. (Encoding, "Packing")
use Rattle.std.specs.Prelude.{◌≡◌, ◌≢◌, ◌⊎◌, ℕ, ◌/◌, ◌%◌, ◌<◌, List, [], ⊤, IfSome, IfOk, IfErr, OnOk}
use Rattle.std.specs.declared.result.Result.{Result}
use Rattle.std.specs.declared.option.Option.{Option}
use Rattle.std.specs.Io.KnownBytes.{Keeps, IsAtEnd}
use Rattle.capnp_model.specs.Packing.{unpacked}
use Rattle.capnp_stream.specs.Pieces.{TakesPiece}
use Rattle.capnp_stream_packed.specs.Parts.{Refuses}
use Rattle.capnp_stream_packed.specs.Steps.{Leaves}
use Rattle.capnp_stream_packed.specs.declared.runs.Run.TheVariants.{First}
use Rattle.capnp_units.specs.declared.errors.Error.{Error}
use Rattle.capnp_units.specs.declared.kinds.ErrorKind.{ErrorKind}
use Rattle.capnp_units.specs.declared.kinds.ErrorKind.TheVariants.{FailedToFillTheWholeBuffer, PrematureEndOfPackedInput, PackedInputDidNotEndCleanlyOnASegmentBoundary, BufferNotLargeEnough, Device}

-- The kinds by which words of a packed source are refused.
abbrev pub IsUnpackingKind : ErrorKind → Type 0
IsUnpackingKind FailedToFillTheWholeBuffer = ⊤
IsUnpackingKind PrematureEndOfPackedInput = ⊤
IsUnpackingKind PackedInputDidNotEndCleanlyOnASegmentBoundary = ⊤
IsUnpackingKind BufferNotLargeEnough = ⊤
IsUnpackingKind Device = ⊤
IsUnpackingKind _ = ⊥

-- The kinds by which a packed piece is none.
abbrev pub is_packed_fault : ErrorKind → Type 0
is_packed_fault FailedToFillTheWholeBuffer = ⊤
is_packed_fault PrematureEndOfPackedInput = ⊤
is_packed_fault PackedInputDidNotEndCleanlyOnASegmentBoundary = ⊤
is_packed_fault _ = ⊥

-- How a buffer of n bytes was read: as one piece of these words, or as nothing, where it is empty
-- or no byte was left.
pub record ReadsPiece (count len : ℕ) (old new : Option (List ℕ)) (words : List ℕ) : Type 0 where
  pub piece : count ≢ 0 → (count ≡ len) × TakesPiece unpacked old new words
  pub end : count ≡ 0 → Keeps old new × (0 < len → IsAtEnd old)

-- Why a buffer of n bytes wasn't read. It ends in a part of a word, and nothing was taken; the
-- bytes begin with no such piece; or the device failed.
abbrev pub RefusesPiece : ℕ → Option (List ℕ) → Option (List ℕ) → ErrorKind → Type 0
RefusesPiece len old new kind = ((kind ≡ BufferNotLargeEnough) × (len % 8 ≢ 0) × Keeps old new) ⊎ ((len % 8 ≡ 0) × Refuses (unpacked (len / 8)) old new kind)

-- What a refused piece leaves in its buffer: words that were taken, and zeros behind them.
abbrev pub LeavesPiece : Option (List ℕ) → Option (List ℕ) → List ℕ → ErrorKind → Type 0
LeavesPiece old new buf kind = Leaves First old new buf kind

-- A refused piece leaves words that were taken, and zeros behind them; or nothing was taken and the
-- buffer is as it was.
abbrev pub LeavesBuffer : List ℕ → Option (List ℕ) → Option (List ℕ) → List ℕ → ErrorKind → Type 0
LeavesBuffer before old new after kind = ((after ≡ before) × Keeps old new) ⊎ LeavesPiece old new after kind

-- What a function that reads at most one piece into a buffer of n bytes promises of the bytes that
-- are left before and after it. The buffer then has these words.
pub record TriesPiece (len : ℕ) (old : Option (List ℕ)) (result : Result ℕ Error) (new : Option (List ℕ)) (words : List ℕ) : Type 0 where
  pub whole : IfOk result (λ _. len % 8 ≡ 0)
  pub piece : IfOk result (λ n. ReadsPiece n len old new words)
  pub fault : IfErr result (λ e. RefusesPiece len old new e.kind)
  -- Bytes are at fault only where some are left.
  pub some : IfErr result (λ e. e.kind ≢ Device → len % 8 ≡ 0 → IfSome old (λ xs. xs ≢ []))

-- What a function that reads a piece, of no fewer words than the buffer has, promises of the bytes
-- that are left before and after it.
pub record FillsWithPiece (len : ℕ) (old : Option (List ℕ)) (result : Result (Unit {0}) Error) (new : Option (List ℕ)) (words : List ℕ) : Type 0 where
  pub whole : OnOk result (len % 8 ≡ 0)
  pub piece : OnOk result (TakesPiece unpacked old new words)
  pub fault : IfErr result (λ e. RefusesPiece len old new e.kind)
