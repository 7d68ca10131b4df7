-- What the readers of one message into a buffer promise. (Encoding, "Serialization Over a Stream")
use Rattle.std.specs.Prelude.{◌≡◌, ◌≢◌, ℕ, [], IfSome, IfNone, IfOk, IfErr, OnErr}
use Rattle.std.specs.declared.convert.AsSlice.{Ghosts}
use Rattle.std.specs.declared.result.Result.{Result}
use Rattle.std.specs.declared.option.Option.{Option}
use Rattle.std.specs.Io.KnownBytes.{Keeps, IsAtEnd}
use Rattle.capnp_units.specs.Segments.{words_in}
use Rattle.capnp_units.specs.declared.errors.Error.{Error}
use Rattle.capnp_units.specs.declared.kinds.ErrorKind.{ErrorKind}
use Rattle.capnp_units.specs.declared.kinds.ErrorKind.TheVariants.{BufferNotLargeEnough, PrematureEndOfFile}
use Rattle.capnp_model.specs.Messages.{Reader}
use Rattle.capnp_stream_io.specs.Counting.{Counts}
use Rattle.capnp_stream.specs.Frames.{IsFrameFault, TakesMessage, TakesStart, IsFramingKind}
use Rattle.capnp_stream.specs.Reading.{SourceSeen}
use Rattle.capnp_stream.specs.Buffers.{found_segments}
use Rattle.capnp_stream.specs.Lent.{TellsNeed, LacksBetweenPieces, IsFillKind}
use Rattle.capnp_stream.specs.declared.buffers.NoAllocBufferSegments.{NoAllocBufferSegments}

-- A message is read into a buffer of n bytes, in a form that reads pieces so and whose pieces are
-- at fault by these kinds; or none is left.
pub record TriesFilling {T : Type 0} {g : Ghosts T ℕ} (read : Reader) (faults : ErrorKind → Type 0) (limit : Option ℕ) (size : ℕ) (old : SourceSeen) (result : Result (Option (NoAllocBufferSegments T g)) Error) (new : SourceSeen) : Type 0 where
  -- One message is taken, whatever follows it.
  pub message : IfOk result (λ o. IfSome o (λ s. TakesMessage read limit old.remaining new.remaining (words_in (found_segments s))))
  pub none : IfOk result (λ o. IfNone o (IsAtEnd old.remaining × Keeps old.remaining new.remaining))
  -- The bytes that are left begin with no message, and the kind says why; or the message has more bytes than the buffer, which is seen between pieces.
  pub refused : IfErr result (λ e. IsFramingKind e.kind → IfSome old.remaining (λ xs. (xs ≢ []) × IsFrameFault read limit xs e.kind))
  pub short : TellsNeed read limit size old.remaining result
  pub begun : IfErr result (λ e. e.kind ≡ BufferNotLargeEnough → IfSome old.remaining (λ xs. xs ≢ []))
  pub kind : IfErr result (λ e. IsFillKind faults e.kind)
  pub part : OnErr result (TakesStart read limit old.remaining new.remaining)
  pub room : LacksBetweenPieces read limit old.remaining new.remaining result
  pub count : Counts result old.failures new.failures

-- A message is read into a buffer as above, where the end is a refusal.
pub record FillsMessage {T : Type 0} {g : Ghosts T ℕ} (read : Reader) (faults : ErrorKind → Type 0) (limit : Option ℕ) (size : ℕ) (old : SourceSeen) (result : Result (NoAllocBufferSegments T g) Error) (new : SourceSeen) : Type 0 where
  pub message : IfOk result (λ s. TakesMessage read limit old.remaining new.remaining (words_in (found_segments s)))
  pub no_byte : IfErr result (λ e. e.kind ≡ PrematureEndOfFile → IsAtEnd old.remaining × Keeps old.remaining new.remaining)
  pub refused : IfErr result (λ e. IsFramingKind e.kind → IfSome old.remaining (λ xs. (xs ≢ []) × IsFrameFault read limit xs e.kind))
  pub short : TellsNeed read limit size old.remaining result
  pub begun : IfErr result (λ e. e.kind ≡ BufferNotLargeEnough → IfSome old.remaining (λ xs. xs ≢ []))
  pub kind : IfErr result (λ e. e.kind ≢ PrematureEndOfFile → IsFillKind faults e.kind)
  pub part : OnErr result (TakesStart read limit old.remaining new.remaining)
  pub room : LacksBetweenPieces read limit old.remaining new.remaining result
  pub count : Counts result old.failures new.failures
