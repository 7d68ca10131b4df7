-- What the readers of one message on a stream promise. (Encoding, "Serialization Over a Stream")
use Rattle.std.specs.Prelude.{◌≡◌, ◌≢◌, ℕ, List, [], IfSome, IfNone, IfOk, IfErr, OnErr}
use Rattle.std.specs.List.{concat}
use Rattle.std.specs.declared.result.Result.{Result}
use Rattle.std.specs.declared.option.Option.{Option}
use Rattle.std.specs.Io.KnownBytes.{Keeps, IsAtEnd}
use Rattle.capnp_units.specs.declared.errors.Error.{Error}
use Rattle.capnp_units.specs.declared.kinds.ErrorKind.{ErrorKind}
use Rattle.capnp_units.specs.declared.kinds.ErrorKind.TheVariants.{OutOfMemory, PrematureEndOfFile}
use Rattle.capnp_model.specs.Messages.{Reader}
use Rattle.capnp_model.specs.Spelling.{CanSpell}
use Rattle.capnp_stream_io.specs.Counting.{Counts}
use Rattle.capnp_stream.specs.Frames.{IsFrameFault, TakesMessage, TakesStart, TakesWholePieces, IsFramingKind, IsReadKind}
use Rattle.capnp_stream.specs.Segments.{words_in, owned_bytes, bytes_of_segments, segments_of}
use Rattle.capnp_stream.specs.Writing.{AreWritable}
use Rattle.capnp_stream.specs.declared.segments.OwnedSegments.{OwnedSegments}

-- What is seen of a source: the bytes that are left, where it tells them, and how often its device has failed.
pub record SourceSeen : Type 0 where
  pub remaining : Option (List ℕ)
  pub failures : ℕ

-- What is seen of a source, by its own words.
abbrev pub source_seen : {S : Type 0} → (S → Option (List ℕ)) → (S → ℕ) → S → SourceSeen
source_seen remaining failures s = record { remaining = remaining s; failures = failures s }

-- Memory is wanted between pieces.
abbrev pub WantsBetweenPieces : {A : Type 0} → Reader → Option ℕ → Option (List ℕ) → Option (List ℕ) → Result A Error → Type 0
WantsBetweenPieces read limit old new result = IfErr result (λ e. e.kind ≡ OutOfMemory → TakesWholePieces read limit old new)

-- A message is read, in a form that reads pieces so and whose pieces are at fault by these kinds; or none is left. What was read has these bytes in its segments, and this holds of it.
pub record TriesReading {M : Type 0} (bytes : M → List (List ℕ)) (Holds : M → Type 0) (read : Reader) (faults : ErrorKind → Type 0) (limit : Option ℕ) (old : SourceSeen) (result : Result (Option M) Error) (new : SourceSeen) : Type 0 where
  -- One message is taken, whatever follows it, and can be written again.
  pub message : IfOk result (λ o. IfSome o (λ m. TakesMessage read limit old.remaining new.remaining (words_in (bytes m))))
  pub kept : IfOk result (λ o. IfSome o (λ m. CanSpell limit (words_in (bytes m))))
  pub joined : IfOk result (λ o. IfSome o Holds)
  pub writable : IfOk result (λ o. IfSome o (λ m. AreWritable (bytes m)))
  pub none : IfOk result (λ o. IfNone o (IsAtEnd old.remaining × Keeps old.remaining new.remaining))
  -- The bytes that are left begin with no message, and the kind says why. Memory is wanted between pieces.
  pub refused : IfErr result (λ e. IsFramingKind e.kind → IfSome old.remaining (λ xs. (xs ≢ []) × IsFrameFault read limit xs e.kind))
  pub kind : IfErr result (λ e. IsReadKind faults e.kind)
  pub part : OnErr result (TakesStart read limit old.remaining new.remaining)
  pub wanted : WantsBetweenPieces read limit old.remaining new.remaining result
  pub begun : IfErr result (λ e. e.kind ≡ OutOfMemory → IfSome old.remaining (λ xs. xs ≢ []))
  pub count : Counts result old.failures new.failures

-- The bytes of all segments stand one behind the other.
abbrev pub AreJoined : OwnedSegments → Type 0
AreJoined m = owned_bytes m ≡ concat (bytes_of_segments m)

-- A message is read into memory of its own, or none is left.
abbrev pub TriesMessage : Reader → (ErrorKind → Type 0) → Option ℕ → SourceSeen → Result (Option OwnedSegments) Error → SourceSeen → Type 0
TriesMessage read faults limit old result new = TriesReading bytes_of_segments AreJoined read faults limit old result new

-- A message is read into memory of its own, where the end is a refusal.
pub record ReadsMessage (read : Reader) (faults : ErrorKind → Type 0) (limit : Option ℕ) (old : SourceSeen) (result : Result OwnedSegments Error) (new : SourceSeen) : Type 0 where
  pub message : IfOk result (λ m. TakesMessage read limit old.remaining new.remaining (segments_of m))
  pub kept : IfOk result (λ m. CanSpell limit (segments_of m))
  pub joined : IfOk result AreJoined
  pub writable : IfOk result (λ m. AreWritable (bytes_of_segments m))
  pub no_byte : IfErr result (λ e. e.kind ≡ PrematureEndOfFile → IsAtEnd old.remaining × Keeps old.remaining new.remaining)
  pub refused : IfErr result (λ e. IsFramingKind e.kind → IfSome old.remaining (λ xs. (xs ≢ []) × IsFrameFault read limit xs e.kind))
  pub kind : IfErr result (λ e. e.kind ≢ PrematureEndOfFile → IsReadKind faults e.kind)
  pub part : OnErr result (TakesStart read limit old.remaining new.remaining)
  pub wanted : WantsBetweenPieces read limit old.remaining new.remaining result
  pub begun : IfErr result (λ e. e.kind ≡ OutOfMemory → IfSome old.remaining (λ xs. xs ≢ []))
  pub count : Counts result old.failures new.failures
