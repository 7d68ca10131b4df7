-- From the calls of one step to what it did.
use Rattle.std.proofs.Common.{◌≡◌, ◌≢◌, ℕ, ◌+◌, ◌-◌, ◌^◌, List, [], arith, length, inl, inr, refl, sym, subst}
use Rattle.std.specs.Prelude.{◌⊎◌, IfSome}
use Rattle.capnp_units.specs.declared.kinds.ErrorKind.{ErrorKind}
use Rattle.capnp_units.specs.declared.kinds.ErrorKind.TheVariants.{OutOfMemory, BufferNotLargeEnough, Device, InvalidNumberOfSegments, FailedToFillTheWholeBuffer, PrematureEndOfPackedInput, PackedInputDidNotEndCleanlyOnASegmentBoundary, MessageTooLarge}
use Rattle.capnp_stream_io.specs.Counting.{KindCounts}
use Rattle.capnp_stream_io.specs.Streams.{IsWriteRefusal}
use Rattle.capnp_stream.specs.Frames.{IsFrameFault, IsFramingKind, IsReadKind, TakesMessage, TakesStart}
use Rattle.capnp_stream.proofs.lemmas.FrameLemmas.{TakesPart-of_message, TakesPart-of_start}
use Rattle.capnp_model.specs.Segments.{Segments}
use Rattle.capnp_model.specs.Messages.{spelled}
use Rattle.capnp_stream.specs.Pieces.{ReadsFronts}
use Rattle.capnp_model.specs.Answers.{Answer, Reply, written}
use Rattle.capnp_model.specs.Runs.{line_of, output_of}
use Rattle.capnp_relay_loop.specs.declared.ends.Counts.{Counts}
use Rattle.capnp_relay_loop.specs.Answers.{written_one}
use Rattle.capnp_relay_loop.specs.declared.ends.Fault.{Fault}
use Rattle.capnp_relay_loop.specs.declared.ends.Fault.TheVariants as faults
use Rattle.capnp_relay_loop.specs.Streams.{Streams, SinkSeen, SinkStays, SinkTakes, SinkTakesPart, SinkFails}
use Rattle.capnp_relay_loop.specs.Work.{LoopWork}
use Rattle.capnp_relay_loop.specs.Stops.{SinkRefused, StopsByFault, StopsBefore}

-- a refused write is told as the sink's own fault, or as want of memory
pub SinkRefused-of_write : (own : Fault) (grows : Type 0) (fault : Fault) (old new : SinkSeen) (bytes : List ℕ) (n : ℕ) (kind : ErrorKind) → length bytes ≡ n
    → SinkTakesPart old new bytes → IsWriteRefusal grows old.room n kind → KindCounts kind old.failures new.failures
    → (kind ≡ OutOfMemory → fault ≡ faults.Memory) → (kind ≢ OutOfMemory → fault ≡ own) → SinkRefused own grows fault old new bytes
SinkRefused-of_write own grows fault old new bytes n Device size part refusal counts memory other = (part, inl (other (λ e. absurd cc), inl counts))
SinkRefused-of_write own grows fault old new bytes n OutOfMemory size part refusal counts memory other = (part, inr (memory refl, refusal, counts))
SinkRefused-of_write own grows fault old new bytes n BufferNotLargeEnough size part refusal counts memory other =
    let P : ℕ → Type 0 = λ k. IsWriteRefusal grows old.room k BufferNotLargeEnough in
    (part, inl (other (λ e. absurd cc), inr (subst P (sym size) refusal)))
SinkRefused-of_write own grows fault old new bytes n _ size part refusal counts memory other = absurd refusal

module _ (w : LoopWork) (own : ErrorKind → Type 0) (n : ℕ) (old new : Streams) (counts : Counts) (start : TakesStart w.read w.limit old.source.remaining new.source.remaining)
    (out : SinkStays old.out new.out) (log : SinkStays old.log new.log) where
  abbrev Ends : Fault → Type 0
  Ends f = StopsByFault w n f old new counts counts

  before : StopsBefore w old new counts counts
  before = (TakesPart-of_start w.read w.limit _ _ start, out, log, refl)

  -- a message was not read
  pub Stops-of_read : (f : Fault) (kind : ErrorKind) → IsReadKind own kind → (IsFramingKind kind → IfSome old.source.remaining (λ bytes. (bytes ≢ []) × IsFrameFault w.read w.limit bytes kind))
      → KindCounts kind old.source.failures new.source.failures → (kind ≡ OutOfMemory → f ≡ faults.Memory) → (kind ≡ Device → f ≡ faults.Source)
      → (kind ≢ OutOfMemory → kind ≢ Device → f ≡ faults.Framing kind) → StopsByFault w n f old new counts counts
  Stops-of_read f OutOfMemory read tells count memory device other = subst Ends (sym (memory refl)) (count, out.1, log.1, inl before)
  Stops-of_read f Device read tells count memory device other = subst Ends (sym (device refl)) (before, count)
  Stops-of_read f InvalidNumberOfSegments read tells count memory device other = subst Ends (sym (other (λ e. absurd cc) (λ e. absurd cc))) (before, count, tt, tells tt)
  Stops-of_read f FailedToFillTheWholeBuffer read tells count memory device other = subst Ends (sym (other (λ e. absurd cc) (λ e. absurd cc))) (before, count, tt, tells tt)
  Stops-of_read f PrematureEndOfPackedInput read tells count memory device other = subst Ends (sym (other (λ e. absurd cc) (λ e. absurd cc))) (before, count, tt, tells tt)
  Stops-of_read f PackedInputDidNotEndCleanlyOnASegmentBoundary read tells count memory device other = subst Ends (sym (other (λ e. absurd cc) (λ e. absurd cc))) (before, count, tt, tells tt)
  Stops-of_read f MessageTooLarge read tells count memory device other = subst Ends (sym (other (λ e. absurd cc) (λ e. absurd cc))) (before, count, tt, tells tt)
  Stops-of_read f _ read tells count memory device other = absurd read

module _ (w : LoopWork) (fronts : ReadsFronts w.read) (n : ℕ) (old new : Streams) (before after : Counts) (s : Segments) (taken : TakesMessage w.read w.limit old.source.remaining new.source.remaining s)
    (same : new.source.failures ≡ old.source.failures) where
  abbrev End : Fault → Type 0
  End f = StopsByFault w n f old new before after

  -- nothing was written
  pub Stops-of_want : (f : Fault) → (f ≡ faults.Memory) ⊎ (f ≡ faults.Size) → (f ≡ faults.Size → (n ≡ 2 ^ 64) ⊎ w.is_too_large s)
      → SinkStays old.out new.out → SinkStays old.log new.log → after ≡ before → StopsByFault w n f old new before after
  Stops-of_want f (inl e) size out log counts =
      subst End (sym e) (same, out.1, log.1, inl (TakesPart-of_message w.read fronts w.limit _ _ s taken, out, log, counts))
  Stops-of_want f (inr e) size out log counts =
      subst End (sym e) ((TakesPart-of_message w.read fronts w.limit _ _ s taken, out, log, counts), same, too_large (size e))
    where
      too_large : (n ≡ 2 ^ 64) ⊎ w.is_too_large s → (n ≡ 2 ^ 64) ⊎ ((m : Segments) × TakesMessage w.read w.limit old.source.remaining new.source.remaining m × w.is_too_large m)
      too_large (inl many) = inl many
      too_large (inr large) = inr (s, taken, large)

  -- a beginning of a frame was written
  pub Stops-of_out : (f : Fault) (segments : Segments) (replies : List Reply) → w.is_answer s (written segments replies)
      → SinkRefused faults.Out w.out_grows f old.out new.out (spelled w.write segments) → SinkStays old.log new.log → after ≡ before → StopsByFault w n f old new before after
  Stops-of_out f segments replies answers refused log counts = by_cause refused.1
    where
      by_cause : ((f ≡ faults.Out) × SinkFails old.out new.out (spelled w.write segments)) ⊎ ((f ≡ faults.Memory) × w.out_grows × (new.out.failures ≡ old.out.failures)) → End f
      by_cause (inl cause) = subst End (sym cause.0) ((s, segments, replies, taken, answers, refused.0, log, counts, cause.1), same)
      by_cause (inr cause) = subst End (sym cause.0) (same, cause.2, log.1, inr (inl (cause.1, (s, segments, replies, taken, answers, refused.0, log, counts, tt))))

  -- a beginning of a line was written
  pub Stops-of_log : (f : Fault) (a : Answer) → w.is_answer s a → SinkTakes old.out new.out (output_of w.write a)
      → SinkRefused faults.Log w.log_grows f old.log new.log (line_of n a) → after.written ≡ before.written + written_one a → after.refused ≡ before.refused
      → StopsByFault w n f old new before after
  Stops-of_log f a answers out refused frames refusals = by_cause refused.1
    where
      by_cause : ((f ≡ faults.Log) × SinkFails old.log new.log (line_of n a)) ⊎ ((f ≡ faults.Memory) × w.log_grows × (new.log.failures ≡ old.log.failures)) → End f
      by_cause (inl cause) = subst End (sym cause.0) ((s, a, taken, answers, out, refused.0, frames, refusals, cause.1), same)
      by_cause (inr cause) = subst End (sym cause.0) (same, out.failures, cause.2, inr (inr (cause.1, (s, a, taken, answers, out, refused.0, frames, refusals, tt))))

pub number-after : (k : ℕ) (P : Type 0) → (k ≡ 2 ^ 64 - 1) ⊎ P → (k + 1 ≡ 2 ^ 64) ⊎ P
number-after k P (inl last) = inl (omega (arith, last))
number-after k P (inr large) = inr large
