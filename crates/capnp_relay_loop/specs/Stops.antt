-- What one step of a run does to its streams, and how a fault leaves them.
use Rattle.std.specs.Prelude.{◌≡◌, ◌≢◌, ℕ, ◌+◌, ◌-◌, ◌^◌, ◌<◌, Bool, true, false, List, [], ⊤, ◌⊎◌, IfSome, Result, Ok, Err}
use Rattle.std.specs.Io.KnownBytes.{IsAtEnd}
use Rattle.capnp_model.specs.Segments.{Segments}
use Rattle.capnp_model.specs.Messages.{spelled}
use Rattle.capnp_model.specs.Answers.{Answer, Reply, written}
use Rattle.capnp_model.specs.Runs.{line_of, output_of}
use Rattle.capnp_units.specs.declared.kinds.ErrorKind.{ErrorKind}
use Rattle.capnp_units.specs.declared.kinds.ErrorKind.TheVariants.{OutOfMemory, Device}
use Rattle.capnp_stream_io.specs.Counting.{Rose}
use Rattle.capnp_stream.specs.Frames.{IsFrameFault, IsFramingKind, TakesMessage, TakesMessagePart}
use Rattle.capnp_relay_loop.specs.declared.ends.Counts.{Counts}
use Rattle.capnp_relay_loop.specs.declared.ends.Fault.{Fault}
use Rattle.capnp_relay_loop.specs.declared.ends.Fault.TheVariants as faults
use Rattle.capnp_relay_loop.specs.Answers.{CountsOne, written_one}
use Rattle.capnp_relay_loop.specs.Work.{LoopWork}
use Rattle.capnp_relay_loop.specs.Streams.{Streams, SinkSeen, SourceStays, SinkStays, SinkTakes, SinkTakesPart, SinkFails}

-- What a refused read is told as: want of memory, a failure of the source, or else that the bytes are framed wrongly.
pub record ReadIsToldAs (kind : ErrorKind) (fault : Fault) : Type 0 where
  pub memory : kind ≡ OutOfMemory → fault ≡ faults.Memory
  pub device : kind ≡ Device → fault ≡ faults.Source
  pub other : kind ≢ OutOfMemory → kind ≢ Device → fault ≡ faults.Framing kind

-- A sink refused these bytes, with the sink's own fault or, where it grows, for want of memory.
abbrev pub SinkRefused : Fault → Type 0 → Fault → SinkSeen → SinkSeen → List ℕ → Type 0
SinkRefused own grows fault old new bytes = SinkTakesPart old new bytes
    × (((fault ≡ own) × SinkFails old new bytes) ⊎ ((fault ≡ faults.Memory) × grows × (new.failures ≡ old.failures)))

-- The source was at its end, and nothing was taken, written or counted.
abbrev pub EndsRun : Streams → Streams → Counts → Counts → Type 0
EndsRun old new before after = IsAtEnd old.source.remaining × SourceStays old.source new.source × SinkStays old.out new.out × SinkStays old.log new.log × (after ≡ before)

module _ (w : LoopWork) where
  -- One message was taken and answered whole, as message n.
  abbrev pub AnswersOne : ℕ → Streams → Streams → Counts → Counts → Type 0
  AnswersOne n old new before after = (s : Segments) × (a : Answer) × TakesMessage w.read w.limit old.source.remaining new.source.remaining s × w.is_answer s a
      × SinkTakes old.out new.out (output_of w.write a) × SinkTakes old.log new.log (line_of n a)
      × CountsOne before after a × (new.source.failures ≡ old.source.failures)

  -- The message behind n was taken and answered whole; its number has 64 bits.
  abbrev pub AnswersNext : ℕ → Streams → Streams → Counts → Counts → Type 0
  AnswersNext n old new before after = (n < 2 ^ 64 - 1) × AnswersOne (n + 1) old new before after

  -- Less than a message was taken, or one, and nothing was written.
  abbrev pub StopsBefore : Streams → Streams → Counts → Counts → Type 0
  StopsBefore old new before after = TakesMessagePart w.read w.limit old.source.remaining new.source.remaining × SinkStays old.out new.out × SinkStays old.log new.log × (after ≡ before)

  -- One message was taken, and a beginning of its text was written; why is said of the text's bytes.
  abbrev pub StopsInOut : (List ℕ → Type 0) → Streams → Streams → Counts → Counts → Type 0
  StopsInOut why old new before after = (s segments : Segments) × (replies : List Reply) × TakesMessage w.read w.limit old.source.remaining new.source.remaining s
      × w.is_answer s (written segments replies) × SinkTakesPart old.out new.out (spelled w.write segments) × SinkStays old.log new.log × (after ≡ before) × why (spelled w.write segments)

  -- One message was taken, its whole text was written, if any, and a beginning of its line; why is said of the line's bytes.
  abbrev pub StopsInLog : (List ℕ → Type 0) → ℕ → Streams → Streams → Counts → Counts → Type 0
  StopsInLog why n old new before after = (s : Segments) × (a : Answer) × TakesMessage w.read w.limit old.source.remaining new.source.remaining s × w.is_answer s a
      × SinkTakes old.out new.out (output_of w.write a) × SinkTakesPart old.log new.log (line_of n a)
      × (after.written ≡ before.written + written_one a) × (after.refused ≡ before.refused) × why (line_of n a)

  -- How a fault leaves the streams, where message n was to be answered.
  abbrev pub StopsByFault : ℕ → Fault → Streams → Streams → Counts → Counts → Type 0
  StopsByFault n faults.Source old new before after = StopsBefore old new before after × Rose old.source.failures new.source.failures
  StopsByFault n (faults.Framing kind) old new before after = StopsBefore old new before after × (new.source.failures ≡ old.source.failures)
      × IsFramingKind kind × IfSome old.source.remaining (λ bytes. (bytes ≡ [] → ⊥) × IsFrameFault w.read w.limit bytes kind)
  StopsByFault n faults.Out old new before after = StopsInOut (SinkFails old.out new.out) old new before after × (new.source.failures ≡ old.source.failures)
  StopsByFault n faults.Log old new before after = StopsInLog (SinkFails old.log new.log) n old new before after × (new.source.failures ≡ old.source.failures)
  StopsByFault n faults.Memory old new before after = (new.source.failures ≡ old.source.failures) × (new.out.failures ≡ old.out.failures) × (new.log.failures ≡ old.log.failures)
      × (StopsBefore old new before after
      ⊎ (w.out_grows × StopsInOut (λ _. ⊤) old new before after)
      ⊎ (w.log_grows × StopsInLog (λ _. ⊤) n old new before after))
  StopsByFault n faults.Size old new before after = StopsBefore old new before after × (new.source.failures ≡ old.source.failures)
      × ((n ≡ 2 ^ 64) ⊎ ((s : Segments) × TakesMessage w.read w.limit old.source.remaining new.source.remaining s × w.is_too_large s))

  -- One step behind n answered messages: nothing was left, one more was answered, or there was a
  -- fault.
  abbrev pub Steps : ℕ → Streams → Streams → Counts → Counts → Result Bool Fault → Type 0
  Steps n old new before after (Ok false) = EndsRun old new before after
  Steps n old new before after (Ok true) = AnswersNext n old new before after
  Steps n old new before after (Err fault) = StopsByFault (n + 1) fault old new before after
