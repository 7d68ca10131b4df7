-- Messages that go from a source to a sink as they came. (Encoding, "Serialization Over a Stream")
use Rattle.std.specs.Prelude.{◌≡◌, ℕ, ◌<◌, ◌⊎◌, ◌≢◌, ⊤, Bool, true, false, Some, List, [], Result, Ok, Err, length, flat_map, IfSome}
use Rattle.std.specs.declared.option.Option.{Option}
use Rattle.std.specs.Io.KnownBytes.{Consumes, IsAtEnd}
use Rattle.capnp_model.specs.Segments.{Segments}
use Rattle.capnp_model.specs.Messages.{Reader, Writer, spelled}
use Rattle.capnp_model.specs.Runs.{BeginWith}
use Rattle.capnp_stream_io.specs.Counting.{Rose}
use Rattle.capnp_stream_io.specs.declared.traits.Read.{Ghosts as Read}
use Rattle.capnp_stream_io.specs.declared.traits.Write.{Ghosts as Write}
use Rattle.capnp_stream.specs.Frames.{IsFrameFault, IsFramingKind, TakesMessage, TakesMessagePart}
use Rattle.capnp_relay_loop.specs.declared.ends.Fault.{Fault}
use Rattle.capnp_relay_loop.specs.declared.ends.Fault.TheVariants as faults
use Rattle.capnp_relay_loop.specs.Streams.{SourceSeen, SinkSeen, source_seen, sink_of, SourceStays, SinkStays, SinkTakes, SinkTakesPart, SinkFails}
use Rattle.hagzimot_pieces.specs.declared.runs.CopyFault.{CopyFault}

-- How messages are read and written, and how many words they may have.
pub record Copying : Type 0 where
  pub read : Reader
  pub write : Writer
  pub limit : Option ℕ

-- That by its parts, in the order of the record.
abbrev pub copying : Reader → Writer → ℕ → Copying
copying read write limit = record { read = read; write = write; limit = Some limit }

-- What is seen of a source and a sink at one moment.
pub record Flow : Type 0 where
  pub source : SourceSeen
  pub out : SinkSeen

-- What is seen of a source and a sink of known kinds.
abbrev pub flow_of : {R W : Type 0} → Read R → Write W → R → W → Flow
flow_of r w source out = record { source = source_seen r.remaining r.failures source; out = sink_of w out }

module _ (w : Copying) where
  -- One message was taken, and written with the same segments.
  pub record CopiesOne (s : Segments) (old new : Flow) : Type 0 where
    pub taken : TakesMessage w.read w.limit old.source.remaining new.source.remaining s
    pub out : SinkTakes old.out new.out (spelled w.write s)
    pub failures : new.source.failures ≡ old.source.failures

  -- These messages were taken and written so, in order.
  pub record Copied (messages : List Segments) (old new : Flow) : Type 0 where
    pub taken : List ℕ
    pub begins : BeginWith w.read w.limit taken messages []
    pub consumed : Consumes old.source.remaining new.source.remaining taken
    pub out : SinkTakes old.out new.out (flat_map (spelled w.write) messages)
    pub failures : new.source.failures ≡ old.source.failures

  -- Less than a message was taken, or one, and nothing was written.
  abbrev pub StopsUnwritten : Flow → Flow → Type 0
  StopsUnwritten old new = TakesMessagePart w.read w.limit old.source.remaining new.source.remaining × SinkStays old.out new.out

  -- One message was taken, and a beginning of its text was written; why is said of the text's bytes.
  abbrev pub StopsWriting : (List ℕ → Type 0) → Flow → Flow → Type 0
  StopsWriting why old new = (s : Segments) × TakesMessage w.read w.limit old.source.remaining new.source.remaining s
      × SinkTakesPart old.out new.out (spelled w.write s) × why (spelled w.write s) × (new.source.failures ≡ old.source.failures)

  -- How a fault leaves the source and the sink.
  abbrev pub StopsCopying : Fault → Flow → Flow → Type 0
  StopsCopying faults.Source old new = StopsUnwritten old new × Rose old.source.failures new.source.failures
  StopsCopying (faults.Framing kind) old new = StopsUnwritten old new × (new.source.failures ≡ old.source.failures)
      × IsFramingKind kind × IfSome old.source.remaining (λ bytes. (bytes ≢ []) × IsFrameFault w.read w.limit bytes kind)
  StopsCopying faults.Out old new = StopsWriting (SinkFails old.out new.out) old new
  StopsCopying faults.Memory old new = (StopsUnwritten old new ⊎ StopsWriting (λ _. ⊤) old new)
      × (new.source.failures ≡ old.source.failures) × (new.out.failures ≡ old.out.failures)
  StopsCopying faults.Log old new = ⊥
  StopsCopying faults.Size old new = ⊥

  -- The next message was copied; or the source was at its end; or there was a fault.
  abbrev pub CopiesNext : Flow → Flow → Result Bool Fault → Type 0
  CopiesNext old new (Ok true) = (s : Segments) × CopiesOne s old new
  CopiesNext old new (Ok false) = IsAtEnd old.source.remaining × SourceStays old.source new.source × SinkStays old.out new.out
  CopiesNext old new (Err fault) = StopsCopying fault old new

  -- So many messages were copied, all that were asked for or all that there were.
  pub record CopiesAll (most n : ℕ) (old new : Flow) : Type 0 where
    pub messages : List Segments
    pub last : Flow
    pub copied : Copied messages old last
    pub number : length messages ≡ n
    pub all : (n ≡ most) ⊎ IsAtEnd last.source.remaining
    pub source_rests : SourceStays last.source new.source
    pub out_rests : SinkStays last.out new.out

  -- So many messages were copied, fewer than were asked for, and then there was a fault.
  pub record CopiesUntil (most : ℕ) (fault : Fault) (n : ℕ) (old new : Flow) : Type 0 where
    pub messages : List Segments
    pub last : Flow
    pub copied : Copied messages old last
    pub number : length messages ≡ n
    pub fewer : n < most
    pub stops : StopsCopying fault last new

  -- At most so many messages were copied, as the result says.
  abbrev pub CopiesUpTo : ℕ → Flow → Flow → Result ℕ CopyFault → Type 0
  CopiesUpTo most old new (Ok n) = CopiesAll most n old new
  CopiesUpTo most old new (Err e) = CopiesUntil most e.fault e.copied old new
