-- What is seen of the streams of a run at one moment, and how they change.
use Rattle.std.specs.Prelude.{◌≡◌, ℕ, ◌<◌, List, length, ◌⊎◌, IsSomeAnd}
use Rattle.std.specs.Io.KnownBytes.{Keeps, Appends}
use Rattle.capnp_stream_io.specs.Counting.{Rose}
use Rattle.capnp_stream_io.specs.Streams.{AppendsPart, RoomFalls}
use Rattle.capnp_stream_io.specs.declared.traits.Read.{Ghosts as Read}
use Rattle.capnp_stream_io.specs.declared.traits.Write.{Ghosts as Write}
pub use Rattle.capnp_stream.specs.Reading.{SourceSeen, source_seen}
pub use Rattle.capnp_stream_io.specs.Writes.{SinkSeen, sink_seen}

-- What is seen of the source, the output and the log.
pub record Streams : Type 0 where
  pub source : SourceSeen
  pub out : SinkSeen
  pub log : SinkSeen

-- What is seen of the three.
abbrev pub streams : SourceSeen → SinkSeen → SinkSeen → Streams
streams source out log = record { source = source; out = out; log = log }

-- What is seen of a sink of a known kind.
abbrev pub sink_of : {W : Type 0} → Write W → W → SinkSeen
sink_of w sink = sink_seen w.contents w.failures w.room sink

-- What is seen of three streams of known kinds.
abbrev pub streams_of : {R W L : Type 0} → Read R → Write W → Write L → R → W → L → Streams
streams_of r w l source out log =
    streams (source_seen r.remaining r.failures source) (sink_of w out) (sink_of l log)

-- A source stays as it was.
abbrev pub SourceStays : SourceSeen → SourceSeen → Type 0
SourceStays old new = Keeps old.remaining new.remaining × (new.failures ≡ old.failures)

-- A sink stays as it was.
abbrev pub SinkStays : SinkSeen → SinkSeen → Type 0
SinkStays old new = Keeps old.contents new.contents × (new.failures ≡ old.failures)

-- A sink took these bytes, whole.
pub record SinkTakes (old new : SinkSeen) (bytes : List ℕ) : Type 0 where
  pub appends : Appends old.contents new.contents bytes
  pub falls : RoomFalls old.room new.room (length bytes)
  pub failures : new.failures ≡ old.failures

-- A sink took a beginning of these bytes.
abbrev pub SinkTakesPart : SinkSeen → SinkSeen → List ℕ → Type 0
SinkTakesPart old new bytes = AppendsPart old.contents new.contents bytes

-- A sink refused these bytes: its device failed, or they are more than its room.
abbrev pub SinkFails : SinkSeen → SinkSeen → List ℕ → Type 0
SinkFails old new bytes = Rose old.failures new.failures ⊎ IsSomeAnd old.room (λ left. left < length bytes)
