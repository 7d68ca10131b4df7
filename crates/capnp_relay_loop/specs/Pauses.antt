-- Pauses of a run, before a message is read.
use Rattle.std.specs.Prelude.{◌≡◌, ℕ, zero, suc, ◌+◌, List, [], Result, Ok, Err, ◌⊎◌}
use Rattle.std.specs.Io.KnownBytes.{Keeps}
use Rattle.capnp_stream_io.specs.Counting.{Rose}
use Rattle.capnp_model.specs.Segments.{Segments}
use Rattle.capnp_model.specs.Answers.{Answer}
use Rattle.capnp_relay_loop.specs.declared.ends.Counts.{Counts}
use Rattle.capnp_relay_loop.specs.declared.ends.Fault.{Fault}
use Rattle.capnp_relay_loop.specs.declared.ends.Fault.TheVariants as faults
use Rattle.capnp_relay_loop.specs.declared.ends.RelayFault.{RelayFault}
use Rattle.capnp_stream_io.specs.declared.traits.Read.{Ghosts as Read}
use Rattle.capnp_stream_io.specs.declared.traits.Write.{Ghosts as Write}
use Rattle.capnp_relay_loop.specs.Streams.{Streams, SinkSeen, SinkTakes, streams_of}
use Rattle.capnp_relay_loop.specs.Work.{LoopWork}
use Rattle.capnp_relay_loop.specs.Stops.{AnswersOne, StopsByFault, EndsRun}
use Rattle.capnp_relay_loop.specs.Run.{Answered, RunsOut, RunStops}

-- A sink was given nothing.
abbrev pub SinkRests : SinkSeen → SinkSeen → Type 0
SinkRests old new = SinkTakes old new []

-- A sink was given nothing, and its device failed.
abbrev pub SinkBreaks : SinkSeen → SinkSeen → Type 0
SinkBreaks old new = Keeps old.contents new.contents × Rose old.failures new.failures

-- A fault in a pause is that of the sink whose device failed: of the output, or of the log.
abbrev pub FailsInPause : Fault → SinkSeen → SinkSeen → SinkSeen → SinkSeen → Type 0
FailsInPause faults.Out out out' log log' = SinkBreaks out out' × SinkRests log log'
FailsInPause faults.Log out out' log log' = SinkRests out out' × SinkBreaks log log'
FailsInPause faults.Source out out' log log' = ⊥
FailsInPause (faults.Framing kind) out out' log log' = ⊥
FailsInPause faults.Memory out out' log log' = ⊥
FailsInPause faults.Size out out' log log' = ⊥

-- A run that answered some messages whole, and then met a fault in a pause.
abbrev pub StopsInPause : LoopWork → Fault → Streams → Streams → Counts → Type 0
StopsInPause w fault old new counts = (messages : List Segments) × (answers : List Answer) × (mid : Streams) × Answered w messages answers old mid counts
    × (new.source ≡ mid.source) × FailsInPause fault mid.out new.out mid.log new.log

-- A run with pauses, which may fail, as it ended.
abbrev pub RelaysPausing : Type 0 → LoopWork → Streams → Streams → Result Counts RelayFault → Type 0
RelaysPausing may_fail w old new (Ok counts) = RunsOut w old new counts
RelaysPausing may_fail w old new (Err e) = RunStops w e.fault old new e.counts ⊎ (may_fail × StopsInPause w e.fault old new e.counts)

-- The three streams of a run at one moment.
pub record Moment (R W L : Type 0) : Type 0 where
  pub source : R
  pub out : W
  pub log : L

-- The three streams, in the order of the record.
abbrev pub moment : {R W L : Type 0} → R → W → L → Moment R W L
moment source out log = record { source = source; out = out; log = log }

-- What pauses do: what is seen of the streams, what holds behind a pause that ended well, and what behind one that ended with a fault.
pub record Pauses (R W L : Type 0) : Type 1 where
  pub seen : R → W → L → Streams
  pub holds : R → W → L → Type 0
  pub fails : Fault → W → L → Type 0

-- The pauses, in the order of the record.
abbrev pub pauses : {R W L : Type 0} → (R → W → L → Streams) → (R → W → L → Type 0) → (Fault → W → L → Type 0) → Pauses R W L
pauses seen holds fails = record { seen = seen; holds = holds; fails = fails }

-- The pauses of streams of known kinds.
abbrev pub pauses_of : {R W L : Type 0} → Read R → Write W → Write L → (R → W → L → Type 0) → (Fault → W → L → Type 0) → Pauses R W L
pauses_of r w l holds fails = pauses (streams_of r w l) holds fails

module _ {R W L : Type 0} (p : Pauses R W L) where
  -- What is seen at a moment.
  abbrev pub seen_at : Moment R W L → Streams
  seen_at m = p.seen m.source m.out m.log

  -- A pause that ended well: nothing was read or given to a sink, and what it promises holds.
  pub record PausesWell (old new : Moment R W L) : Type 0 where
    pub source : new.source ≡ old.source
    pub out : SinkRests (seen_at old).out (seen_at new).out
    pub log : SinkRests (seen_at old).log (seen_at new).log
    pub holds : p.holds new.source new.out new.log

  -- A pause that ended with this fault, of a device.
  pub record PausesInFault (fault : Fault) (old new : Moment R W L) : Type 0 where
    pub source : new.source ≡ old.source
    pub seen : FailsInPause fault (seen_at old).out (seen_at new).out (seen_at old).log (seen_at new).log
    pub fails : p.fails fault new.out new.log

  module _ (w : LoopWork) where
    -- One message was answered whole, as message n, and was read right behind a pause.
    abbrev pub AnswersPausing : ℕ → Moment R W L → Moment R W L → Type 0
    AnswersPausing n old new = (paused : Moment R W L) × PausesWell old paused
        × (before after : Counts) × AnswersOne w n (seen_at paused) (seen_at new) before after

    -- n messages were answered whole, each read right behind a pause.
    abbrev pub AnsweredPausing : ℕ → Moment R W L → Moment R W L → Type 0
    AnsweredPausing zero old new = new ≡ old
    AnsweredPausing (suc n) old new = (mid : Moment R W L) × AnsweredPausing n old mid × AnswersPausing (suc n) mid new

    -- Behind n messages, and right behind a pause, the end of the input was met.
    abbrev pub EndsPausing : Moment R W L → Moment R W L → Type 0
    EndsPausing mid new = (paused : Moment R W L) × PausesWell mid paused
        × (before after : Counts) × EndsRun (seen_at paused) (seen_at new) before after

    -- Behind n messages nothing was done, or a pause met this fault, or what came right behind one.
    abbrev pub StopsPausing : ℕ → Fault → Moment R W L → Moment R W L → Type 0
    StopsPausing n fault mid new = (new ≡ mid) ⊎ (PausesInFault fault mid new
        ⊎ ((paused : Moment R W L) × PausesWell mid paused
        × (before after : Counts) × StopsByFault w (n + 1) fault (seen_at paused) (seen_at new) before after))

    -- Each read of a run for a message, as it ended, stood right behind a pause.
    abbrev pub PausesBeforeReads : Moment R W L → Moment R W L → Result Counts RelayFault → Type 0
    PausesBeforeReads old new (Ok counts) = (n : ℕ) × (mid : Moment R W L) × AnsweredPausing n old mid × EndsPausing mid new
    PausesBeforeReads old new (Err e) = (n : ℕ) × (mid : Moment R W L) × AnsweredPausing n old mid × StopsPausing n e.fault mid new
