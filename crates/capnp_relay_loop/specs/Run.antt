-- What a whole run does to its streams.
use Rattle.std.specs.Prelude.{◌≡◌, ℕ, ◌+◌, List, [], Result, Ok, Err, length, sum_by}
use Rattle.std.specs.Io.KnownBytes.{Consumes, Appends, IsAtEnd}
use Rattle.capnp_model.specs.Segments.{Segments}
use Rattle.capnp_model.specs.Answers.{Answer}
use Rattle.capnp_model.specs.Runs.{BeginWith, AnswerEach, outputs_of, lines_of, End, IsRun}
use Rattle.capnp_relay_loop.specs.declared.ends.Counts.{Counts}
use Rattle.capnp_relay_loop.specs.declared.ends.Fault.{Fault}
use Rattle.capnp_relay_loop.specs.declared.ends.RelayFault.{RelayFault}
use Rattle.capnp_relay_loop.specs.Answers.{written_one, refused_one}
use Rattle.capnp_relay_loop.specs.Work.{LoopWork}
use Rattle.capnp_relay_loop.specs.Streams.{Streams, SourceStays, SinkStays, SinkTakes}
use Rattle.capnp_relay_loop.specs.Stops.{StopsByFault}

-- These messages were taken and answered so, whole.
pub record Answered (w : LoopWork) (messages : List Segments) (answers : List Answer) (old new : Streams) (counts : Counts) : Type 0 where
  pub taken : List ℕ
  pub begins : BeginWith w.read w.limit taken messages []
  pub consumed : Consumes old.source.remaining new.source.remaining taken
  pub answered : AnswerEach w.is_answer messages answers
  pub out : SinkTakes old.out new.out (outputs_of w.write answers)
  pub log : SinkTakes old.log new.log (lines_of 1 answers)
  pub written : counts.written ≡ sum_by written_one answers
  pub refused : counts.refused ≡ sum_by refused_one answers
  pub source_failures : new.source.failures ≡ old.source.failures

module _ (w : LoopWork) where
  -- A run that answered all that there was.
  abbrev pub RunsOut : Streams → Streams → Counts → Type 0
  RunsOut old new counts = (messages : List Segments) × (answers : List Answer) × (last : Streams) × Answered w messages answers old last counts
      × IsAtEnd last.source.remaining × SourceStays last.source new.source × SinkStays last.out new.out × SinkStays last.log new.log

  -- A run that answered some messages, and then met a fault.
  abbrev pub RunStops : Fault → Streams → Streams → Counts → Type 0
  RunStops fault old new counts = (messages : List Segments) × (answers : List Answer) × (mid : Streams) × (so_far : Counts)
      × Answered w messages answers old mid so_far × StopsByFault w (length answers + 1) fault mid new so_far counts

  -- A run, as it ended.
  abbrev pub RunEndsAs : Streams → Streams → Result Counts RelayFault → Type 0
  RunEndsAs old new (Ok counts) = RunsOut old new counts
  RunEndsAs old new (Err e) = RunStops e.fault old new e.counts

  -- The bytes go to what was written and logged between two moments.
  abbrev pub GoesTo : Streams → Streams → End → List ℕ → Type 0
  GoesTo old new end bytes = (output log : List ℕ) × IsRun w.read w.write w.limit w.is_answer bytes output log end
      × Appends old.out.contents new.out.contents output × Appends old.log.contents new.log.contents log
