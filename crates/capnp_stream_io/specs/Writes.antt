-- What is seen of a sink, and what its writers promise.
use Rattle.std.specs.Prelude.{ℕ, List, length, IfErr, OnOk, OnErr}
use Rattle.std.specs.declared.result.Result.{Result}
use Rattle.std.specs.declared.option.Option.{Option}
use Rattle.std.specs.Io.KnownBytes.{Appends}
use Rattle.capnp_units.specs.declared.errors.Error.{Error}
use Rattle.capnp_stream_io.specs.Counting.{Counts}
use Rattle.capnp_stream_io.specs.Streams.{AppendsPart, RoomFalls, IsWriteRefusal}

-- What is seen of a sink: the bytes that it holds, where it tells them, how often its device has failed, and its room, where it has an end.
pub record SinkSeen : Type 0 where
  pub contents : Option (List ℕ)
  pub failures : ℕ
  pub room : Option ℕ

-- What is seen of a sink, by its own words.
abbrev pub sink_seen : {S : Type 0} → (S → Option (List ℕ)) → (S → ℕ) → (S → Option ℕ) → S → SinkSeen
sink_seen contents failures room s = record { contents = contents s; failures = failures s; room = room s }

-- The text is written, whole on Ok and a beginning of it on a refusal. Memory is wanted only where something grows.
pub record Writes (grows : Type 0) (text : List ℕ) (old : SinkSeen) (result : Result (Unit {0}) Error) (new : SinkSeen) : Type 0 where
  pub ok : OnOk result (Appends old.contents new.contents text)
  pub falls : OnOk result (RoomFalls old.room new.room (length text))
  pub err : OnErr result (AppendsPart old.contents new.contents text)
  pub refusal : IfErr result (λ e. IsWriteRefusal grows old.room (length text) e.kind)
  pub count : Counts result old.failures new.failures
