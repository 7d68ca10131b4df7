-- What was written of packed words. (Encoding, "Packing")
use Rattle.std.specs.Prelude.{◌≡◌, ◌≤◌, ◌<◌, ◌%◌, ℕ, List, ◌++◌, length, take, IfOk, IfErr, OnErr}
use Rattle.std.specs.declared.result.Result.{Result}
use Rattle.std.specs.declared.option.Option.{Option}
use Rattle.std.specs.Io.KnownBytes.{Appends}
use Rattle.capnp_model.specs.Packing.{next, packed_from}
use Rattle.capnp_stream.specs.Segments.{whole_words}
use Rattle.capnp_units.specs.declared.errors.Error.{Error}
use Rattle.capnp_stream_io.specs.Counting.{Counts}
use Rattle.capnp_stream_io.specs.Streams.{AppendsPart, RoomFalls, IsWriteRefusal}
use Rattle.capnp_stream_io.specs.Writes.{SinkSeen}
use denote.Ref.{Bor}

-- The written spelling of further words of a piece, from a group on.
unfoldable pub packed_on : List ℕ → List ℕ
packed_on words = packed_from next words

-- The spelling of these words was written up to that of the words that are left.
pub record WritesUpTo (words left : List ℕ) (old new : Option (List ℕ)) (room rest : Option ℕ) : Type 0 where
  pub part : List ℕ
  pub whole : packed_on words ≡ part ++ packed_on left
  pub written : Appends old new part
  pub falls : RoomFalls room rest (length part)

-- The first n bytes of a buffer and then a run as it is spell the words in front of the rest.
pub record PacksFront (bytes buf : List ℕ) (len : ℕ) (run rest : List ℕ) : Type 0 where
  pub within : len ≤ length buf
  pub shorter : length rest < length bytes
  pub whole : length rest % 8 ≡ 0
  pub spells : packed_on (whole_words bytes) ≡ (take len buf ++ run) ++ packed_on (whole_words rest)

-- The groups of the first words are written, and the bytes of the words that are left are returned.
-- After a refusal a beginning of the spelling of all words was written.
pub record WritesFirst (grows : Type 0) (bytes : List ℕ) (old : SinkSeen) (result : Result (Bor (List ℕ)) Error) (new : SinkSeen) : Type 0 where
  pub ok : IfOk result (λ rest. WritesUpTo (whole_words bytes) (whole_words rest.now) old.contents new.contents old.room new.room)
  pub whole : IfOk result (λ rest. length rest.now % 8 ≡ 0)
  pub shorter : IfOk result (λ rest. length rest.now < length bytes)
  pub err : OnErr result (AppendsPart old.contents new.contents (packed_on (whole_words bytes)))
  pub refusal : IfErr result (λ e. IsWriteRefusal grows old.room (length (packed_on (whole_words bytes))) e.kind)
  pub count : Counts result old.failures new.failures
