-- What calls in turn do, told by the bytes of an arena.
use Rattle.std.specs.Prelude.{ℕ, List}
use Rattle.capnp_model.specs.Calls.{Call}
use Rattle.capnp_model.specs.Answers.{Reply}
use Rattle.capnp_units.specs.Segments.{words_in}
use Rattle.capnp_units.specs.declared.errors.Error.{Error}
use Rattle.capnp_copy_arenas.specs.declared.fields.StructPlace.{StructPlace}
use Rattle.capnp_values_queries.specs.declared.structs.StructSchema.{StructSchema}
use Rattle.capnp_schema_structs.specs.declared.init.Part.{Part}
use Rattle.capnp_calls_run.specs.declared.fault.RunFault.{RunFault}
use Rattle.capnp_calls_run.specs.Runs.{AnswersAt, FailsAt, PutsLongAt, RunsAt, StopsAt, EndsLongAt, RunsRoot, StopsRoot, EndsLongRoot}

-- A struct, by its place and its schema.
abbrev pub part_at : StructPlace → StructSchema → Part
part_at place schema = record { place = place; schema = schema }

-- ---- a call at a struct

abbrev pub BytesAnswerAt : List (List ℕ) → List (List ℕ) → Part → Call → Reply → Type 0
BytesAnswerAt s u x c told = AnswersAt (words_in s) (words_in u) x c told

abbrev pub BytesFailAt : (Error → Type 0) → List (List ℕ) → List (List ℕ) → Part → Call → RunFault → Type 0
BytesFailAt told s u x c fault = FailsAt told (words_in s) (words_in u) x c fault

abbrev pub BytesPutLongAt : List (List ℕ) → StructPlace → StructSchema → Call → Type 0
BytesPutLongAt s p schema c = PutsLongAt (words_in s) p schema c

-- ---- calls in turn at a struct

abbrev pub BytesRunAt : List (List ℕ) → List (List ℕ) → Part → List Call → List Reply → Type 0
BytesRunAt s u x calls told = RunsAt (words_in s) (words_in u) x calls told

abbrev pub BytesStopAt : (Error → Type 0) → List (List ℕ) → List (List ℕ) → Part → List Call → RunFault → Type 0
BytesStopAt told s u x calls fault = StopsAt told (words_in s) (words_in u) x calls fault

abbrev pub BytesEndLongAt : List (List ℕ) → StructPlace → StructSchema → List Call → Type 0
BytesEndLongAt s p schema calls = EndsLongAt (words_in s) p schema calls

-- ---- calls in turn at the root of a message

abbrev pub BytesRunRoot : List (List ℕ) → List (List ℕ) → StructSchema → List Call → List Reply → Type 0
BytesRunRoot s u schema calls told = RunsRoot (words_in s) (words_in u) schema calls told

abbrev pub BytesStopRoot : (Error → Type 0) → List (List ℕ) → List (List ℕ) → StructSchema → List Call → RunFault → Type 0
BytesStopRoot told s u schema calls fault = StopsRoot told (words_in s) (words_in u) schema calls fault

abbrev pub BytesEndLongRoot : List (List ℕ) → StructSchema → List Call → Type 0
BytesEndLongRoot s schema calls = EndsLongRoot (words_in s) schema calls
