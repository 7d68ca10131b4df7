-- Builders of structs under a schema that stay where they are.
use Rattle.std.specs.Prelude.{◌≡◌, ℕ, List}
use Rattle.capnp_model.specs.Calls.{Call}
use Rattle.capnp_model.specs.Answers.{Reply}
use Rattle.capnp_units.specs.declared.errors.Error.{Error}
use Rattle.capnp_schema_structs.specs.Builders.{words_around_struct}
use Rattle.capnp_schema_structs.specs.declared.dynamic_struct.Builder.{Builder}
use Rattle.capnp_calls_run.specs.declared.fault.RunFault.{RunFault}
use Rattle.capnp_calls_run.specs.Runs.{RunsAt, StopsAt, EndsLongAt}

-- The handle holds the same loan of the same message's memory, at the same struct, under the same schema.
pub record IsSameHandle {A : Type 0} (old new : Builder A) : Type 0 where
  pub same : new.memory.ghost_name ≡ old.memory.ghost_name
  pub place : new.place ≡ old.place
  pub schema : new.schema ≡ old.schema

-- Calls in turn at the struct of a builder.
module _ {A : Type 0} (bytes : A → List (List ℕ)) where
  -- The struct is answered, and edited.
  abbrev pub RunsBuilder : Builder A → Builder A → List Call → List Reply → Type 0
  RunsBuilder old new calls told = RunsAt (words_around_struct bytes old) (words_around_struct bytes new) (record { place = old.place; schema = old.schema }) calls told

  -- Why they stop there.
  abbrev pub StopsBuilder : (Error → Type 0) → Builder A → Builder A → List Call → RunFault → Type 0
  StopsBuilder told old new calls fault = StopsAt told (words_around_struct bytes old) (words_around_struct bytes new) (record { place = old.place; schema = old.schema }) calls fault

  -- One of them puts a list that is too long.
  abbrev pub EndsLongBuilder : Builder A → List Call → Type 0
  EndsLongBuilder b calls = EndsLongAt (words_around_struct bytes b) b.place b.schema calls
