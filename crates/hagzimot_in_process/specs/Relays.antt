-- A relay over messages in memory: what it is made of, and what it does.
use Rattle.std.specs.Prelude.{◌≡◌, ℕ, List, [], ◌∷◌, Option, Some, None, Result, Ok, Err, Vec}
use Rattle.std.specs.declared.alloc.Global.{Global}
use Rattle.capnp_model.specs.Runs.{End, finished, broken}
use Rattle.capnp_units.specs.Errors.{kind_of}
use Rattle.capnp_records.specs.Sets.{nodes_of}
use Rattle.capnp_message.specs.declared.options.ReaderOptions.{ReaderOptions}
use Rattle.capnp_values_queries.specs.declared.structs.StructSchema.{StructSchema}
use Rattle.capnp_values_queries.specs.Structs.{nodes_around, id_of}
use Rattle.capnp_calls.specs.Roots.{IsRoot}
use Rattle.capnp_calls.specs.CallViews.{call_view, call_from}
use Rattle.capnp_calls.specs.declared.call.Step.{Step}
use Rattle.capnp_calls.specs.declared.call.Verb.{Verb}
use Rattle.capnp_calls.specs.declared.call.CallValue.{CallValue}
use Rattle.capnp_calls.specs.declared.call.Call.{Call}
use Rattle.capnp_relay_files.specs.CallsFiles.{calls_in}
use Rattle.capnp_relay_files.specs.CallViews.{file_of}
use Rattle.capnp_relay_files.specs.declared.calls_file.CallsFile.{CallsFile}
use Rattle.capnp_relay_loop.specs.declared.ends.Counts.{Counts}
use Rattle.capnp_relay_loop.specs.declared.ends.Fault.{Fault}
use Rattle.capnp_relay_loop.specs.declared.ends.Fault.TheVariants as faults
use Rattle.capnp_relay_loop.specs.declared.ends.RelayFault.{RelayFault}
use Rattle.capnp_relay_loop.specs.Work.{LoopWork}
use Rattle.capnp_relay_loop.specs.Streams.{Streams}
use Rattle.capnp_relay_loop.specs.Run.{RunStops}
use Rattle.capnp_relay_streams.specs.Relaying.{relay_work}
use Rattle.capnp_relay_streams.specs.Again.{RunsOver}
use Rattle.hagzimot_in_process.specs.declared.relay.Relay.{Relay}

-- The parts of a call, as a calls file has them.
abbrev pub Parts : Type 0
Parts = Vec Step Global × Verb × Option CallValue

-- Calls are made of parts, one each.
abbrev pub AreMade : List Parts → List Call → Type 0
AreMade [] [] = Unit {0}
AreMade (p ∷ parts) (c ∷ calls) = (call_from p.0.items p.1 p.2 ≡ Ok (call_view c)) × AreMade parts calls
AreMade _ _ = ⊥

-- Calls and limits are those of a calls file.
pub record AreCallsIn (bytes : List ℕ) (calls : List Call) (limits : ReaderOptions) : Type 0 where
  pub file : CallsFile
  pub read : calls_in bytes ≡ Some (file_of file)
  pub made : AreMade file.calls.items calls
  pub words : limits.traversal_limit_in_words ≡ Some file.words
  pub nesting : limits.nesting_limit ≡ file.nesting

-- The root is that of a relay's schema.
pub record IsRootIn (r : Relay) (root : StructSchema) : Type 0 where
  pub known : IsRoot root
  pub nodes : nodes_around root ≡ nodes_of r.schema.set
  pub id : id_of root ≡ r.schema.root.id

-- The work of a relay. Its output and its log take memory.
abbrev pub work_of : Relay → StructSchema → LoopWork
work_of r root = relay_work root r.calls.items r.options (Unit {0}) (Unit {0})

-- Bytes that are left to read, that are written and that are logged, in memory.
abbrev pub in_memory : List ℕ → List ℕ → List ℕ → Streams
in_memory input out log = record {
  source = record { remaining = Some input; failures = 0 };
  out = record { contents = Some out; failures = 0; room = None };
  log = record { contents = Some log; failures = 0; room = None };
}

-- A relay answered the messages that bytes begin with, and the rest is an end of the model's run. The output and the log are those of
-- that run alone.
pub record Ran (old : Relay) (input : List ℕ) (end : End) (new : Relay) : Type 0 where
  pub root : StructSchema
  pub is_root : IsRootIn old root
  pub run : RunsOver (work_of old root) input new.out.items new.log.items end

-- A relay answered some messages, and stopped by a fault.
pub record Stopped (old : Relay) (input : List ℕ) (fault : Fault) (counts : Counts) (new : Relay) : Type 0 where
  pub root : StructSchema
  pub is_root : IsRootIn old root
  pub rest : List ℕ
  pub run : RunStops (work_of old root) fault (in_memory input [] []) (in_memory rest new.out.items new.log.items) counts

-- A relay ended by a fault.
abbrev pub EndsInFault : Relay → List ℕ → Fault → Counts → Relay → Type 0
EndsInFault old input (faults.Framing kind) counts new = Ran old input (broken (kind_of kind)) new
EndsInFault old input faults.Source counts new = Stopped old input faults.Source counts new
EndsInFault old input faults.Out counts new = Stopped old input faults.Out counts new
EndsInFault old input faults.Log counts new = Stopped old input faults.Log counts new
EndsInFault old input faults.Memory counts new = Stopped old input faults.Memory counts new
EndsInFault old input faults.Size counts new = Stopped old input faults.Size counts new

-- A relay ended.
abbrev pub Ends : Relay → List ℕ → Result Counts RelayFault → Relay → Type 0
Ends old input (Ok counts) new = Ran old input finished new
Ends old input (Err e) new = EndsInFault old input e.fault e.counts new

-- Relays are asked for the same: their schema, calls and limits are equal.
pub record AreAlike (old new : Relay) : Type 0 where
  pub schema : new.schema ≡ old.schema
  pub calls : new.calls ≡ old.calls
  pub limits : new.limits ≡ old.limits
  pub options : new.options ≡ old.options
