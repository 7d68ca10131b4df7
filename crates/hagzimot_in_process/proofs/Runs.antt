-- How a relay in memory ended, from what is known of its streams.
use Rattle.std.proofs.Common.{◌≡◌, ℕ, List, [], Result, Ok, Err, inl, inr, IfSome, sym, subst}
use Rattle.capnp_model.specs.Runs.{End, finished, broken}
use Rattle.capnp_units.specs.Errors.{kind_of}
use Rattle.capnp_units.specs.declared.kinds.ErrorKind.{ErrorKind}
use Rattle.capnp_values_queries.specs.declared.structs.StructSchema.{StructSchema}
use Rattle.capnp_calls.specs.declared.call.Call.{Call}
use Rattle.capnp_relay_loop.specs.declared.ends.Counts.{Counts}
use Rattle.capnp_relay_loop.specs.declared.ends.Fault.{Fault}
use Rattle.capnp_relay_loop.specs.declared.ends.Fault.TheVariants as faults
use Rattle.capnp_relay_loop.specs.declared.ends.RelayFault.{RelayFault}
use Rattle.capnp_relay_loop.specs.Work.{LoopWork}
use Rattle.capnp_relay_loop.specs.Streams.{Streams}
use Rattle.capnp_relay_loop.specs.Run.{RunsOut, RunStops, GoesTo}
use Rattle.capnp_relay_loop.specs.Pauses.{RelaysPausing}
use Rattle.capnp_relay_streams.specs.Relaying.{relay_work}
use Rattle.capnp_relay_streams.specs.Again.{RunsOver}
use Rattle.capnp_relay_streams.specs.declared.options.RelayOptions.{RelayOptions}
use Rattle.hagzimot_in_process.specs.declared.relay.Relay.{Relay}
use Rattle.hagzimot_in_process.specs.Relays.{IsRootIn, work_of, in_memory, EndsInFault, Ends}

-- The work of calls whose output and log take memory.
abbrev pub growing : StructSchema → List Call → RelayOptions → LoopWork
growing root calls options = relay_work root calls options (Unit {0}) (Unit {0})

-- Runs that answer all of known bytes, and those that meet bytes that begin with no message, as the law has them.
abbrev pub AllKnown : Type 0
AllKnown = (root : StructSchema) (calls : List Call) (options : RelayOptions) (was is : Streams) (counts : Counts) → RunsOut (growing root calls options) was is counts
    → IfSome was.source.remaining (GoesTo (growing root calls options) was is finished)

abbrev pub CutKnown : Type 0
CutKnown = (root : StructSchema) (calls : List Call) (options : RelayOptions) (was is : Streams) (counts : Counts) (kind : ErrorKind) → RunStops (growing root calls options) (faults.Framing kind) was is counts
    → IfSome was.source.remaining (GoesTo (growing root calls options) was is (broken (kind_of kind)))

-- A run over bytes in memory makes all that is in the output and the log.
run_in_memory : (w : LoopWork) (input out log rest : List ℕ) (end : End) → GoesTo w (in_memory input [] []) (in_memory rest out log) end input → RunsOver w input out log end
run_in_memory w input out log rest end goes =
    let P : List ℕ → Type 0 = λ xs. RunsOver w input xs goes.1 end in
    let Q : List ℕ → Type 0 = λ xs. RunsOver w input out xs end in
    subst Q (sym goes.4) (subst P (sym goes.3) goes.2)

module _ (all : AllKnown) (cut : CutKnown) (old new : Relay) (input rest : List ℕ) (root : StructSchema) (is_root : IsRootIn old root) where
  in_fault : (f : Fault) (counts : Counts) → RunStops (work_of old root) f (in_memory input [] []) (in_memory rest new.out.items new.log.items) counts → EndsInFault old input f counts new
  in_fault (faults.Framing kind) counts h = record { root = root; is_root = is_root; run = run_in_memory (work_of old root) input new.out.items new.log.items rest (broken (kind_of kind)) (cut root old.calls.items old.options (in_memory input [] []) (in_memory rest new.out.items new.log.items) counts kind h) }
  in_fault faults.Source counts h = record { root = root; is_root = is_root; rest = rest; run = h }
  in_fault faults.Out counts h = record { root = root; is_root = is_root; rest = rest; run = h }
  in_fault faults.Log counts h = record { root = root; is_root = is_root; rest = rest; run = h }
  in_fault faults.Memory counts h = record { root = root; is_root = is_root; rest = rest; run = h }
  in_fault faults.Size counts h = record { root = root; is_root = is_root; rest = rest; run = h }

  ended : (result : Result Counts RelayFault) → RelaysPausing ⊥ (work_of old root) (in_memory input [] []) (in_memory rest new.out.items new.log.items) result → Ends old input result new
  ended (Ok counts) h = record { root = root; is_root = is_root; run = run_in_memory (work_of old root) input new.out.items new.log.items rest finished (all root old.calls.items old.options (in_memory input [] []) (in_memory rest new.out.items new.log.items) counts h) }
  ended (Err e) (inl h) = in_fault e.fault e.counts h
  ended (Err e) (inr h) = absurd h.0

  -- The relay ended as its run did, over an output and a log that were emptied.
  pub ended_of : (calls : List Call) (out log : List ℕ) (result : Result Counts RelayFault) → calls ≡ old.calls.items → out ≡ [] → log ≡ []
      → RelaysPausing ⊥ (growing root calls old.options) (in_memory input out log) (in_memory rest new.out.items new.log.items) result → Ends old input result new
  ended_of calls out log result same no_out no_log h =
      let now : Streams = in_memory rest new.out.items new.log.items in
      let C : List Call → Type 0 = λ cs. RelaysPausing ⊥ (growing root cs old.options) (in_memory input out log) now result in
      let O : List ℕ → Type 0 = λ xs. RelaysPausing ⊥ (work_of old root) (in_memory input xs log) now result in
      let L : List ℕ → Type 0 = λ xs. RelaysPausing ⊥ (work_of old root) (in_memory input [] xs) now result in
      ended result (subst L no_log (subst O no_out (subst C same h)))
