-- How a run ended, by the status that it got.
use Rattle.std.proofs.Common.{◌≡◌, ◌≢◌, ℕ, List, Result, Ok, Err, IsOk, sym}
use Rattle.capnp_model.specs.Kinds.{Kind as FaultKind}
use Rattle.capnp_model.specs.Runs.{finished, broken}
use Rattle.capnp_units.specs.Errors.{kind_of}
use Rattle.capnp_relay_loop.specs.declared.ends.Counts.{Counts}
use Rattle.capnp_relay_loop.specs.declared.ends.Fault.{Fault}
use Rattle.capnp_relay_loop.specs.declared.ends.Fault.TheVariants as faults
use Rattle.capnp_relay_loop.specs.declared.ends.RelayFault.{RelayFault}
use Rattle.hagzimot_in_process.specs.declared.relay.Relay.{Relay}
use Rattle.hagzimot_in_process.specs.Relays.{Ran, Ends, EndsInFault}
use Rattle.hagzimot_c.specs.Exports.{StopsBy}
use Rattle.hagzimot_c.specs.Statuses.{IsFraming, IsCut, EndsBy, status_of}

-- All was answered.
pub ran_all : (old new : Relay) (input : List ℕ) (end : Result Counts RelayFault) → Ends old input end new → IsOk end → Ran old input finished new
ran_all old new input (Ok counts) ends ok = ends
ran_all old new input (Err e) ends ok = absurd cc

-- The rest of the input doesn't begin with a message.
in_framing : (old new : Relay) (input : List ℕ) (fault : Fault) (counts : Counts) → EndsInFault old input fault counts new → IsFraming fault → (why : FaultKind) × Ran old input (broken why) new
in_framing old new input (faults.Framing kind) counts ends is = (kind_of kind, ends)
in_framing old new input faults.Source counts ends is = absurd is
in_framing old new input faults.Out counts ends is = absurd is
in_framing old new input faults.Log counts ends is = absurd is
in_framing old new input faults.Memory counts ends is = absurd is
in_framing old new input faults.Size counts ends is = absurd is

pub ran_cut : (old new : Relay) (input : List ℕ) (end : Result Counts RelayFault) → Ends old input end new → IsCut end → (why : FaultKind) × Ran old input (broken why) new
ran_cut old new input (Ok counts) ends cut = absurd cut
ran_cut old new input (Err e) ends cut = in_framing old new input e.fault e.counts ends cut

-- The relay stopped before the end of the input.
by_fault : (old new : Relay) (input : List ℕ) (status : ℕ) (fault : Fault) (counts : Counts) → EndsInFault old input fault counts new → status_of fault ≡ status → status ≢ 6 → StopsBy input status old new
by_fault old new input status (faults.Framing kind) counts ends is other = absurd (other (sym is))
by_fault old new input status faults.Source counts ends is other = record { fault = faults.Source; counts = counts; status_is = is; stopped = ends }
by_fault old new input status faults.Out counts ends is other = record { fault = faults.Out; counts = counts; status_is = is; stopped = ends }
by_fault old new input status faults.Log counts ends is other = record { fault = faults.Log; counts = counts; status_is = is; stopped = ends }
by_fault old new input status faults.Memory counts ends is other = record { fault = faults.Memory; counts = counts; status_is = is; stopped = ends }
by_fault old new input status faults.Size counts ends is other = record { fault = faults.Size; counts = counts; status_is = is; stopped = ends }

pub stopped : (old new : Relay) (input : List ℕ) (status : ℕ) (end : Result Counts RelayFault) → Ends old input end new → EndsBy status end → status ≢ 6 → StopsBy input status old new
stopped old new input status (Ok counts) ends by other = absurd by
stopped old new input status (Err e) ends by other = by_fault old new input status e.fault e.counts ends by other
