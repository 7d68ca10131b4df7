-- Texts of records, in lent memory.
use Rattle.std.proofs.Common.{◌≡◌, ℕ, List, Ok, subst, sym}
use Rattle.capnp_values_queries.specs.declared.structs.StructSchema.{StructSchema}
use Rattle.capnp_relay_show.specs.Answers.{shown_by, IsShowFault}
use Rattle.capnp_relay_show.specs.declared.show.ShowFault.{ShowFault}
use Rattle.hagzimot_in_process.specs.declared.relay.Relay.{Relay}
use Rattle.hagzimot_in_process.specs.Relays.{IsRootIn}
use Rattle.hagzimot_c.specs.Exports.{IsLent, Shows, IsNotShown}
use Rattle.hagzimot_c.specs.Statuses.{show_status_of}

-- The text that a relay shows is lent.
pub lent_text : (r : Relay) (bytes text seen out : List ℕ) (len : ℕ) → ((root : StructSchema) × IsRootIn r root × (shown_by root r.limits bytes ≡ Ok text)) → seen ≡ text → IsLent seen out len → Shows bytes out len r
lent_text r bytes text seen out len found same is =
    let P : List ℕ → Type 0 = λ xs. IsLent xs out len in
    record { root = found.0; is_root = found.1; text = text; shown = found.2; copied = subst P same is }

-- No text is shown, for a reason of its status.
pub not_shown : (r : Relay) (bytes : List ℕ) (fault : ShowFault) (status : ℕ) → ((root : StructSchema) × IsRootIn r root × IsShowFault root r.limits bytes fault) → status ≡ show_status_of fault → IsNotShown bytes status r
not_shown r bytes fault status found is = record { root = found.0; is_root = found.1; fault = fault; why = found.2; status_is = sym is }
