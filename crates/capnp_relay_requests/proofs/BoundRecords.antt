-- Records and float fields of a request whose generic types are bound.
use Rattle.std.proofs.Common.{◌≡◌, ◌⊎◌, ℕ, List, ◌++◌, map, Ok, inr, ap, ◌∙◌}
use Rattle.std.proofs.lemmas.List.{map-append}
use Rattle.capnp_model.specs.Schemas.{Node}
use Rattle.capnp_relay_bindings.specs.declared.plans.Plan.{Plan}
use Rattle.capnp_relay_bindings.specs.Plans.{planned_nodes}
use Rattle.capnp_relay_requests.specs.declared.request.FloatField.{FloatField}
use Rattle.capnp_relay_requests.specs.declared.request.Floats.{Floats}
use Rattle.capnp_relay_requests.specs.Floats.{float_told}
use Rattle.capnp_relay_requests.specs.Requests.{records_told, floats_told, AreBound, AreRecordsOf, AreFloatsOf}

pub floats_joined : (v told bound : List FloatField) → v ≡ told ++ bound → map float_told v ≡ map float_told told ++ map float_told bound
floats_joined v told bound is = ap (map float_told) is ∙ map-append float_told told bound

pub planned : (told nodes : List Node) (plans : List Plan) → nodes ≡ planned_nodes told plans → AreBound told nodes
planned told nodes plans is = inr (plans, is)

pub records_bound : (floats : Floats) (bytes : List ℕ) (told nodes : List Node) → records_told floats bytes ≡ Ok told → AreBound told nodes → AreRecordsOf floats bytes nodes
records_bound floats bytes told nodes is bound = (told, is, bound)

pub floats_bound : (bytes : List ℕ) (told fields : List (ℕ × ℕ)) → floats_told bytes ≡ Ok told → ((bound : List (ℕ × ℕ)) × (fields ≡ told ++ bound)) → AreFloatsOf bytes fields
floats_bound bytes told fields is bound = (told, is, bound.0, bound.1)
