-- Calls are admitted by what a root's schema and id are.
use Rattle.std.proofs.Common.{◌≡◌, ℕ, List, Result, IfOk, subst}
use Rattle.capnp_model.specs.Schemas.{Node}
use Rattle.capnp_model.specs.Calls.{Call}
use Rattle.capnp_model.specs.Accepted.{schema_of}
use Rattle.capnp_model.specs.Partners.{Renaming}
use Rattle.capnp_model.specs.Admitted.{is_admitted, is_admitted_with}
use Rattle.capnp_units.specs.declared.errors.Error.{Error}
use Rattle.capnp_calls_versions.specs.declared.admitted.Admission.{Admission}
use Rattle.capnp_calls_versions.specs.Ways.{IsAdmissionOf}

-- the same nodes and ids admit the same calls
pub same_admission : (r : Result Admission Error) (calls : List Call) (n m a b : List Node) (i j k l : ℕ) → n ≡ a → m ≡ b → i ≡ k → j ≡ l → IfOk r (IsAdmissionOf (is_admitted (schema_of n) (schema_of m) i j) calls) → IfOk r (IsAdmissionOf (is_admitted (schema_of a) (schema_of b) k l) calls)
same_admission r calls n m a b i j k l p q s t h =
    subst (λ (x : List Node). IfOk r (IsAdmissionOf (is_admitted (schema_of x) (schema_of b) k l) calls)) p
    (subst (λ (x : List Node). IfOk r (IsAdmissionOf (is_admitted (schema_of n) (schema_of x) k l) calls)) q
    (subst (λ (x : ℕ). IfOk r (IsAdmissionOf (is_admitted (schema_of n) (schema_of m) x l) calls)) s
    (subst (λ (x : ℕ). IfOk r (IsAdmissionOf (is_admitted (schema_of n) (schema_of m) i x) calls)) t h)))

-- with renamed fields too
pub same_admission_with : (rs : List Renaming) (r : Result Admission Error) (calls : List Call) (n m a b : List Node) (i j k l : ℕ) → n ≡ a → m ≡ b → i ≡ k → j ≡ l → IfOk r (IsAdmissionOf (is_admitted_with rs (schema_of n) (schema_of m) i j) calls) → IfOk r (IsAdmissionOf (is_admitted_with rs (schema_of a) (schema_of b) k l) calls)
same_admission_with rs r calls n m a b i j k l p q s t h =
    subst (λ (x : List Node). IfOk r (IsAdmissionOf (is_admitted_with rs (schema_of x) (schema_of b) k l) calls)) p
    (subst (λ (x : List Node). IfOk r (IsAdmissionOf (is_admitted_with rs (schema_of n) (schema_of x) k l) calls)) q
    (subst (λ (x : ℕ). IfOk r (IsAdmissionOf (is_admitted_with rs (schema_of n) (schema_of m) x l) calls)) s
    (subst (λ (x : ℕ). IfOk r (IsAdmissionOf (is_admitted_with rs (schema_of n) (schema_of m) i x) calls)) t h)))
