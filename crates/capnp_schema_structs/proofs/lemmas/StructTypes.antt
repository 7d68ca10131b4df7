-- The struct that a type names.
use Rattle.std.proofs.Common.{◌≡◌, ℕ, Some}
use Rattle.capnp_model.specs.Schemas.{Ty, void, plain, text, blob, untyped, interface, struct, list}
use Rattle.capnp_schema_structs.specs.Inits.{struct_named}

pub type_is : (ty : Ty) (id : ℕ) → struct_named ty ≡ Some id → ty ≡ struct id
type_is void id e = absurd (cc e)
type_is (plain p) id e = absurd (cc e)
type_is text id e = absurd (cc e)
type_is blob id e = absurd (cc e)
type_is untyped id e = absurd (cc e)
type_is interface id e = absurd (cc e)
type_is (struct j) id e = cc e
type_is (list ty) id e = absurd (cc e)
