-- What is begun by a handle, and got by it then.
use Rattle.std.specs.Prelude.{◌≡◌, ⊤, Result, Ok, Err}
use Rattle.capnp_units.specs.declared.errors.Error.{Error}
use Rattle.capnp_schema_values.specs.declared.placed.Placed.{Placed}

-- What was begun is got, by the handle as it is between. What was not leaves the handle so, and its
-- refusal is returned.
abbrev pub GotAfter : {H : Type 0} → (H → Result Placed Error → Type 0) → H → Result Placed Error → H → Result ⊤ Error → Type 0
GotAfter Gets new r between (Ok x) = Gets between r
GotAfter Gets new r between (Err e) = (new ≡ between) × (r ≡ Err e)

-- First something is begun, then it is got.
abbrev pub BeginsAndGets : {H : Type 0} → (H → Result ⊤ Error → Type 0) → (H → Result Placed Error → Type 0) → H → Result Placed Error → Type 0
BeginsAndGets {H = H} Begins Gets new r = (between : H) × (done : Result ⊤ Error) × Begins between done × GotAfter Gets new r between done
