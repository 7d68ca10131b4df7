-- Untyped pointers as they are handed on.
use Rattle.std.specs.Prelude.{List, ℕ, ◌≡◌, Result, Ok}
use Rattle.capnp_units.specs.declared.errors.Error.{Error}
use Rattle.capnp_units.specs.declared.limiter.ReadLimiter.{ReadLimiter}
use Rattle.capnp_wire_objects.specs.Places.{seen}
use Rattle.capnp_wire.specs.Views.{PointerView}
use Rattle.capnp_values.specs.declared.any_pointer.Reader.{Reader}
use Rattle.capnp_values.specs.Sources.{pointer_seen}

-- The pointer is handed on, and nothing is taken of the budget.
abbrev pub IsUntyped : {A : Type 0} → (A → List (List ℕ)) → PointerView → ReadLimiter → Result (Reader A) Error → ReadLimiter → Type 0
IsUntyped bytes p old result new = (seen (λ q. pointer_seen bytes q.source) result ≡ Ok p) × (new ≡ old)
