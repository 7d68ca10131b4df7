-- The refusals of requests whose generic types can't be bound.
use Rattle.std.specs.Prelude.{◌≡◌, ◌⊎◌}
use Rattle.capnp_relay_requests.specs.declared.fault.Part.TheVariants.{Float}
use Rattle.capnp_relay_requests.specs.declared.fault.RequestFault.{RequestFault}
use Rattle.capnp_relay_requests.specs.declared.fault.RequestFault.TheVariants.{Unread, Bindings, Memory}
use Rattle.capnp_relay_requests.specs.declared.fault.Spot.{Spot}

-- Memory is wanting, or types are bound in too many ways, or to a float where floats are refused.
abbrev pub IsBindingRefusal : RequestFault → Type 0
IsBindingRefusal e = (e ≡ Memory) ⊎ (e ≡ Bindings) ⊎ ((spot : Spot) × (e ≡ Unread spot Float))
