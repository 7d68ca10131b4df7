-- The actions that calls may have.
use Rattle.std.specs.Prelude.{◌^◌, nat_lt, Bool, true}
use Rattle.capnp_calls.specs.declared.call.SlotValue.TheVariants as value
use Rattle.capnp_calls.specs.declared.call.Action.{Action}
use Rattle.capnp_calls.specs.declared.call.Action.TheVariants as action

-- A list has fewer than 2^29 elements, an enum's value has 16 bits. (Encoding, "Lists")
abbrev pub is_in_range : Action → Bool
is_in_range (action.Set (value.Enum n)) = nat_lt n (2 ^ 16)
is_in_range (action.Initn n) = nat_lt n (2 ^ 29)
is_in_range _ = true
