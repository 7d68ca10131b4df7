-- Calls that put no capability into a value.
use Rattle.std.specs.Prelude.{◌≡◌, false}
use Rattle.capnp_model.specs.Trees.{has_capability}
use Rattle.capnp_model.specs.Calls.{Verb, set_to, message}

-- A verb that sets no value with a capability: of what a call sets, only a message can have one.
abbrev pub SetsNoCapability : Verb → Type 0
SetsNoCapability (set_to (message t)) = has_capability t ≡ false
SetsNoCapability _ = Unit {0}
