-- Steps one after the other, the first of which that is refused is the fault.
use Rattle.std.specs.Prelude.{◌≡◌, Result, Ok, Err, ◌⊎◌}
use Rattle.capnp_relay_loop.specs.declared.ends.Fault.TheVariants.{Memory}
use Rattle.capnp_relay_program.specs.declared.stop.Stop.{Stop}
use Rattle.capnp_relay_program.specs.declared.stop.Stop.TheVariants as stop

infixl 10 ◌then_or_stop◌
-- The second step at what the first gives, or the first one's fault.
abbrev pub ◌then_or_stop◌ : {A B : Type 0} → Result A Stop → (A → Result B Stop) → Result B Stop
(Ok x) then_or_stop f = f x
(Err e) then_or_stop f = Err e

-- A refusal is what was said, or memory was wanting, where it may be.
abbrev pub IsStopRefusal : {A : Type 0} → Type 0 → Result A Stop → Stop → Type 0
IsStopRefusal may_want said e = (said ≡ Err e) ⊎ ((e ≡ stop.Relay Memory) × may_want)
