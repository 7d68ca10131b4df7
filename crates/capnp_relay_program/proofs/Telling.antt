-- What is met before a fault is told.
use Rattle.std.proofs.Common.{◌≡◌, refl, Bool, true, false, List, ℕ, Err, Result}
use Rattle.capnp_relay_program.specs.declared.usage.TheConstants.{USAGE}
use Rattle.capnp_relay_program.specs.declared.stop.Stop.{Stop}
use Rattle.capnp_relay_program.specs.declared.stop.Stop.TheVariants as stop
use Rattle.capnp_relay_program.specs.Asked.{Request}
use Rattle.capnp_relay_program.specs.Program.{Seen, RelaysAll, Meets, Told}

pub meets_other : (b : Bool) (r : Request) (out_grows log_grows : Type 0) (old new : Seen) (e : Stop) → b ≡ false
    → RelaysAll r out_grows log_grows old new (Err e) → Meets b r out_grows log_grows old new e
meets_other false r out_grows log_grows old new e h run = run
meets_other true r out_grows log_grows old new e h run = absurd (cc h)

pub meets_help : (b : Bool) (r : Request) (out_grows log_grows : Type 0) (old new : Seen) → b ≡ true → new.streams.source ≡ old.streams.source → new.streams.log ≡ old.streams.log
    → Told out_grows USAGE.now old.streams.out new.streams.out new.out_held → Meets b r out_grows log_grows old new stop.Arguments
meets_help true r out_grows log_grows old new h s l told = (refl, s, l, told)
meets_help false r out_grows log_grows old new h s l told = absurd (cc h)
