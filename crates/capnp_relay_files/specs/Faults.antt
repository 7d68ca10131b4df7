-- What the refusal of a file says.
use Rattle.std.specs.Prelude.{◌≡◌, Option, None, ⊤}
use Rattle.capnp_relay_files.specs.declared.fault.FileFault.{FileFault}
use Rattle.capnp_relay_files.specs.declared.fault.FileFault.TheVariants.{Form, Memory}

-- Nothing is read there, or memory was wanting.
abbrev pub IsFileRefusal : {X : Type 0} → Option X → FileFault → Type 0
IsFileRefusal o Form = o ≡ None
IsFileRefusal o Memory = ⊤
