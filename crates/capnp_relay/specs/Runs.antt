-- Why calls in turn end early.
use Rattle.std.specs.Prelude.{◌≡◌, ◌⊎◌, List}
use Rattle.capnp_model.specs.Segments.{Segments}
use Rattle.capnp_model.specs.Calls.{Call}
use Rattle.capnp_units.specs.declared.errors.Error.{Error}
use Rattle.capnp_units.specs.declared.kinds.ErrorKind.TheVariants.{SizeOverflow}
use Rattle.capnp_schema_structs.specs.declared.init.Part.{Part}
use Rattle.capnp_calls_run.specs.declared.fault.RunFault.TheVariants.{Size, Refused}
use Rattle.capnp_calls_run.specs.Runs.{StopsAt, EndsLongAt}

-- A call puts a list that is too long, and the calls before it are written.
pub record StopsLongAt (told : Error → Type 0) (s u : Segments) (x : Part) (calls : List Call) (e : Error) : Type 0 where
  pub kind : e.kind ≡ SizeOverflow
  pub stops : StopsAt told s u x calls Size
  pub long : EndsLongAt s x.place x.schema calls

-- The calls stop at a refusal, of which `told` says why, or at a list that is too long.
abbrev pub CallsStopAt : (Error → Type 0) → Segments → Segments → Part → List Call → Error → Type 0
CallsStopAt told s u x calls e = StopsAt told s u x calls (Refused e) ⊎ StopsLongAt told s u x calls e
