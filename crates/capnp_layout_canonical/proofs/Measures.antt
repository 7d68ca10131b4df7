-- Canonical copies of values that were measured.
use Rattle.std.specs.Bool.{⊤}
use Rattle.std.proofs.Common.{Result, Ok, Err, inr}
use Rattle.capnp_model.specs.Segments.{Segments, Place}
use Rattle.capnp_units.specs.declared.errors.Error.{Error}
use Rattle.capnp_units.specs.declared.limiter.ReadLimiter.{ReadLimiter}
use Rattle.capnp_wire.specs.Views.{PointerView}
use Rattle.capnp_layout_canonical.specs.Measured.{CopiesMeasured, MeasuresAndCopies}

-- what is measured and copied, or refused then, is one of the two ends
pub then_copied : (v : PointerView) (s u : Segments) (p : Place) (old new : ReadLimiter) (r : Result ⊤ Error) → CopiesMeasured v s u p old r new → MeasuresAndCopies v s u p old r new
then_copied v s u p old new (Ok done) h = h
then_copied v s u p old new (Err e) h = inr h
