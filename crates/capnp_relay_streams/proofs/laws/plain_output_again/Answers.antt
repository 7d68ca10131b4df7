use Rattle.std.proofs.Common.{◌≡◌, Some, map, inl, inr, refl, sym, subst}
use Rattle.std.specs.Prelude.{Bool, false}
use Rattle.capnp_model.specs.SameRuns.{IsFormReader}
use Rattle.capnp_calls.specs.CallViews.{call_view}
use Rattle.capnp_relay_streams.specs.Options.{reader_of, writer_of}
use Rattle.capnp_relay_streams.proofs.Again.{AgainLaws, runs_again, form_of, back_of}
use Rattle.capnp_relay_streams.proofs.laws.plain_output_again.Goals as goal

pub returns : goal.returns
returns c root calls first again bytes plain canonical others log lines said end last reads =
    let laws : AgainLaws = record { meant = c.values_as_a_relation.ensures.meant; one = c.values_as_a_relation.ensures.one; fits = c.values_that_are_read.ensures.fits; trim_fits = c.trimmed_values.ensures.fits; twice = c.trimmed_values.ensures.again } in
    rw (reads.canonical, reads.canonical_again, reads.input, reads.output) (λ x y can z all.
    runs_again laws root (map call_view calls) first.bounds again.bounds (reader_of first.input) (reader_of first.output) (writer_of first.output) (Some first.bounds.words) (Some again.bounds.words) bytes plain canonical others log lines said end last
    (form_of first.input) (form_of first.output) (back_of first.output) x y can z all)
