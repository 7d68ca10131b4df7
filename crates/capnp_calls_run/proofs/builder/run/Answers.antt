use Rattle.std.proofs.Common.{◌≡◌, ap, sym, ◌∙◌}
use Rattle.std.proofs.lemmas.Result.{err_from_is_err_and}
use Rattle.std.specs.Prelude.{map}
use Rattle.capnp_units.specs.Segments.{words_in}
use Rattle.capnp_calls.specs.CallViews.{call_view}
use Rattle.capnp_calls.specs.Resolved.{calls_of}
use Rattle.capnp_copy_arenas.specs.Refusals.{IsSizeOrRefusal}
use Rattle.capnp_calls_run.proofs.Stopped.{stops_first}
use Rattle.capnp_calls_run.proofs.builder.run.Goals as goal

pub returns-in_err-resolved-clause-stops : goal.returns-in_err-resolved-clause-stops
returns-in_err-resolved-clause-stops g c =
    let old = c.args.root.now in
    let r = err_from_is_err_and c.from_residual.result c.from_residual.ensures.1 in
    rw (r.1, r.2) (stops_first (IsSizeOrRefusal g.A.BuilderArena.refuses) (words_in (g.A.ReaderArena.segments old.memory.now.arena)) old.place old.schema (map call_view c.args.calls.now) _ c.in_err-resolved.ensures.kind)

pub returns-clause-all : goal.returns-clause-all
returns-clause-all g c =
    let same : calls_of c.deref.result.now ≡ map call_view c.args.calls.now = ap calls_of c.deref.ensures.value ∙ c.in_ok-resolved.ensures.calls in
    rw (sym same) c.run_at.ensures.all
