use Rattle.std.proofs.Common.{refl}
use Rattle.std.proofs.lemmas.Result.{err_from_is_err_and}
use Rattle.capnp_model.specs.Packing.{zeros, verbatim}
use Rattle.capnp_stream_packed.proofs.PartLemmas.{run-refused}
use Rattle.capnp_stream_packed.proofs.unpacking.read_run.Goals as goal

pub returns-in_err-read_count-in-0-clause-refused : goal.returns-in_err-read_count-in-0-clause-refused
returns-in_err-read_count-in-0-clause-refused g c =
    let p = err_from_is_err_and c.from_residual.result c.from_residual.ensures.1 in
    rw (p.1, p.2, c.in-0.is) (run-refused c.args.left 0 zeros _ _ _ (λ bytes. refl) c.in_err-read_count-in-0.ensures.refused)

pub returns-in_err-read_count-in-255-clause-refused : goal.returns-in_err-read_count-in-255-clause-refused
returns-in_err-read_count-in-255-clause-refused g c =
    let r = c.from_residual-in_err-read_count-in-255 in
    let p = err_from_is_err_and r.result r.ensures.1 in
    rw (p.1, p.2, c.in-255.is) (run-refused c.args.left 255 verbatim _ _ _ (λ bytes. refl) c.in_err-read_count-in-255.ensures.refused)
