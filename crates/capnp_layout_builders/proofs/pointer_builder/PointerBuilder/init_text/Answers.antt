use Rattle.std.proofs.Common.{refl}
use Rattle.std.proofs.lemmas.Result.{err_from_is_err_and}
use Rattle.capnp_layout_builders.proofs.pointer_builder.PointerBuilder.init_text.Goals as goal

pub returns-in_err-start : goal.returns-in_err-start
returns-in_err-start g c =
    let p = err_from_is_err_and c.from_residual.result c.from_residual.ensures.1 in
    let e = c.in_err-start.ensures in
    rw (p.1, p.2) ((refl, (λ w. tt), e.refused.1), record { same = tt; made = tt; kind = e.refused.0; cause = e.cause; refused = tt })
