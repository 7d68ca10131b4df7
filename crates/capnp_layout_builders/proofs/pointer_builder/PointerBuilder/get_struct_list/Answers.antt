use Rattle.std.proofs.Common.{refl}
use Rattle.std.proofs.lemmas.Result.{err_from_is_err_and}
use Rattle.capnp_layout_builders.proofs.pointer_builder.PointerBuilder.get_struct_list.Goals as goal

pub returns-in_err-place : goal.returns-in_err-place
returns-in_err-place g c =
    let p = err_from_is_err_and c.from_residual.result c.from_residual.ensures.1 in
    let e = c.in_err-place.ensures in
    rw (p.1, p.2) ((refl, (λ w. tt), record { got = tt; refused = e.refused; taken = tt; lacking = e.lacking; books = e.books }), record { same = tt; got = tt; refused = tt })
