use Rattle.std.proofs.Common.{rules}
use Rattle.std.proofs.lemmas.Result.{err_from_is_err_and}
use Rattle.capnp_layout_builders.proofs.blobs.init_bytes.Goals as goal

pub returns-in_err-list : goal.returns-in_err-list
returns-in_err-list g c =
    let p = err_from_is_err_and c.from_residual.result c.from_residual.ensures.1 in
    let e = c.in_err-list.ensures in
    rw (p.1, p.2) (record { made = tt; refused = ((e.kind, e.full), (e.refused, e.books)); cause = e.cause })

pub returns-clause-made : goal.returns-clause-made
returns-clause-made g c =
    let e = c.in_ok-list.ensures in
    (record { becomes = e.value; taken = e.taken; bound = e.bound; books = e.books }, search rules, search rules)
