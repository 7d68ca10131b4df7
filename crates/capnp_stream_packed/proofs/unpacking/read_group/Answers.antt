use Rattle.std.proofs.lemmas.Result.{err_from_is_err_and}
use Rattle.capnp_stream_packed.proofs.GroupLemmas.{tag-refused, word-refused, run-refused, group-leads}
use Rattle.capnp_stream_packed.proofs.unpacking.read_group.Goals as goal

pub returns-in_err-tag-clause-refused : goal.returns-in_err-tag-clause-refused
returns-in_err-tag-clause-refused g c =
    let p = err_from_is_err_and c.from_residual.result c.from_residual.ensures.1 in
    rw (p.1, p.2) (tag-refused c.args.left c.args.run c.requires _ _ _ (rw (← c.end_kind.ensures) c.in_err-tag.ensures.refused))

pub returns-in_err-word-clause-refused : goal.returns-in_err-word-clause-refused
returns-in_err-word-clause-refused g c =
    let r = c.from_residual-in_err-word in
    let p = err_from_is_err_and r.result r.ensures.1 in
    rw (p.1, p.2) (word-refused c.args.left c.args.run c.requires _ _ c.in_ok-tag.tag (rw (← c.end_kind.ensures) c.in_ok-tag.ensures.byte) _ _ c.in_err-word.ensures.refused)

pub returns-in_err-run-clause-refused : goal.returns-in_err-run-clause-refused
returns-in_err-run-clause-refused g c =
    let r = c.from_residual-in_err-run in
    let p = err_from_is_err_and r.result r.ensures.1 in
    rw (p.1, p.2) (run-refused c.args.left c.args.run c.requires _ _ c.in_ok-tag.tag (rw (← c.end_kind.ensures) c.in_ok-tag.ensures.byte) _ c.in_ok-word.word c.in_ok-word.ensures.word _ _ c.in_err-run.ensures.refused)

pub returns-clause-word : goal.returns-clause-word
returns-clause-word g c =
    group-leads c.args.left c.args.run c.requires _ _ c.in_ok-tag.tag (rw (← c.end_kind.ensures) c.in_ok-tag.ensures.byte) _ c.in_ok-word.word c.in_ok-word.ensures.word _ _ c.in_ok-run.ensures.run
