use Rattle.std.proofs.lemmas.Result.{err_from_is_err_and}
use Rattle.capnp_stream.proofs.ReadLemmas.{tries-filling-failed, tries-filling-none, tries-filling-refused, tries-filling-read, at-end}
use Rattle.capnp_stream.proofs.lent.try_read_message_no_alloc_in.Goals as goal

pub returns-in_err-is_at_end : goal.returns-in_err-is_at_end
returns-in_err-is_at_end g c =
    let p = err_from_is_err_and c.from_residual.result c.from_residual.ensures.1 in
    let r = c.in_err-is_at_end.ensures in
    rw (p.1, p.2) (tries-filling-failed g.F.MessageForm.reader g.met.F.MessageForm.fronts g.F.MessageForm.faults c.args.limit _ _ _ _ _ _ r.kept r.refusal r.count)

pub returns-then-branch : goal.returns-then-branch
returns-then-branch g c =
    let look = c.in_ok-is_at_end.ensures in
    tries-filling-none g.F.MessageForm.reader g.F.MessageForm.faults c.args.limit _ _ _ _ (at-end _ _ look.at c.if-branch.true) look.kept look.count _

pub returns-in_err-info : goal.returns-in_err-info
returns-in_err-info g c =
    let p = err_from_is_err_and c.from_residual-in_err-info.result c.from_residual-in_err-info.ensures.1 in
    let look = c.in_ok-is_at_end.ensures in
    let r = c.in_err-info.ensures in
    rw (p.1, p.2) (tries-filling-refused g.F.MessageForm.reader g.F.MessageForm.faults c.args.limit _ _ _ _ _ _ _ look.kept look.count _ look.at c.if-branch.false _ r.refused r.short r.kind r.part r.room r.failures)

pub returns : goal.returns
returns g c =
    let look = c.in_ok-is_at_end.ensures in
    let r = c.in_ok-info.ensures in
    tries-filling-read g.F.MessageForm.reader g.F.MessageForm.faults c.args.limit _ _ _ _ _ _ _ look.kept look.count _ look.at c.if-branch.false c.from_segment_table_info.result _ c.from_segment_table_info.ensures r.message.taken r.failures
