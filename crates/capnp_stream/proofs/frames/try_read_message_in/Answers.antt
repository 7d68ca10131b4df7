use Rattle.std.proofs.Common.{ℕ, subst}
use Rattle.std.proofs.lemmas.Result.{err_from_is_err_and}
use Rattle.capnp_stream_io.specs.Counting.{KindCounts}
use Rattle.capnp_stream.proofs.ReadLemmas.{tries-failed, tries-refused, tries-read}
use Rattle.capnp_stream.proofs.frames.try_read_message_in.Goals as goal

pub returns-in_err-is_at_end : goal.returns-in_err-is_at_end
returns-in_err-is_at_end g c =
    let p = err_from_is_err_and c.from_residual.result c.from_residual.ensures.1 in
    rw (p.1, p.2) (tries-failed g.F.MessageForm.reader g.met.F.MessageForm.fronts g.F.MessageForm.faults c.args.limit _ _ _ _ _ c.in_err-is_at_end.ensures.refusal c.in_err-is_at_end.ensures.kept c.in_err-is_at_end.ensures.count)

pub returns-in_err-segments : goal.returns-in_err-segments
returns-in_err-segments g c =
    let p = err_from_is_err_and c.from_residual-in_err-segments.result c.from_residual-in_err-segments.ensures.1 in
    let r = c.in_err-segments.ensures in
    let Of : ℕ → Type 0 = λ m. KindCounts c.in_err-segments.field-0.0.kind m (g.R.Read.failures c.read_segments.new.source) in
    rw (p.1, p.2) (tries-refused g.F.MessageForm.reader g.met.F.MessageForm.fronts g.F.MessageForm.faults c.args.limit _ _ _ _ _ _ _ c.in_ok-is_at_end.ensures.at c.if-branch.false c.in_ok-is_at_end.ensures.kept
    r.refused r.kind r.part r.wanted (subst Of c.in_ok-is_at_end.ensures.count r.count))

pub returns : goal.returns
returns g c =
    let look = c.in_ok-is_at_end.ensures in
    let r = c.read_segments.ensures in
    tries-read g.F.MessageForm.reader g.F.MessageForm.faults c.args.limit _ _ _ look.kept _ _ _ look.count c.read_segments.result r.message r.kept r.joined r.writable r.count _ (cc)
