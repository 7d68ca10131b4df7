use Rattle.std.proofs.Common.{◌≡◌, ◌/◌, ℕ, length, ap, arith, rules}
use Rattle.std.proofs.lemmas.Result.{err_from_is_err_and, IfOk-weaker, IfErr-weaker}
use Rattle.capnp_stream_packed.specs.Runs.{run_view, NeedsBytes}
use Rattle.capnp_stream_packed.proofs.ReadLemmas.{failed-look, empty-read, empty-refused, refused-count}
use Rattle.capnp_stream_packed.proofs.unpacking.next_words.Goals as goal

pub returns-in_err-step-clause-refused : goal.returns-in_err-step-clause-refused
returns-in_err-step-clause-refused g c =
    let p = err_from_is_err_and c.from_residual.result c.from_residual.ensures.1 in
    let needs : NeedsBytes c.args.run = search rules in
    rw (p.1, p.2) (failed-look (length c.args.buf.now / 8) c.args.run _ _ _ needs (omega (arith, c.requires.whole, c.requires.some)) c.in_err-step.ensures.kept c.in_err-step.ensures.refusal)

pub returns-clause-words : goal.returns-clause-words
returns-clause-words g c =
    let before = c.in_ok-step.ensures.words in
    let nothing : c.in_ok-step.step.filled ≡ 0 = omega (arith, c.if-step-gt0.false) in
    IfOk-weaker c.one_word.result _ _ (λ s h. (empty-read c.args.run _ _ c.shown_words.new.buf c.in_ok-step.step nothing before _ c.one_word.new.buf s c.one_word.auto.buf h.0, omega (arith, h.1))) c.one_word.ensures.word

pub returns-clause-refused : goal.returns-clause-refused
returns-clause-refused g c =
    let before = c.in_ok-step.ensures.words in
    let nothing : c.in_ok-step.step.filled ≡ 0 = omega (arith, c.if-step-gt0.false) in
    let same : length c.shown_words.new.buf / 8 ≡ length c.args.buf.now / 8 = ap (λ (n : ℕ). n / 8) c.shown_words.auto.buf in
    IfErr-weaker c.one_word.result _ _ (λ e h. refused-count _ _ (run_view c.args.run) _ _ e.kind same (empty-refused c.args.run _ _ c.shown_words.new.buf c.in_ok-step.step nothing before _ e.kind h)) c.one_word.ensures.refused
