use Rattle.std.proofs.Common.{◌≡◌, ℕ, ◌+◌, suc, ◌++◌, codes, ap, sym, ◌∙◌, append_assoc, arith}
use Rattle.hagzimot_outcomes.specs.Lines.{done_text}
use Rattle.hagzimot_outcomes.proofs.DoneTexts.{one_done_text}
use Rattle.hagzimot_outcomes.proofs.log_lines.push_done.Goals as goal

pub loop-call-preserved : goal.loop-call-preserved
loop-call-preserved c =
    let n = c.loop-call._call in
    let start = c.args.line.now.items in
    let number : suc n ≡ n + 1 = omega arith in
    c.in_ok-extend_from_slice.ensures.items
    ∙ ap (λ l. l ++ codes "; done") c.loop-call.invariant
    ∙ append_assoc start (done_text n) (codes "; done")
    ∙ ap (λ l. start ++ l) (sym (one_done_text n))
    ∙ ap (λ (k : ℕ). start ++ done_text k) number
