use Rattle.std.proofs.Common.{◌++◌, codes, decimal, ap, append_assoc, ◌∙◌}
use Rattle.hagzimot_outcomes.specs.Counts.{total_from, kinds_text}
use Rattle.hagzimot_outcomes.proofs.refused_calls.RefusedCalls.text.Goals as goal

pub returns : goal.returns
returns c =
    let r = c.args.self.now in
    let n = c.total.result in
    let kinds = kinds_text c.deref.result.now in
    let word = codes " calls refused" in
    c.in_ok-push_kinds.ensures
    ∙ ap (λ l. l ++ kinds) (c.in_ok-push_str.ensures.bytes ∙ ap (λ l. l ++ word) (c.in_ok-push_number.ensures ∙ ap (λ l. l ++ decimal n) c.new-text.ensures.bytes))
    ∙ append_assoc (decimal n) word kinds
    ∙ ap (λ k. decimal k ++ (word ++ kinds)) c.total.ensures
    ∙ ap (λ ks. decimal (total_from r.others r.kinds.items) ++ (word ++ kinds_text ks)) c.deref.ensures.value
