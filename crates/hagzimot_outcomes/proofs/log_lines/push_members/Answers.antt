use Rattle.std.proofs.Common.{◌++◌, codes, ap, append_assoc, ◌∙◌}
use Rattle.std.proofs.lemmas.Result.{on_ok_weaker}
use Rattle.hagzimot_outcomes.specs.Lines.{call_array, done_array, cause_members}
use Rattle.hagzimot_outcomes.proofs.log_lines.push_members.Goals as goal

pub returns-in_ok-extend_from_slice-in-Done : goal.returns-in_ok-extend_from_slice-in-Done
returns-in_ok-extend_from_slice-in-Done c =
    let told = done_array c.in-Done.count in
    rw c.in-Done.is (on_ok_weaker c.push_done_array.result
    (λ e. e ∙ ap (λ l. l ++ told) c.in_ok-extend_from_slice-in-Done.ensures.items ∙ append_assoc c.args.line.now.items (codes "\"result\":\"written\",\"replies\":") told)
    c.push_done_array.ensures)

pub returns-in_ok-extend_from_slice-in-Written : goal.returns-in_ok-extend_from_slice-in-Written
returns-in_ok-extend_from_slice-in-Written c =
    let told = call_array c.in-Written.calls.items in
    rw c.in-Written.is (on_ok_weaker c.push_array.result
    (λ e. e ∙ ap (λ l. l ++ told) c.in_ok-extend_from_slice-in-Written.ensures.items ∙ append_assoc c.args.line.now.items (codes "\"result\":\"written\",\"replies\":") told)
    (rw c.deref.ensures.value at c.push_array.ensures))

pub returns-in_ok-extend_from_slice-in-Unedited : goal.returns-in_ok-extend_from_slice-in-Unedited
returns-in_ok-extend_from_slice-in-Unedited c =
    let told = cause_members c.in-Unedited.cause in
    rw c.in-Unedited.is (on_ok_weaker c.push_cause_members.result
    (λ e. e ∙ ap (λ l. l ++ told) c.in_ok-extend_from_slice-in-Unedited.ensures.items ∙ append_assoc c.args.line.now.items (codes "\"result\":\"written\",\"unedited\":") told)
    c.push_cause_members.ensures)
