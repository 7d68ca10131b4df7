use Rattle.std.proofs.Common.{◌++◌, codes, decimal, ap, ◌∙◌, append_assoc}
use Rattle.capnp_model.specs.Runs.{answer_words}
use Rattle.capnp_relay_loop.specs.MessageAnswers.{answer_view}
use Rattle.capnp_relay_loop.proofs.logging.log_line.Goals as goal

pub returns-clause-line : goal.returns-clause-line
returns-clause-line c = λ words.
    let d = decimal c.args.number in
    let w = answer_words (answer_view words c.args.answer.now) in
    let front = c.in_ok-extend_from_slice.ensures.items ∙ ap (λ l. l ++ codes "message ") c.clear.ensures.items in
    let number = c.in_ok-push_number.ensures ∙ ap (λ l. l ++ d) front in
    let space = c.in_ok-push.ensures.items ∙ ap (λ l. l ++ codes " ") number in
    let says = c.in_ok-push_answer.ensures words ∙ ap (λ l. l ++ w) space in
    c.in_ok-push-2.ensures.items ∙ ap (λ l. l ++ codes "\n") says
    ∙ ap (λ l. codes "message " ++ l) (append_assoc (d ++ codes " ") w (codes "\n") ∙ append_assoc d (codes " ") (w ++ codes "\n"))
