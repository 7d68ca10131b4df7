use Rattle.std.proofs.Common.{ℕ, List, ◌∙◌, subst}
use Rattle.capnp_relay_show.specs.Answers.{IsShowFault}
use Rattle.hagzimot_show.proofs.show.text_of_segments.Goals as goal

pub returns-in-Ok-clause-fault : goal.returns-in-Ok-clause-fault
returns-in-Ok-clause-fault g c some =
    subst (λ (bytes : List ℕ). IsShowFault c.args.root c.args.options bytes c.in-Err-show.fault) (c.deref.ensures.value ∙ c.in-Ok.ensures.text) c.in-Err-show.ensures.fault
