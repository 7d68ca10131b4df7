use Rattle.std.proofs.Common.{◌≡◌, Ok, map, ap, sym, ◌∙◌}
use Rattle.capnp_calls.specs.CallViews.{step_view}
use Rattle.hagzimot_clears.specs.Planned.{call_made}
use Rattle.hagzimot_clears.proofs.SameCalls.{same_call}
use Rattle.hagzimot_clears.proofs.planned.PlannedCall.new.Goals as goal

pub returns-clause-call : goal.returns-clause-call
returns-clause-call c =
    let path = c.in-Ok-Ok.ensures ∙ ap (map step_view) c.deref.ensures.value in
    let made = same_call _ _ c.args.verb _ _ (sym path) (sym c.in-Ok-Ok.ensures') ∙ c.in_ok-_call.ensures.call in
    made ∙ sym (ap (λ r. Ok (call_made r)) made)
