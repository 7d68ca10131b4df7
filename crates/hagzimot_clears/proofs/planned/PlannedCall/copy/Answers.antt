use Rattle.std.proofs.Common.{◌≡◌, map, ap, sym, ◌∙◌}
use Rattle.capnp_calls.specs.CallViews.{step_view}
use Rattle.hagzimot_clears.specs.Planned.{call_made}
use Rattle.hagzimot_clears.proofs.SameCalls.{same_call}
use Rattle.hagzimot_clears.proofs.planned.PlannedCall.copy.Goals as goal

pub returns-in-Ok : goal.returns-in-Ok
returns-in-Ok c =
    let path = c.in_ok-path.ensures ∙ ap (map step_view) c.deref.ensures.value in
    sym (ap call_made (same_call _ _ c.args.self.now.verb _ _ (sym path) (sym c.in_ok-value.ensures) ∙ c.in-Ok.ensures.call))
