use Rattle.std.proofs.Common.{ap, ◌∙◌}
use Rattle.std.specs.Prelude.{option_map}
use Rattle.capnp_calls.specs.CallViews.{step_view}
use Rattle.hagzimot_commands.specs.Strict.{is_found_index}
use Rattle.hagzimot_commands.proofs.Lasts.{last_viewed}
use Rattle.hagzimot_commands.proofs.strict.ends_at_element.Goals as goal

pub returns-in-Some : goal.returns-in-Some
returns-in-Some c = c.is_element.ensures ∙ ap (λ o. is_found_index (option_map step_view o)) c.in-Some.ensures.value ∙ last_viewed c.args.path.now

pub returns-in-None : goal.returns-in-None
returns-in-None c = ap (λ o. is_found_index (option_map step_view o)) c.in-None.ensures.value ∙ last_viewed c.args.path.now
