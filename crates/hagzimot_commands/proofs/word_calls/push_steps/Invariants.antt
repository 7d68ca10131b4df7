use Rattle.std.proofs.Common.{◌≡◌, ◌++◌, take}
use Rattle.std.specs.Prelude.{string_bytes}
use Rattle.std.specs.List.{flat_map}
use Rattle.capnp_calls.specs.CallViews.{step_view}
use Rattle.hagzimot_commands.specs.Words.{step_text}
use Rattle.hagzimot_commands.proofs.word_calls.push_steps.Given as goal

abbrev pub invariant-loop-step : goal.invariant-loop-step
invariant-loop-step l = string_bytes l.text ≡ string_bytes l.initial.text ++ flat_map (λ s. step_text (step_view s)) (take l.step-index l.path)
