-- the texts of the steps so far are behind what was there
use Rattle.std.proofs.Common.{◌≡◌, ◌++◌, take}
use Rattle.std.specs.Prelude.{string_bytes}
use Rattle.std.specs.List.{flat_map}
use Rattle.hagzimot_expressions.specs.Paths.{step_text}
use Rattle.hagzimot_expressions.proofs.paths.push_steps.Given as goal

abbrev pub invariant-loop-step : goal.invariant-loop-step
invariant-loop-step l = string_bytes l.text ≡ string_bytes l.initial.text ++ flat_map step_text (take l.step-index l.path)
