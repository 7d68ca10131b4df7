-- the steps so far are copied
use Rattle.std.proofs.Common.{◌≡◌, map, take}
use Rattle.capnp_calls.specs.CallViews.{step_view}
use Rattle.hagzimot_clears.proofs.copies.copy_path.Given as goal

abbrev pub invariant-loop-step : goal.invariant-loop-step
invariant-loop-step l = map step_view l.copy.items ≡ map step_view (take l.step-index l.path)
