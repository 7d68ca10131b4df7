use Rattle.std.proofs.Common.{◌≡◌, length, map}
use Rattle.capnp_calls.specs.CallViews.{step_view}
use Rattle.hagzimot_commands.specs.Paths.{struct_landing, walked, Misses}
use Rattle.hagzimot_commands.specs.declared.paths.Misstep.{Misstep}
use Rattle.hagzimot_commands.proofs.paths.landing_from.Given as goal

abbrev pub invariant-loop-step : goal.invariant-loop-step
invariant-loop-step l = record {
  leads : walked l.nodes l.at (map step_view l.left) ≡ walked l.fn.nodes (struct_landing l.fn.root) (map step_view l.fn.path);
  misses : (e : Misstep) → Misses l.nodes l.at (map step_view l.left) e → Misses l.fn.nodes (struct_landing l.fn.root) (map step_view l.fn.path) e;
}

abbrev pub decreases-loop-step : goal.decreases-loop-step
decreases-loop-step l = length l.left
