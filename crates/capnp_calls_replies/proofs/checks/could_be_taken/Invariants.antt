-- the rest of the path leads on from where its front leads
use Rattle.std.proofs.Common.{◌≡◌, drop}
use Rattle.std.specs.Prelude.{map}
use Rattle.capnp_model.specs.Schemas.{struct}
use Rattle.capnp_model.specs.InKindCalls.{at_value, end_of}
use Rattle.capnp_values_queries.specs.Structs.{nodes_around, schema_around, id_of}
use Rattle.capnp_calls.specs.CallViews.{step_view}
use Rattle.capnp_calls_replies.specs.Checks.{end_view, IsEndOf}
use Rattle.capnp_calls_replies.proofs.checks.could_be_taken.Given as goal

abbrev pub invariant-loop-step : goal.invariant-loop-step
invariant-loop-step l = record {
  ends : end_of (schema_around l.root) (map step_view (drop l.step-index l.path)) (end_view l.end) ≡ end_of (schema_around l.root) (map step_view l.path) (at_value (struct (id_of l.root)));
  known : IsEndOf (nodes_around l.root) l.end;
}
