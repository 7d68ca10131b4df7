use Rattle.std.proofs.Common.{◌≡◌, true, [], drop}
use Rattle.std.specs.Prelude.{map, IfSome}
use Rattle.capnp_model.specs.Schemas.{struct}
use Rattle.capnp_model.specs.InKindCalls.{at_value, end_of}
use Rattle.capnp_values_queries.specs.Structs.{nodes_around, schema_around, id_of}
use Rattle.capnp_calls.specs.CallViews.{step_view}
use Rattle.capnp_calls.specs.Ends.{end_view, IsEndOf}
use Rattle.capnp_calls.specs.Hops.{EndsSmall, LeadsToMember, LeadsToElement}
use Rattle.capnp_calls.proofs.StraightPaths.{StraightTo}
use Rattle.capnp_calls.proofs.lemmas.EachWay.{GrowsTo}
use Rattle.capnp_calls.proofs.resolved.walk_path.Given as goal

abbrev pub invariant-loop-step : goal.invariant-loop-step
invariant-loop-step l = record {
  ends : end_of (schema_around l.root) (map step_view (drop l.step-index l.path)) (end_view l.end) ≡ end_of (schema_around l.root) (map step_view l.path) (at_value (struct (id_of l.root)));
  known : IsEndOf (nodes_around l.root) l.end;
  small : EndsSmall (end_view l.end);
  straight : l.course.is_straight ≡ true → StraightTo l.root (map step_view l.path) l.hops.items (end_view l.end) (map step_view (drop l.step-index l.path));
  member : IfSome l.course.mark (λ m. map step_view (drop l.step-index l.path) ≡ [] → LeadsToMember l.root l.hops.items (map step_view l.path) (end_view l.end) m);
  element : IfSome l.course.element (λ place. map step_view (drop l.step-index l.path) ≡ [] → LeadsToElement l.root l.hops.items (map step_view l.path) (end_view l.end) place);
  grows : GrowsTo (schema_around l.root) (map step_view l.path) l.fields.items (map step_view (drop l.step-index l.path)) (end_view l.end);
}
