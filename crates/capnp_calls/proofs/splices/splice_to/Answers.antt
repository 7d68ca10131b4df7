-- What was put where the path ends.
use Rattle.std.proofs.Common.{Option, sym, subst}
use Rattle.std.specs.Prelude.{IfSome}
use Rattle.capnp_model.specs.Calls.{set_to}
use Rattle.capnp_calls.specs.CallViews.{slot_value_view, action_view}
use Rattle.capnp_calls.specs.Ends.{end_view}
use Rattle.capnp_calls.specs.Hops.{SetsEnd}
use Rattle.capnp_calls.specs.declared.call.Action.{Action}
use Rattle.capnp_calls_splice.specs.declared.splice.Put.{Put}
use Rattle.capnp_calls.proofs.splices.splice_to.Goals as goal

pub returns-in-Some-clause-put : goal.returns-in-Some-clause-put
returns-in-Some-clause-put c =
    let put = c.in-Some.put in
    let course = c.args.course in
    let at = end_view c.args.end in
    let value = slot_value_view c.in-Set.value in
    let found : SetsEnd put course at (set_to value) = subst (λ (o : Option Put). IfSome o (λ p. SetsEnd p course at (set_to value))) c.in-Some.is c.in_ok-put.ensures.put in
    subst (λ (a : Action). SetsEnd put course at (action_view a)) (sym c.in-Set.is) found
