-- What is put where the call's path ends, and the hops to it.
use Rattle.std.proofs.Common.{List, subst}
use Rattle.std.specs.Prelude.{IfSome}
use Rattle.capnp_model.specs.Calls.{Step, Verb}
use Rattle.capnp_calls.specs.CallViews.{call_view}
use Rattle.capnp_calls.specs.Ends.{end_view}
use Rattle.capnp_calls.specs.Hops.{SetsEnd, TellsCourse}
use Rattle.capnp_calls.proofs.StraightPaths.{call_splice}
use Rattle.capnp_calls.proofs.resolved.Resolved.new.Goals as goal

pub returns-clause-splice : goal.returns-clause-splice
returns-clause-splice c =
    let root = c.args.root in
    let call = call_view c.args.call.now in
    let w = c.in_ok-fields.field-0 in
    let at = end_view w.end in
    let found = c.in_ok-splice.splice in
    let told : TellsCourse root w.hops.items call.path at w.course = subst (λ (path : List Step). TellsCourse root w.hops.items path at w.course) c.path.ensures c.in_ok-fields.ensures.course in
    let puts : IfSome found (λ p. SetsEnd p.put w.course at call.verb) = subst (λ (verb : Verb). IfSome found (λ p. SetsEnd p.put w.course at verb)) c.action-2.ensures.action c.in_ok-splice.ensures.put in
    call_splice root call w.hops.items at w.course told.straight told.member told.element found c.in_ok-splice.ensures.hops puts
