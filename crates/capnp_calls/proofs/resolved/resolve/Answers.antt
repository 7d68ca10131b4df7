-- One call more.
use Rattle.std.proofs.Common.{◌≡◌, ◌+◌, List, [], ◌∷◌, ◌++◌, map, take, ap, sym, subst, ◌∙◌}
use Rattle.std.proofs.lemmas.List.{take_more, map-append}
use Rattle.capnp_calls.specs.declared.call.Call.{Call}
use Rattle.capnp_calls.specs.declared.resolved.Resolved.{Resolved}
use Rattle.capnp_calls.specs.CallViews.{call_view}
use Rattle.capnp_calls.specs.Resolved.{call_of, calls_of, AreResolved, KnowSplices}
use Rattle.capnp_calls.proofs.lemmas.ResolvedCalls.{one_more, one_known}
use Rattle.capnp_calls.proofs.resolved.resolve.Goals as goal

pub loop-call-preserved : goal.loop-call-preserved
loop-call-preserved c =
    let root = c.args.root in
    let calls = c.args.calls.now in
    let i = c.loop-call.call-index in
    let call : Call = c.call-item.result in
    let old = c.loop-call.found.items in
    let r : Resolved = c.in_ok-new.field-0 in
    let more : map call_view (take (i + 1) calls) ≡ map call_view (take i calls) ++ call_view call ∷ [] =
    ap (map call_view) (take_more calls i call c.loop-call-test.true) ∙ map-append call_view (take i calls) _ ∙ ap (λ (x : Call). map call_view (take i calls) ++ call_view x ∷ []) (sym c.call-item.is) in
    record {
      splices = subst (KnowSplices root) (sym {A = List Resolved} c.in_ok-push.ensures.items) (one_known root old r c.loop-call.invariant.splices c.in_ok-new.ensures.splice);
      each = subst (AreResolved root) (sym {A = List Resolved} c.in_ok-push.ensures.items) (one_more root old r c.loop-call.invariant.each c.in_ok-new.ensures.resolved);
      calls = ap calls_of c.in_ok-push.ensures.items ∙ map-append call_of old (r ∷ []) ∙ ap (λ cs. cs ++ call_of r ∷ []) c.loop-call.invariant.calls ∙ ap (λ x. map call_view (take i calls) ++ x ∷ []) c.in_ok-new.ensures.call ∙ sym more;
    }
