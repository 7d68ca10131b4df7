-- One call more, or one without a splice.
use Rattle.std.proofs.Common.{◌≡◌, ◌+◌, false, [], ◌∷◌, ◌++◌, length, take, refl, ap, sym, ◌∙◌}
use Rattle.std.specs.Prelude.{is_some, not}
use Rattle.std.proofs.lemmas.List.{take_more}
use Rattle.std.proofs.lemmas.Option.{slice_get_read}
use Rattle.capnp_calls.specs.declared.resolved.Resolved.{Resolved}
use Rattle.capnp_calls_in_place.specs.CallSplices.{have_splices}
use Rattle.capnp_calls_in_place.proofs.CallWays.{tells_some, have_more, lacks_one}
use Rattle.capnp_calls_in_place.proofs.splices.are_spliced.Goals as goal

pub returns-then-is_none : goal.returns-then-is_none
returns-then-is_none c =
    let i = c.loop-call.call-index in
    let calls = c.args.calls.now in
    let call : Resolved = c.call-item.result in
    let none : is_some call.splice ≡ false = tells_some c.call_splice.result call.splice c.is_none.result c.call_splice.ensures.found c.is_none.ensures ∙ ap not c.if-is_none.true in
    sym (lacks_one calls i call (slice_get_read calls (length calls) i call refl c.loop-call-test.true c.call-item.is) none)

pub loop-call-preserved : goal.loop-call-preserved
loop-call-preserved c =
    let i = c.loop-call.call-index in
    let calls = c.args.calls.now in
    let call : Resolved = c.call-item.result in
    let more : take (i + 1) calls ≡ take i calls ++ call ∷ [] = take_more calls i call c.loop-call-test.true ∙ ap (λ (r : Resolved). take i calls ++ r ∷ []) (sym c.call-item.is) in
    ap have_splices more ∙ have_more (take i calls) call c.loop-call.invariant (tells_some c.call_splice.result call.splice c.is_none.result c.call_splice.ensures.found c.is_none.ensures ∙ ap not c.if-is_none.false)
