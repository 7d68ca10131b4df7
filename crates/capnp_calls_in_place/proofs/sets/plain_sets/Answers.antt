-- One call more.
use Rattle.std.proofs.Common.{◌≡◌, ◌+◌, List, [], ◌∷◌, ◌++◌, length, take, refl, ap, sym, subst, ◌∙◌}
use Rattle.std.proofs.lemmas.List.{take_more, take_all, map-append}
use Rattle.std.proofs.lemmas.Option.{slice_get_read}
use Rattle.capnp_model.specs.Calls.{Call as ModelCall}
use Rattle.capnp_calls.specs.declared.resolved.Resolved.{Resolved}
use Rattle.capnp_calls.specs.Resolved.{call_of, calls_of, KnowsSplice}
use Rattle.capnp_calls.proofs.lemmas.ResolvedCalls.{known_at}
use Rattle.capnp_calls_in_place.specs.PlainSets.{IsPlain, ArePlain}
use Rattle.capnp_calls_splice.specs.declared.plain.PlainSet.{PlainSet}
use Rattle.capnp_calls_in_place.proofs.NamedFields.{one_more}
use Rattle.capnp_calls_in_place.proofs.sets.plain_sets.Goals as goal

pub loop-call-preserved : goal.loop-call-preserved
loop-call-preserved c = λ schema known.
    let calls = c.args.calls.now in
    let i = c.loop-call.call-index in
    let front : List ModelCall = calls_of (take i calls) in
    let call : Resolved = c.call-item.result in
    let more : calls_of (take (i + 1) calls) ≡ front ++ call_of call ∷ [] =
    ap calls_of (take_more calls i call c.loop-call-test.true) ∙ map-append call_of (take i calls) _ ∙ ap (λ (x : Resolved). front ++ call_of x ∷ []) (sym c.call-item.is) in
    let put = c.in_ok-push-in-Some.ensures.items in
    let here : KnowsSplice schema call = known_at schema calls i call known (slice_get_read calls (length calls) i call refl c.loop-call-test.true c.call-item.is) in
    let one : IsPlain schema (call_of call) c.in-Some.set = let all = c.plain_set.ensures schema here in rw c.in-Some.is at all in
    subst (λ (ps : List PlainSet). ArePlain schema (calls_of (take (i + 1) calls)) ps) (sym put)
    (subst (λ (cs : List ModelCall). ArePlain schema cs (c.loop-call.sets.items ++ c.in-Some.set ∷ [])) (sym more) (one_more schema front c.loop-call.sets.items (call_of call) c.in-Some.set (c.loop-call.invariant schema known) one))

pub returns-clause-plain : goal.returns-clause-plain
returns-clause-plain c = λ schema known.
    let calls = c.args.calls.now in
    subst (λ (rs : List Resolved). ArePlain schema (calls_of rs) c.loop-call.sets.items) (take_all c.loop-call.call-index calls c.loop-call-test.false) (c.loop-call.invariant schema known)
