-- One call more.
use Rattle.std.proofs.Common.{◌≡◌, ◌+◌, List, [], ◌∷◌, ◌++◌, length, take, refl, ap, sym, subst, ◌∙◌}
use Rattle.std.specs.Prelude.{map}
use Rattle.std.proofs.lemmas.List.{take_more, take_all, map-append}
use Rattle.std.proofs.lemmas.Option.{slice_get_read}
use Rattle.capnp_model.specs.Calls.{Call as ModelCall}
use Rattle.capnp_model.specs.Answers.{Reply as ModelReply}
use Rattle.capnp_calls.specs.declared.reply.Reply.{Reply}
use Rattle.capnp_calls.specs.declared.resolved.Resolved.{Resolved}
use Rattle.capnp_calls.specs.Replies.{reply_view}
use Rattle.capnp_calls.specs.Resolved.{call_of, calls_of}
use Rattle.capnp_calls.proofs.lemmas.ResolvedCalls.{call_at}
use Rattle.capnp_relay_answers.specs.Gets.{TellsAt}
use Rattle.capnp_relay_answers.proofs.Told.{tells_none, tells_more, other_reply}
use Rattle.capnp_relay_answers.proofs.gets.reply_each.Goals as goal

pub loop-call-init : goal.loop-call-init
loop-call-init g c =
    let seg = g.A.ReaderArena.segments in
    subst (λ (rs : List Reply). TellsAt seg c.args.root [] (map reply_view rs)) (sym c.new-replies.ensures.items) (tells_none seg c.args.root)

pub reply_to-requires : goal.reply_to-requires
reply_to-requires g c =
    let calls = c.args.calls.now in
    record { resolved = call_at c.args.root.schema calls c.loop-call.call-index c.call-item.result c.requires (slice_get_read calls (length calls) c.loop-call.call-index c.call-item.result refl c.loop-call-test.true c.call-item.is) }

pub loop-call-preserved : goal.loop-call-preserved
loop-call-preserved g c =
    let seg = g.A.ReaderArena.segments in
    let root = c.args.root in
    let calls = c.args.calls.now in
    let i = c.loop-call.call-index in
    let call : Resolved = c.call-item.result in
    let reply = c.in_ok-reply.reply in
    let front : List ModelCall = calls_of (take i calls) in
    let before : List ModelReply = map reply_view c.loop-call.replies.items in
    let more : calls_of (take (i + 1) calls) ≡ front ++ call_of call ∷ [] =
    ap calls_of (take_more calls i call c.loop-call-test.true) ∙ map-append call_of (take i calls) _ ∙ ap (λ (x : Resolved). front ++ call_of x ∷ []) (sym c.call-item.is) in
    let pushed : map reply_view c.push.new.self.items ≡ before ++ reply_view reply ∷ [] = ap (map reply_view) c.in_ok-push-in_default.ensures.items ∙ map-append reply_view c.loop-call.replies.items (reply ∷ []) in
    let next = tells_more seg root front (call_of call) before (reply_view reply) c.loop-call.invariant c.in_ok-reply.ensures.replied (other_reply reply c.in_default.not-Done) in
    subst (λ (rs : List ModelReply). TellsAt seg root (calls_of (take (i + 1) calls)) rs) (sym pushed) (subst (λ (cs : List ModelCall). TellsAt seg root cs (before ++ reply_view reply ∷ [])) (sym more) next)

pub returns : goal.returns
returns g c =
    let calls = c.args.calls.now in
    subst (λ (rs : List Resolved). TellsAt g.A.ReaderArena.segments c.args.root (calls_of rs) (map reply_view c.loop-call.replies.items)) (take_all c.loop-call.call-index calls c.loop-call-test.false) c.loop-call.invariant
