use Rattle.std.proofs.Common.{◌≡◌, ℕ, List, map, ap, ◌∙◌}
use Rattle.std.proofs.lemmas.Result.{IfOk-weaker}
use Rattle.capnp_units.specs.Segments.{words_in}
use Rattle.capnp_stream.specs.Buffers.{found_segments}
use Rattle.capnp_calls.specs.CallViews.{call_view}
use Rattle.capnp_relay_answers.specs.RootCalls.{root_schema, root_calls}
use Rattle.capnp_relay_loop.specs.MessageAnswers.{answer_view}
use Rattle.capnp_relay_streams.specs.Messages.{IsAnswerBy}
use Rattle.hagzimot_clears.specs.Clears.{IsClearedAnswer}
use Rattle.hagzimot_clears.proofs.Cleared.{cleared, too_large_plain, too_large_canonical}
use Rattle.hagzimot_clears.proofs.clears.ActiveClearsAnswers.answer.Goals as goal

pub returns-then-self-clause-size : goal.returns-then-self-clause-size
returns-then-self-clause-size c large =
    let same = c.in-Ok-new.ensures.calls ∙ ap (map call_view) c.deref.ensures.value ∙ c.in-Ok.ensures c.answer.new.words.items in
    too_large_plain c.args.self.now _ _ _ _ c.in-Ok-new.ensures.schema same c.if-self.true (c.answer-then-self.ensures.size large)

pub returns-clause-value : goal.returns-clause-value
returns-clause-value c =
    let s = words_in (found_segments c.args.message.now) in
    let words = c.answer-2.new.words.items in
    let before = c.answer.new.words.items in
    let probed = answer_view before c.in_ok-probed.probed in
    let rc = c.in-Ok-new.calls in
    let same = c.in-Ok-new.ensures.calls ∙ ap (map call_view) c.deref.ensures.value ∙ c.in-Ok.ensures before in
    IfOk-weaker c.answer-2.result (λ a. IsAnswerBy (root_schema rc) (root_calls rc) c.args.self.now.bounds s (answer_view words a)) (λ a. IsClearedAnswer c.args.self.now s (answer_view words a))
    (λ a one. cleared c.args.self.now s probed (root_schema rc) (root_calls rc) c.in-Ok-new.ensures.schema same (answer_view words a) c.in_ok-probed.ensures.value c.if-self.false one) c.answer-2.ensures.value

pub returns-clause-size : goal.returns-clause-size
returns-clause-size c large =
    let same = c.in-Ok-new.ensures.calls ∙ ap (map call_view) c.deref.ensures.value ∙ c.in-Ok.ensures c.answer.new.words.items in
    too_large_canonical c.args.self.now _ _ _ _ c.in-Ok-new.ensures.schema same c.if-self.false (c.answer-2.ensures.size large)
