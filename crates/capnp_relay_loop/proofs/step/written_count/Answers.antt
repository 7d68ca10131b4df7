use Rattle.std.proofs.Common.{ap, subst, map}
use Rattle.std.specs.Prelude.{replicate}
use Rattle.capnp_model.specs.Answers.{reply_done}
use Rattle.capnp_calls.specs.Replies.{reply_view}
use Rattle.capnp_relay_loop.specs.MessageAnswers.{answer_view, StandsInBuffer}
use Rattle.capnp_relay_loop.proofs.step.written_count.Goals as goal

pub returns-in-Written-clause-front : goal.returns-in-Written-clause-front
returns-in-Written-clause-front c words stands =
    let there = subst (StandsInBuffer words) c.in-Written.is stands in
    (map reply_view c.in-Written.replies.items, ap (answer_view words) c.in-Written.is, there.0, there.1)

pub returns-in-Done-clause-front : goal.returns-in-Done-clause-front
returns-in-Done-clause-front c words stands =
    let there = subst (StandsInBuffer words) c.in-Done.is stands in
    (replicate c.in-Done.calls reply_done, ap (answer_view words) c.in-Done.is, there.0, there.1)
