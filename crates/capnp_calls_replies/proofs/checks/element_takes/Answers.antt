use Rattle.std.proofs.Common.{ap, sym, ◌∙◌}
use Rattle.capnp_values_queries.specs.Types.{ty_of}
use Rattle.capnp_calls.specs.CallViews.{action_view}
use Rattle.capnp_calls_replies.specs.Checks.{is_done_reply}
use Rattle.capnp_calls_replies.proofs.CheckedEnds.{element_taken}
use Rattle.capnp_calls_replies.proofs.checks.element_takes.Goals as goal

pub returns : goal.returns
returns c s =
    c.is_done.ensures ∙ ap is_done_reply (c.element_reply.ensures s) ∙ element_taken s (action_view c.args.action.now) (ty_of c.args.ty) (sym c.is_get.ensures ∙ c.if-is_get.false)
