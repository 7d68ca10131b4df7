use Rattle.std.proofs.lemmas.Result.{IfOk-weaker}
use Rattle.std.specs.Prelude.{map}
use Rattle.capnp_values.specs.Sources.{struct_seen}
use Rattle.capnp_calls.specs.CallViews.{step_view, action_view}
use Rattle.capnp_calls.specs.Replies.{reply_view}
use Rattle.capnp_calls.specs.Resolved.{call_of}
use Rattle.capnp_calls_replies.proofs.Roots.{whole_reply}
use Rattle.capnp_calls_replies.proofs.root.reply_to.Goals as goal

pub returns-clause-replied : goal.returns-clause-replied
returns-clause-replied g c =
    IfOk-weaker c.at_struct.result _ _ (λ reply h r rec.
    whole_reply c.args.root.schema (struct_seen g.A.ReaderArena.segments c.args.root.source) (call_of c.args.call.now) (map step_view c.path.result.now) (action_view c.action.result.now) (reply_view reply) c.path.ensures c.action.ensures h r rec) c.at_struct.ensures.replied
