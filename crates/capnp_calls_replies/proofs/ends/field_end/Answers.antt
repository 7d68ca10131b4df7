use Rattle.std.proofs.Common.{[], sym, subst, ◌∙◌}
use Rattle.std.specs.Prelude.{IfOk}
use Rattle.capnp_model.specs.Calls.{Verb}
use Rattle.capnp_values.specs.Sources.{struct_seen}
use Rattle.capnp_values.specs.Records.{reading_at_index}
use Rattle.capnp_calls.specs.CallViews.{action_view}
use Rattle.capnp_calls.specs.Replies.{reply_view}
use Rattle.capnp_calls_replies.specs.Parts.{OfField, IsFieldReply}
use Rattle.capnp_calls_replies.proofs.Endings.{get_is}
use Rattle.capnp_calls_replies.proofs.ends.field_end.Goals as goal

pub returns-then-is_get-clause-replied : goal.returns-then-is_get-clause-replied
returns-then-is_get-clause-replied g c =
    let P : Verb → Type 0 = λ v. IfOk c.shown_field.result (λ reply. OfField c.args.field (struct_seen g.A.ReaderArena.segments c.args.reader.source) (IsFieldReply [] v (reply_view reply))) in
    subst P (get_is (action_view c.args.action.now) (sym c.is_get.ensures ∙ c.if-is_get.true)) c.shown_field.ensures.replied

pub returns-clause-replied : goal.returns-clause-replied
returns-clause-replied g c e r at rec = c.field_write.ensures e (reading_at_index c.args.field.index r) at
