use Rattle.std.proofs.Common.{[], sym, ap, subst, ◌∙◌}
use Rattle.std.specs.Prelude.{IfOk}
use Rattle.capnp_model.specs.Accepted.{schema_of}
use Rattle.capnp_model.specs.ActiveMembers.{element_of as reading_of}
use Rattle.capnp_model.specs.Calls.{Verb, element_content}
use Rattle.capnp_records.specs.Sets.{nodes_of}
use Rattle.capnp_values_queries.specs.Types.{ty_of}
use Rattle.capnp_values.specs.Sources.{list_seen}
use Rattle.capnp_calls.specs.CallViews.{action_view}
use Rattle.capnp_calls.specs.Replies.{reply_view, content_reply}
use Rattle.capnp_calls_replies.specs.Parts.{RepliesAtElement}
use Rattle.capnp_calls_replies.proofs.Endings.{get_is, element_end}
use Rattle.capnp_calls_replies.proofs.ends.element_end.Goals as goal

pub returns-then-is_get-clause-replied : goal.returns-then-is_get-clause-replied
returns-then-is_get-clause-replied g c =
    let l = c.args.list in
    let P : Verb → Type 0 = λ v. IfOk c.shown_element.result (λ reply. RepliesAtElement (schema_of (nodes_of l.set.now)) (ty_of l.element_type) (list_seen g.A.ReaderArena.segments l.source) c.args.index [] v (reply_view reply)) in
    subst P (get_is (action_view c.args.action.now) (sym c.is_get.ensures ∙ c.if-is_get.true)) c.shown_element.ensures.replied

pub returns-clause-replied : goal.returns-clause-replied
returns-clause-replied g c rs are =
    let s = schema_of (nodes_of c.args.list.set.now) in
    let verb = action_view c.args.action.now in
    c.element_reply.ensures s ∙ ap (λ t. content_reply (element_content s verb (ty_of t))) c.element_type.ensures
    ∙ element_end s verb (ty_of c.args.list.element_type) (reading_of c.args.index rs) (sym c.is_get.ensures ∙ c.if-is_get.false)
