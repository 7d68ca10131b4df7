use Rattle.std.proofs.Common.{ap, sym, ◌∙◌}
use Rattle.capnp_model.specs.Accepted.{schema_of}
use Rattle.capnp_model.specs.Readings.{number}
use Rattle.capnp_values_queries.specs.Handles.{entry_of_field, body_of_place}
use Rattle.capnp_values_queries.specs.Structs.{schema_around, shape_of_struct}
use Rattle.capnp_values_queries.specs.Types.{ty_of}
use Rattle.capnp_calls.specs.CallViews.{action_view}
use Rattle.capnp_calls.specs.Replies.{reply_view}
use Rattle.capnp_calls_replies.specs.Checks.{is_done_reply}
use Rattle.capnp_calls_replies.proofs.Endings.{no_group}
use Rattle.capnp_calls_replies.proofs.CheckedEnds.{field_taken, group_taken}
use Rattle.capnp_calls_replies.proofs.checks.field_takes.Goals as goal

pub returns-else-is_get : goal.returns-else-is_get
returns-else-is_get c =
    let f = c.args.field in
    let g = c.in-Group.schema in
    c.is_done.ensures
    ∙ group_taken (schema_around f.parent) (schema_around g) (action_view c.args.action.now) (entry_of_field f) (shape_of_struct g) (reply_view c.group_reply.result) (ap schema_of c.in-Group.ensures.of_set) (sym c.is_get.ensures ∙ c.if-is_get.false) c.in-Group.ensures.body (c.group_reply.ensures (number 0))

pub returns-in_default : goal.returns-in_default
returns-in_default c =
    let f = c.args.field in
    let s = schema_around f.parent in
    c.is_done-in_default.ensures ∙ ap is_done_reply (c.slot_reply.ensures s)
    ∙ field_taken s (action_view c.args.action.now) (entry_of_field f) (body_of_place c.place.result) (ty_of c.get_type.result) (no_group c.place.result c.in_default.not-Group) c.place.ensures.body c.get_type.ensures.ty
