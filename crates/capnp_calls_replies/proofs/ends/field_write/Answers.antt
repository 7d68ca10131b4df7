use Rattle.std.proofs.Common.{ap}
use Rattle.capnp_model.specs.Accepted.{schema_of}
use Rattle.capnp_values_queries.specs.Handles.{entry_of_field}
use Rattle.capnp_values_queries.specs.Types.{ty_of}
use Rattle.capnp_values_queries.specs.Structs.{schema_around, shape_of_struct}
use Rattle.capnp_calls.specs.CallViews.{action_view}
use Rattle.capnp_calls.specs.Replies.{reply_view}
use Rattle.capnp_calls_replies.proofs.Endings.{field_slot, field_group}
use Rattle.capnp_calls_replies.proofs.ends.field_write.Goals as goal

pub returns-in-Some : goal.returns-in-Some
returns-in-Some c e r at =
    let f = c.args.field in
    let g = c.in-Some.schema in
    field_group (schema_around f.parent) (schema_around g) (action_view c.args.action.now) (entry_of_field f) e (shape_of_struct g) r (reply_view c.group_reply.result) (ap schema_of c.in-Some.ensures.1) at c.in-Some.ensures.0 (c.group_reply.ensures r)

pub returns-in-None : goal.returns-in-None
returns-in-None c e r at =
    let f = c.args.field in
    field_slot (schema_around f.parent) (action_view c.args.action.now) (entry_of_field f) e (ty_of c.get_type.result) r (reply_view c.slot_reply.result) c.requires.write (c.in-None.ensures e at) at c.get_type.ensures.ty (c.slot_reply.ensures (schema_around f.parent))
