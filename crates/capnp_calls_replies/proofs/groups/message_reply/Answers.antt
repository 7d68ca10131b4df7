use Rattle.std.proofs.Common.{Some, None}
use Rattle.capnp_model.specs.Calls.{message_root}
use Rattle.capnp_model.specs.Readings.{record_of}
use Rattle.capnp_units.specs.Errors.{kind_of}
use Rattle.capnp_values_queries.specs.Structs.{schema_around, id_of}
use Rattle.capnp_calls.specs.Messages.{tree_of_message}
use Rattle.capnp_calls_replies.proofs.GroupReplies.{struct_set}
use Rattle.capnp_calls_replies.proofs.groups.message_reply.Goals as goal

pub returns-in-Some-group_fault : goal.returns-in-Some-group_fault
returns-in-Some-group_fault c =
    let s = schema_around c.args.schema in
    let id = id_of c.args.schema in
    let t = tree_of_message c.args.value.now in
    let found = c.in-Some.ensures t c.kept-arena.ensures in
    struct_set s id (Some (kind_of c.in-Some-group_fault.kind)) t found.0 (c.in-Some-group_fault.ensures (record_of s id (message_root t)) (found.1 s id))

pub returns-in-None : goal.returns-in-None
returns-in-None c =
    let s = schema_around c.args.schema in
    let id = id_of c.args.schema in
    let t = tree_of_message c.args.value.now in
    let found = c.in-Some.ensures t c.kept-arena.ensures in
    struct_set s id None t found.0 (c.in-None.ensures (record_of s id (message_root t)) (found.1 s id))
