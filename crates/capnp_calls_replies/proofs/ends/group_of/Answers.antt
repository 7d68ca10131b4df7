use Rattle.capnp_values_queries.specs.Handles.{entry_of_field}
use Rattle.capnp_calls_replies.proofs.Endings.{no_group_body}
use Rattle.capnp_calls_replies.proofs.ends.group_of.Goals as goal

pub returns-in_default : goal.returns-in_default
returns-in_default c e at = no_group_body (entry_of_field c.args.field) e c.place.result c.in_default.not-Group at c.place.ensures.body
