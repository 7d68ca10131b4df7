use Rattle.std.specs.Prelude.{option_map, option_copied}
use Rattle.capnp_records.specs.NodeViews.{field_of, value_of}
use Rattle.capnp_schema_structs.proofs.lemmas.NullMembers.{default_is}
use Rattle.capnp_schema_structs.proofs.group_nulls.default_value.Goals as goal

pub returns : goal.returns
returns c i ty d body = default_is c.args.field (field_of c.get_proto.result.now) c.get_proto.ensures (option_map value_of (option_copied c.default_said.result)) c.default_said.ensures i ty d body
