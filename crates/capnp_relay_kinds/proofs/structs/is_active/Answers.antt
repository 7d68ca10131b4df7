use Rattle.capnp_records.specs.NodeViews.{field_of}
use Rattle.capnp_relay_kinds.proofs.Fields.{no_member, none_said}
use Rattle.capnp_relay_kinds.proofs.structs.is_active.Goals as goal

pub returns-then-member : goal.returns-then-member
returns-then-member c = no_member c.args.field (field_of c.get_proto.result.now) c.get_proto.ensures c.args.active (none_said c.get_proto.result.now.discriminant_value c.if-member.true)
