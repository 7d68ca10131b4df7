use Rattle.capnp_schema_structs.proofs.SourceReadings.{other_turn}
use Rattle.capnp_schema_structs.proofs.group_sources.has_turn.Goals as goal

pub returns-then-member : goal.returns-then-member
returns-then-member g c from is = other_turn c.args.field c.get_proto.result.now c.get_proto.ensures c.args.members from c.if-member.true
