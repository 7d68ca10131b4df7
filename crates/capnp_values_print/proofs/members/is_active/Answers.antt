use Rattle.capnp_records.specs.NodeViews.{field_of}
use Rattle.capnp_values.specs.Sources.{struct_seen}
use Rattle.capnp_values_print.proofs.lemmas.PrintedFields.{by_none, none_said}
use Rattle.capnp_values_print.proofs.members.is_active.Goals as goal

pub returns-then-member : goal.returns-then-member
returns-then-member g c =
    let v = struct_seen g.A.ReaderArena.segments c.args.reader.source in
    by_none c.args.reader.schema v c.args.field (field_of c.get_proto.result.now) c.requires c.get_proto.ensures (none_said c.get_proto.result.now.discriminant_value c.if-member.true)
