use Rattle.std.proofs.Common.{map}
use Rattle.capnp_records.specs.NodeViews.{field_of}
use Rattle.capnp_records.proofs.OneMore.{put_one_more}
use Rattle.capnp_records.proofs.parts.push_field_names.Goals as goal

pub loop-field-preserved : goal.loop-field-preserved
loop-field-preserved c =
    put_one_more field_of (λ f. f.name) (λ s. s.now) (map (λ s. s.now) c.args.names.now.items) c.loop-field.names.items c.push.new.self.items c.as_str.result
    c.args.fields.now c.loop-field.field-index c.field-item.result
    c.loop-field-test.true c.field-item.is c.loop-field.invariant c.in_ok-push.ensures.items c.as_str.ensures.value
