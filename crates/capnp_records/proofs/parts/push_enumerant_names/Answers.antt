use Rattle.std.proofs.Common.{map}
use Rattle.capnp_records.specs.NodeViews.{enumerant_of}
use Rattle.capnp_records.proofs.OneMore.{put_one_more}
use Rattle.capnp_records.proofs.parts.push_enumerant_names.Goals as goal

pub loop-enumerant-preserved : goal.loop-enumerant-preserved
loop-enumerant-preserved c =
    put_one_more enumerant_of (λ e. e.name) (λ s. s.now) (map (λ s. s.now) c.args.names.now.items) c.loop-enumerant.names.items c.push.new.self.items c.as_str.result c.args.enumerants.now c.loop-enumerant.enumerant-index c.enumerant-item.result
    c.loop-enumerant-test.true c.enumerant-item.is c.loop-enumerant.invariant c.in_ok-push.ensures.items c.as_str.ensures.value
