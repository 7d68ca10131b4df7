use Rattle.std.proofs.Common.{map, refl}
use Rattle.capnp_records.specs.NodeViews.{type_record_of, annotation_of}
use Rattle.capnp_records.proofs.OneMore.{put_one_more}
use Rattle.capnp_records.proofs.parts.push_types.Goals as goal

pub loop-annotation-preserved : goal.loop-annotation-preserved
loop-annotation-preserved c =
    put_one_more annotation_of (λ a. a.type) type_record_of (map type_record_of c.args.types.now.items) c.loop-annotation.types.items c.push.new.self.items c.annotation-item.result.ty
    c.args.annotations.now c.loop-annotation.annotation-index c.annotation-item.result
    c.loop-annotation-test.true c.annotation-item.is c.loop-annotation.invariant c.in_ok-push.ensures.items refl
