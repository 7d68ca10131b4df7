use Rattle.capnp_records.proofs.Marked.{puts_more}
use Rattle.capnp_records.proofs.overlap.put_all.Goals as goal

pub loop-area-preserved : goal.loop-area-preserved
loop-area-preserved c = puts_more c.args.marks.now c.loop-area.marks c.put.new.self c.args.areas.now c.loop-area.area-index c.area-item.result c.args.level c.loop-area-test.true c.area-item.is c.loop-area.invariant c.in_ok-put.ensures
