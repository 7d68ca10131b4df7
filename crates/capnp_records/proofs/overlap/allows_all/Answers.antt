use Rattle.capnp_records.proofs.Marked.{refused_at}
use Rattle.capnp_records.proofs.overlap.allows_all.Goals as goal

pub returns-then-not-allows : goal.returns-then-not-allows
returns-then-not-allows c = refused_at c.args.marks.now c.args.areas.now c.loop-area.area-index c.area-item.result c.args.most c.loop-area-test.true c.area-item.is c.if-not-allows.ensures
