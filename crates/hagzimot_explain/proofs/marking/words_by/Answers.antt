use Rattle.std.proofs.Common.{ap}
use Rattle.capnp_units.specs.Segments.{words_in}
use Rattle.hagzimot_explain.proofs.MarkLemmas.{by_more}
use Rattle.hagzimot_explain.proofs.marking.words_by.Goals as goal

pub loop-pointer-preserved : goal.loop-pointer-preserved
loop-pointer-preserved g c = λ q h.
    by_more (words_in (g.S.ReaderSegments.segments c.args.segments.now)) (words_in (g.A.ReaderArena.segments c.args.arena.now)) c.args.pointers.now c.loop-pointer.pointer-index (record { segment = 0; position = 0 }) q c.object_there-object.result _ _ _ (ap words_in c.requires) c.loop-pointer-test.true c.object_there-object.ensures.object (c.loop-pointer.invariant q h) (c.mark_pad.ensures q) (c.mark_object.ensures q)
