use Rattle.std.proofs.Common.{Ok, ◌-◌, length, take}
use Rattle.std.specs.List.{flat_map}
use Rattle.capnp_units.specs.Segments.{words_in}
use Rattle.capnp_stream_io.specs.Writes.{Writes, sink_seen}
use Rattle.capnp_stream.proofs.messages.write_each.Given as goal

abbrev pub invariant-loop-bytes : goal.invariant-loop-bytes
invariant-loop-bytes g l = Writes g.W.Write.may_grow (flat_map g.F.MessageForm.writer (take l.id (words_in (g.S.ReaderSegments.segments l.segments))))
    (sink_seen g.W.Write.contents g.W.Write.failures g.W.Write.room l.fn.out) (Ok tt) (sink_seen g.W.Write.contents g.W.Write.failures g.W.Write.room l.out)

abbrev pub decreases-loop-bytes : goal.decreases-loop-bytes
decreases-loop-bytes g l = length (g.S.ReaderSegments.segments l.segments) - l.id
