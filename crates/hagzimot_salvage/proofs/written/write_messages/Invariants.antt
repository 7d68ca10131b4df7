use Rattle.std.proofs.Common.{Ok, take}
use Rattle.capnp_stream_io.specs.Writes.{Writes, sink_seen}
use Rattle.hagzimot_salvage.specs.Pieces.{kept_bytes}
use Rattle.hagzimot_salvage.proofs.written.write_messages.Given as goal

abbrev pub invariant-loop-piece : goal.invariant-loop-piece
invariant-loop-piece g l = Writes g.W.Write.may_grow (kept_bytes l.bytes (take l.piece-index l.pieces))
    (sink_seen g.W.Write.contents g.W.Write.failures g.W.Write.room l.fn.out) (Ok tt) (sink_seen g.W.Write.contents g.W.Write.failures g.W.Write.room l.out)
