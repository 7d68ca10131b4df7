use Rattle.std.proofs.Common.{arith, sym}
use Rattle.capnp_stream.proofs.BufferLemmas.{segments-count}
use Rattle.capnp_stream.proofs.buffers.NoAllocBufferSegmentsReaderSegments.len.Goals as goal

pub returns : goal.returns
returns g c =
    let s = c.args.self.now in
    sym (segments-count s.info.segments_count (g.T.AsSlice.items s.buffer) (omega (arith, s.described.table, s.described.fits)))
