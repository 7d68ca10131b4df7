use Rattle.std.proofs.Common.{arith, ◌≡◌, ◌∙◌, ap, sum}
use Rattle.capnp_stream.specs.Segments.{lengths_of}
use Rattle.capnp_stream.specs.Flat.{table_lengths}
use Rattle.capnp_stream.proofs.buffers.BufferSegments.described.Goals as goal

pub behind_table-requires : goal.behind_table-requires
behind_table-requires g c =
    let d = c.requires in
    let n = c.args.info.segments_count in
    let lengths : lengths_of c.in_ok-table.table ≡ table_lengths n (g.T.AsSlice.items c.args.buffer) = c.in_ok-table.ensures.lengths ∙ ap (table_lengths n) c.as_slice.ensures in
    omega (arith, ap sum lengths, d.total, d.fits)
