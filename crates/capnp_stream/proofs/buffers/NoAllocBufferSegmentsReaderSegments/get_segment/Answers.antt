use Rattle.std.proofs.Common.{arith, ◌≡◌, ◌≤◌, ◌<◌, ◌+◌, ◌*◌, get_or, sym, ap, ◌∙◌, Some, sum, drop, length}
use Rattle.std.specs.List.{slice_range}
use Rattle.capnp_units.specs.Segments.{whole_words}
use Rattle.capnp_model.specs.Messages.{halves}
use Rattle.capnp_stream.specs.Flat.{table_lengths, table_bytes}
use Rattle.capnp_stream.proofs.BufferLemmas.{segment-past, segment-ends, segment-here}
use Rattle.capnp_stream.proofs.buffers.NoAllocBufferSegmentsReaderSegments.get_segment.Goals as goal

pub returns-then-id-self : goal.returns-then-id-self
returns-then-id-self g c =
    let s = c.args.self.now in
    let n = s.info.segments_count in
    let bytes = g.T.AsSlice.items s.buffer in
    let whole : table_bytes n ≤ length bytes = omega (arith, s.described.table, s.described.fits) in
    sym (segment-past n bytes whole c.args.id (omega arith))

pub slice_bounds-result-end : goal.slice_bounds-result-end
slice_bounds-result-end g c =
    let s = c.args.self.now in
    let n = s.info.segments_count in
    let bytes = g.T.AsSlice.items s.buffer in
    let whole : table_bytes n ≤ length bytes = omega (arith, s.described.table, s.described.fits) in
    let a = c.words_before.result in
    let b = c.length_in.result in
    let inside : c.args.id < n = omega arith in
    let before : a ≡ sum (table_lengths c.args.id bytes) = c.words_before.ensures.total ∙ ap (λ xs. sum (table_lengths c.args.id xs)) c.as_slice-bytes.ensures in
    let long : b ≡ get_or (drop 1 (halves (whole_words bytes))) c.args.id 0 = c.length_in.ensures.length ∙ ap (λ xs. get_or (drop 1 (halves (whole_words xs))) c.args.id 0) c.as_slice-bytes.ensures in
    omega (arith, segment-ends n bytes whole c.args.id a b inside before long, s.described.table, s.described.total, s.described.fits, ap length c.as_slice-bytes.ensures)

pub returns : goal.returns
returns g c =
    let s = c.args.self.now in
    let n = s.info.segments_count in
    let bytes = g.T.AsSlice.items s.buffer in
    let whole : table_bytes n ≤ length bytes = omega (arith, s.described.table, s.described.fits) in
    let a = c.words_before.result in
    let b = c.length_in.result in
    let inside : c.args.id < n = omega arith in
    let before : a ≡ sum (table_lengths c.args.id bytes) = c.words_before.ensures.total ∙ ap (λ xs. sum (table_lengths c.args.id xs)) c.as_slice-bytes.ensures in
    let long : b ≡ get_or (drop 1 (halves (whole_words bytes))) c.args.id 0 = c.length_in.ensures.length ∙ ap (λ xs. get_or (drop 1 (halves (whole_words xs))) c.args.id 0) c.as_slice-bytes.ensures in
    let at = s.info.segment_table_length_bytes in
    sym (segment-here n bytes whole c.args.id a b inside before long ∙ ap (λ t. Some (slice_range bytes (t + 8 * a) (t + 8 * a + 8 * b))) (sym s.described.table)
    ∙ ap (λ xs. Some (slice_range xs (at + 8 * a) (at + 8 * a + 8 * b))) (sym c.as_slice-bytes.ensures))
