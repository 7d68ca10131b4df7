use Rattle.std.proofs.Common.{◌≡◌, ◌∙◌, ◌+◌, sym, ap, subst, List, ℕ, Ok, Err, drop}
use Rattle.std.proofs.lemmas.Result.{err_from_is_err_and}
use Rattle.capnp_units.specs.Errors.{kind_of}
use Rattle.capnp_units.specs.Segments.{words_in}
use Rattle.capnp_model.specs.Messages.{flat_at}
use Rattle.capnp_stream.specs.Flat.{frame_segments}
use Rattle.capnp_stream.proofs.buffers.NoAllocBufferSegments.from_buffer.Goals as goal

pub returns-clause-message : goal.returns-clause-message
returns-clause-message g c =
    let info = c.in_ok-info.info in
    let bytes = g.T.AsSlice.items c.args.buffer in
    let at = info.segment_table_length_bytes + info.total_segments_length_bytes in
    let Of : List ℕ → Type 0 = λ xs. flat_at c.args.limit xs ≡ Ok (words_in (frame_segments info.segments_count xs), drop at xs) in
    let message : Of bytes = subst Of c.as_slice.ensures c.in_ok-info.ensures.message in
    (drop at bytes, message ∙ ap (λ s. Ok (words_in s, drop at bytes)) (sym c.from_segment_table_info.ensures))

pub returns-in_err-info : goal.returns-in_err-info
returns-in_err-info g c =
    let p = err_from_is_err_and c.from_residual.result c.from_residual.ensures.1 in
    let Of : List ℕ → Type 0 = λ xs. flat_at c.args.limit xs ≡ Err (kind_of c.in_err-info.field-0.0.kind) in
    let refused : Of (g.T.AsSlice.items c.args.buffer) = subst Of c.as_slice.ensures c.in_err-info.ensures.refused in
    rw (p.1, p.2) (record { message = tt; refused = refused })
