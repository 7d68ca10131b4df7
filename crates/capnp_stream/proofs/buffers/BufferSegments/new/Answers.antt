use Rattle.std.proofs.Common.{◌≡◌, ◌∙◌, ◌+◌, refl, sym, ap, subst, List, ℕ, Ok, Err, drop}
use Rattle.std.specs.Result.{IsOk}
use Rattle.capnp_units.specs.Errors.{kind_of}
use Rattle.capnp_units.specs.Segments.{words_in}
use Rattle.capnp_model.specs.Messages.{flat_at}
use Rattle.capnp_stream.specs.Flat.{frame_segments}
use Rattle.std.proofs.lemmas.Result.{IfOk-weaker, IfErr-weaker, err_from_is_err_and}
use Rattle.capnp_stream.proofs.buffers.BufferSegments.new.Goals as goal

pub returns-clause-message : goal.returns-clause-message
returns-clause-message g c =
    let info = c.in_ok-info.info in
    let bytes = g.T.AsSlice.items c.args.buffer in
    let at = info.segment_table_length_bytes + info.total_segments_length_bytes in
    let Of : List ℕ → Type 0 = λ xs. flat_at c.args.limit xs ≡ Ok (words_in (frame_segments info.segments_count xs), drop at xs) in
    let message : Of bytes = subst Of c.as_slice.ensures c.in_ok-info.ensures.message in
    IfOk-weaker c.described.result _ _ (λ s h. (drop at bytes, message ∙ ap (λ l. Ok (words_in l, drop at bytes)) (sym h))) c.described.ensures.segments

pub returns-in_err-info : goal.returns-in_err-info
returns-in_err-info g c =
    let p = err_from_is_err_and c.from_residual.result c.from_residual.ensures.1 in
    let r = c.in_err-info.ensures in
    let Of : List ℕ → Type 0 = λ xs. flat_at c.args.limit xs ≡ Err (kind_of c.in_err-info.field-0.0.kind) in
    let refused : Of (g.T.AsSlice.items c.args.buffer) = subst Of c.as_slice.ensures r.refused in
    rw (p.1, p.2) (record {
      buffer = tt;
      message = tt;
      refused = λ _. refused;
      wanted = λ want. absurd (r.no_memory want);
    })

pub returns-clause-wanted : goal.returns-clause-wanted
returns-clause-wanted g c =
    let r = c.in_ok-info.ensures in
    let Of : List ℕ → Type 0 = λ xs. IsOk (flat_at c.args.limit xs) in
    let read : Of c.as_slice.result.now = subst IsOk (sym r.message) refl in
    IfErr-weaker c.described.result _ _ (λ _ _ _. subst Of c.as_slice.ensures read) c.described.ensures.refusal
