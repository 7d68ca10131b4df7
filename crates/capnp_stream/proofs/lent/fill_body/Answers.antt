use Rattle.std.proofs.Common.{◌≡◌, ◌≤◌, ◌+◌, ◌*◌, ◌/◌, ◌%◌, ◌^◌, ◌++◌, arith, length, take, sum, sym, ap, subst, List, ℕ, ◌∙◌, length-take-le}
use Rattle.std.specs.Int.{from_le_bytes, w64}
use Rattle.std.proofs.lemmas.List.{length-append}
use Rattle.std.proofs.lemmas.Result.{on_ok_weaker}
use Rattle.capnp_model.specs.Messages.{cut}
use Rattle.capnp_units.specs.Segments.{whole_words, words_in}
use Rattle.capnp_model.proofs.lemmas.WordsInBytes.{words_in_bytes-length}
use Rattle.capnp_stream.specs.Pieces.{TakesPiece}
use Rattle.capnp_stream.specs.Flat.{table_lengths, table_bytes, frame_segments}
use Rattle.capnp_stream.proofs.lemmas.WordLemmas.{from_le_bytes-front}
use Rattle.capnp_stream.proofs.FlatLemmas.{table-front, message-in}
use Rattle.capnp_stream.proofs.lent.fill_body.Goals as goal

pub returns-clause-described : goal.returns-clause-described
returns-clause-described g c =
    let d = c.requires in
    let n = c.args.info.segments_count in
    let old = c.args.buffer.now in
    let t = c.split_at_mut-body.result.0.now in
    let behind = c.split_at_mut-body.result.1.now in
    let body = c.fill_front.new.buffer in
    let joined : old ≡ t ++ behind = c.split_at_mut-body.ensures.value in
    let size : length t ≡ table_bytes n = c.split_at_mut-body.ensures.front_len ∙ d.table in
    let same : table_lengths n t ≡ table_lengths n old = sym (table-front n t behind size) ∙ ap (table_lengths n) (sym joined) in
    let all : table_lengths n (t ++ body) ≡ table_lengths n old = table-front n t body size ∙ same in
    let f : List ℕ → ℕ = from_le_bytes w64 in
    let word : f old ≡ f (t ++ body) = ap f joined ∙ from_le_bytes-front t behind (omega (arith, size)) ∙ sym (from_le_bytes-front t body (omega (arith, size))) in
    record {
      count = d.count ∙ ap (λ w. w % 2 ^ 32 + 1) word;
      few = d.few;
      table = d.table;
      total = d.total ∙ ap (λ l. 8 * sum l) (sym all);
      fits = omega (arith, size, length-append t body, d.table, d.fits);
    }

pub returns-clause-table : goal.returns-clause-table
returns-clause-table g c =
    let d = c.requires in
    let n = c.args.info.segments_count in
    let old = c.args.buffer.now in
    let t = c.split_at_mut-body.result.0.now in
    let behind = c.split_at_mut-body.result.1.now in
    let body = c.fill_front.new.buffer in
    let joined : old ≡ t ++ behind = c.split_at_mut-body.ensures.value in
    let size : length t ≡ table_bytes n = c.split_at_mut-body.ensures.front_len ∙ d.table in
    let same : table_lengths n t ≡ table_lengths n old = sym (table-front n t behind size) ∙ ap (table_lengths n) (sym joined) in
    table-front n t body size ∙ same

pub returns-clause-body : goal.returns-clause-body
returns-clause-body g c =
    let d = c.requires in
    let n = c.args.info.segments_count in
    let old = c.args.buffer.now in
    let t = c.split_at_mut-body.result.0.now in
    let behind = c.split_at_mut-body.result.1.now in
    let body = c.fill_front.new.buffer in
    let joined : old ≡ t ++ behind = c.split_at_mut-body.ensures.value in
    let size : length t ≡ table_bytes n = c.split_at_mut-body.ensures.front_len ∙ d.table in
    let same : table_lengths n t ≡ table_lengths n old = sym (table-front n t behind size) ∙ ap (table_lengths n) (sym joined) in
    let ns = table_lengths n old in
    let total : c.args.info.total_segments_length_bytes ≡ 8 * sum ns = d.total in
    let room : 8 * sum ns ≤ length body = omega (arith, total, d.table, d.fits) in
    let words = whole_words (take (8 * sum ns) body) in
    let Piece : ℕ → Type 0 = λ m. TakesPiece g.F.MessageForm.reader (g.R.Read.remaining c.args.source.now) (g.R.Read.remaining c.fill_front.new.source) (whole_words (take m body)) in
    let count : length words ≡ sum ns = words_in_bytes-length (length (take (8 * sum ns) body) / 8) (take (8 * sum ns) body) ∙ omega (arith, length-take-le (8 * sum ns) body room) in
    let whole : words_in (frame_segments n (t ++ body)) ≡ cut ns words = message-in n t body size (omega (arith, ap sum same, room)) ∙ ap (λ l. cut l (whole_words (take (8 * sum l) body))) same in
    on_ok_weaker c.fill_front.result (λ piece. (words, count, subst Piece total piece, whole)) c.fill_front.ensures.ok
