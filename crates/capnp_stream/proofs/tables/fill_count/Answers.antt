use Rattle.std.proofs.Common.{◌≡◌, ◌∷◌, [], ◌++◌, ◌+◌, ◌%◌, ◌^◌, ◌≤◌, arith, length, ap, sym, subst, List, ℕ, ◌∙◌}
use Rattle.std.specs.Int.{from_le_bytes, w64}
use Rattle.std.proofs.lemmas.Result.{err_from_is_err_and}
use Rattle.capnp_stream.specs.Pieces.{TakesPiece}
use Rattle.capnp_stream.proofs.lemmas.WordLemmas.{from_le_bytes-front}
use Rattle.capnp_stream.proofs.lemmas.PieceLemmas.{IsCut-of_piece, one-word}
use Rattle.capnp_stream.proofs.lemmas.FrameLemmas.{start-fault, start-part, many-fault, many-part}
use Rattle.capnp_stream.proofs.TableLemmas.{few-segments, read-kind, fill-kind}
use Rattle.capnp_stream.proofs.tables.fill_count.Goals as goal

pub returns-in_err-read_piece : goal.returns-in_err-read_piece
returns-in_err-read_piece g c =
    let p = err_from_is_err_and c.from_residual.result c.from_residual.ensures.1 in
    let r = c.in_err-read_piece.ensures in
    let kind = c.in_err-read_piece.field-0.0.kind in
    let cut = IsCut-of_piece g.F.MessageForm.reader 1 _ _ kind r.kind r.part in
    rw (p.1, p.2) (record {
      few = tt;
      count = tt;
      first = tt;
      refused = λ limit. start-fault g.F.MessageForm.reader g.met.F.MessageForm.fronts limit _ _ kind cut;
      read_kind = read-kind g.F.MessageForm.faults kind r.own;
      fill_kind = fill-kind g.F.MessageForm.faults kind r.own;
      part = λ limit. start-part g.F.MessageForm.reader g.met.F.MessageForm.fronts limit _ _ kind cut;
      failures = r.count;
    })

pub returns-then-count-ge-SEGMENTS_COUNT_LIMIT : goal.returns-then-count-ge-SEGMENTS_COUNT_LIMIT
returns-then-count-ge-SEGMENTS_COUNT_LIMIT g c =
    let word = c.from_le_bytes-word.result in
    let many : 511 ≤ word % 2 ^ 32 = omega (arith, c.if-count-ge-SEGMENTS_COUNT_LIMIT.true) in
    let first = one-word g.F.MessageForm.reader _ _ c.read_piece.new.buf word c.read_piece.auto.buf c.from_le_bytes-word.ensures c.in_ok-read_piece.ensures.ok in
    rw c.from.ensures (record {
      few = tt;
      count = tt;
      first = tt;
      refused = λ limit _. many-fault g.F.MessageForm.reader g.met.F.MessageForm.fronts limit word _ _ first many;
      read_kind = tt;
      fill_kind = tt;
      part = λ limit. many-part g.F.MessageForm.reader g.met.F.MessageForm.fronts limit word _ _ first many;
      failures = c.in_ok-read_piece.ensures.count;
    })

pub returns : goal.returns
returns g c =
    let front = c.copy_from_slice.new.self in
    let behind = c.split_at_mut-front.result.1.now in
    let word = c.from_le_bytes-word.result in
    let f : List ℕ → ℕ = from_le_bytes w64 in
    let copied : front ≡ c.read_piece.new.buf = c.copy_from_slice.ensures.after in
    let tells : word ≡ f (front ++ behind) =
    c.from_le_bytes-word.ensures ∙ ap f (sym copied) ∙ sym (from_le_bytes-front front behind (omega (arith, ap length copied, c.read_piece.auto.buf))) in
    let Of : ℕ → Type 0 = λ w. TakesPiece g.F.MessageForm.reader (g.R.Read.remaining c.args.source.now) (g.R.Read.remaining c.read_piece.new.source) (w ∷ []) in
    let first = one-word g.F.MessageForm.reader _ _ c.read_piece.new.buf word c.read_piece.auto.buf c.from_le_bytes-word.ensures c.in_ok-read_piece.ensures.ok in
    record {
      few = few-segments word c.if-count-ge-SEGMENTS_COUNT_LIMIT.false;
      count = ap (λ w. w % 2 ^ 32 + 1) tells;
      first = subst Of tells first;
      refused = λ limit. tt;
      read_kind = tt;
      fill_kind = tt;
      part = λ limit. tt;
      failures = c.in_ok-read_piece.ensures.count;
    }
