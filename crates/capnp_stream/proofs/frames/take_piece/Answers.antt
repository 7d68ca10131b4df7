use Rattle.std.proofs.Common.{◌∙◌, ◌≡◌, ◌/◌, List, ℕ, arith, length, refl, sym, ap, subst}
use Rattle.std.specs.Vec.{with_items}
use Rattle.std.proofs.lemmas.List.{with_items_is}
use Rattle.std.proofs.lemmas.Result.{err_from_is_err_and}
use Rattle.capnp_stream.specs.Pieces.{TakesPiece}
use Rattle.capnp_stream.specs.Segments.{whole_words}
use Rattle.capnp_stream.specs.Frames.{IsPieceRefusal}
use Rattle.capnp_stream.proofs.lemmas.PieceLemmas.{IsCut-of_piece}
use Rattle.capnp_stream.proofs.TableLemmas.{read-kind}
use Rattle.capnp_stream.proofs.RefusalLemmas.{unread, memory-kind, memory-counts, some-words}
use Rattle.capnp_stream.proofs.frames.take_piece.Goals as goal

pub returns-in_err-resize : goal.returns-in_err-resize
returns-in_err-resize g c =
    let p = err_from_is_err_and c.from_residual.result c.from_residual.ensures.1 in
    let source = g.R.Read.remaining c.args.source.now in
    let some = some-words _ c.args.words c.in_err-resize.ensures.full in
    rw p.1 (record {
      len = tt;
      ok = tt;
      cut = subst (IsPieceRefusal g.F.MessageForm.reader c.args.words source source) (sym p.2) (unread source, some);
      own = memory-kind p.0.kind p.2 g.F.MessageForm.faults;
      count = memory-counts p.0.kind p.2 _ _ refl;
    })

pub returns-in_err-read_piece : goal.returns-in_err-read_piece
returns-in_err-read_piece g c =
    let p = err_from_is_err_and c.from_residual-in_err-read_piece.result c.from_residual-in_err-read_piece.ensures.1 in
    let r = c.in_err-read_piece.ensures in
    let kind = c.in_err-read_piece.field-0.0.kind in
    let Cut : ℕ → Type 0 = λ m. IsPieceRefusal g.F.MessageForm.reader m (g.R.Read.remaining c.args.source.now) (g.R.Read.remaining c.read_piece.new.source) kind in
    let long : length c.deref_mut.result.now / 8 ≡ c.args.words = omega (arith, c.deref_mut.ensures.len, c.in_ok-resize.ensures.len) in
    let cut = IsCut-of_piece g.F.MessageForm.reader _ _ _ kind r.kind r.part in
    rw (p.1, p.2) (record {
      len = tt;
      ok = tt;
      cut = subst Cut long cut;
      own = read-kind g.F.MessageForm.faults kind r.own;
      count = r.count;
    })

pub returns : goal.returns
returns g c =
    let read = c.read_piece.new.buf in
    let sized = c.read_piece.auto.buf ∙ c.deref_mut.ensures.len in
    let held : (with_items c.resize.new.self read).items ≡ read = with_items_is c.resize.new.self read sized in
    let Of : List ℕ → Type 0 = λ l. TakesPiece g.F.MessageForm.reader (g.R.Read.remaining c.args.source.now) (g.R.Read.remaining c.read_piece.new.source) (whole_words l) in
    record {
      len = ap length held ∙ sized ∙ c.in_ok-resize.ensures.len;
      ok = subst Of (sym held) c.in_ok-read_piece.ensures.ok;
      cut = tt;
      own = tt;
      count = c.in_ok-read_piece.ensures.count;
    }
