use Rattle.std.proofs.Common.{inr, ◌<◌, ◌/◌, ℕ, length, sym, subst, ◌∙◌, arith, rules}
use Rattle.std.proofs.lemmas.Bool.{eqb-false}
use Rattle.std.proofs.lemmas.Result.{err_from_is_err_and}
use Rattle.capnp_model.specs.Packing.{unpacked}
use Rattle.capnp_stream.specs.Segments.{whole_words}
use Rattle.capnp_stream_packed.specs.Parts.{Takes}
use Rattle.capnp_stream_packed.proofs.PieceLemmas.{piece-taken, piece-of_kept, failed-at_once}
use Rattle.capnp_stream_packed.specs.declared.runs.Run.TheVariants.{First}
use Rattle.capnp_stream_packed.proofs.LeftLemmas.{left-of_kept}
use Rattle.capnp_stream_packed.proofs.streams.PackedReadRead.read.Goals as goal

pub returns-in_err-is_at_end-clause-piece : goal.returns-in_err-is_at_end-clause-piece
returns-in_err-is_at_end-clause-piece g c =
    let some : 0 < length c.args.buf.now = omega (arith, eqb-false (length c.args.buf.now) 0 (sym c.is_empty.ensures ∙ c.if-is_empty.false)) in
    let p = err_from_is_err_and c.from_residual.result c.from_residual.ensures.1 in
    record {
      whole = search rules;
      piece = search rules;
      fault = rw (p.1, p.2, c.in_err-is_at_end.ensures.refusal) (inr (search rules, failed-at_once (length c.args.buf.now / 8) _ _ (omega (arith, some)) c.is_at_end.ensures.kept));
      some = search rules;
    }

pub returns-clause-piece : goal.returns-clause-piece
returns-clause-piece g c =
    let buf = c.read_words.new.buf in
    let P : ℕ → Type 0 = λ n. Takes (unpacked (n / 8)) (g.R.Read.remaining c.is_at_end.new.source) (g.R.Read.remaining c.read_words.new.source) (whole_words buf) in
    record {
      whole = search rules;
      piece = record {
        piece = λ some. (c.read_words.auto.buf, piece-of_kept _ _ _ _ c.is_at_end.ensures.kept (piece-taken _ _ buf (subst P (sym c.read_words.auto.buf) c.in_ok-read_words.ensures.ok)));
        end = search rules;
      };
      fault = search rules;
      some = search rules;
    }

pub returns-in_err-read_words-clause-left : goal.returns-in_err-read_words-clause-left
returns-in_err-read_words-clause-left g c =
    let r = c.from_residual-in_err-read_words in
    let p = err_from_is_err_and r.result r.ensures.1 in
    rw (p.1, p.2) (inr (left-of_kept First _ _ _ c.read_words.new.buf _ c.is_at_end.ensures.kept c.in_err-read_words.ensures.left))
