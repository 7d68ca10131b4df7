use Rattle.std.proofs.Common.{inl, inr, ◌/◌, ℕ, length, sym, subst, rules}
use Rattle.std.proofs.lemmas.Result.{IfOk-weaker, IfErr-weaker}
use Rattle.capnp_model.specs.Packing.{unpacked}
use Rattle.capnp_stream.specs.Segments.{whole_words}
use Rattle.capnp_stream_packed.specs.Parts.{Takes}
use Rattle.capnp_stream_packed.proofs.PieceLemmas.{piece-taken, exact-refused}
use Rattle.capnp_stream_packed.proofs.streams.PackedReadRead.read_exact.Goals as goal

pub returns-clause-part : goal.returns-clause-part
returns-clause-part g c =
    IfErr-weaker c.read_words.result _ _ (λ e h. inl (exact-refused (length c.args.buf.now) _ _ e.kind h)) c.read_words.ensures.refused

pub returns-clause-piece : goal.returns-clause-piece
returns-clause-piece g c =
    let buf = c.read_words.new.buf in
    let P : ℕ → Type 0 = λ n. Takes (unpacked (n / 8)) (g.R.Read.remaining c.args.self.now.inner) (g.R.Read.remaining c.read_words.new.source) (whole_words buf) in
    record {
      whole = search rules;
      piece = IfOk-weaker c.read_words.result _ _ (λ _ h. piece-taken _ _ buf (subst P (sym c.read_words.auto.buf) h)) c.read_words.ensures.ok;
      fault = IfErr-weaker c.read_words.result _ _ (λ e h. inr (search rules, h)) c.read_words.ensures.refused;
    }

pub returns-clause-left : goal.returns-clause-left
returns-clause-left g c = IfErr-weaker c.read_words.result _ _ (λ e h. inr h) c.read_words.ensures.left
