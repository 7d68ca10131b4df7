use Rattle.std.proofs.Common.{◌/◌, ℕ, sym, subst}
use Rattle.std.proofs.lemmas.Result.{IfOk-weaker}
use Rattle.capnp_model.specs.Packing.{unpacked}
use Rattle.capnp_stream.specs.Segments.{whole_words}
use Rattle.capnp_stream_packed.specs.Parts.{Takes}
use Rattle.capnp_stream_packed.proofs.PieceLemmas.{piece-taken}
use Rattle.capnp_stream_packed.proofs.form.PackedMessageForm.read_piece.Goals as goal

pub returns-clause-ok : goal.returns-clause-ok
returns-clause-ok g c =
    let buf = c.read_words.new.buf in
    let P : ℕ → Type 0 = λ n. Takes (unpacked (n / 8)) (g.R.Read.remaining c.args.source.now) (g.R.Read.remaining c.read_words.new.source) (whole_words buf) in
    IfOk-weaker c.read_words.result _ _ (λ _ h. piece-taken _ _ buf (subst P (sym c.read_words.auto.buf) h)) c.read_words.ensures.ok
