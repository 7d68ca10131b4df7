use Rattle.std.proofs.Common.{arith, subst, ◌≡◌, ◌*◌, ◌/◌, ◌⊎◌, ℕ, length}
use Rattle.std.proofs.lemmas.Result.{IfOk-weaker, IfErr-weaker}
use Rattle.capnp_stream_io.specs.Streams.{ConsumesFewer, EndsBefore}
use Rattle.capnp_units.specs.declared.kinds.ErrorKind.TheVariants.{FailedToFillTheWholeBuffer}
use Rattle.capnp_stream.proofs.lemmas.PieceLemmas.{plain-piece, plain-fault, plain-part, plain-own}
use Rattle.capnp_stream.proofs.forms.FramedMessageForm.read_piece.Goals as goal

pub returns-clause-ok : goal.returns-clause-ok
returns-clause-ok g c =
    IfOk-weaker c.read_exact.result _ _ (λ _ h. plain-piece _ _ c.read_exact.new.buf (omega (arith, c.read_exact.auto.buf)) h) c.read_exact.ensures.ok

pub returns-clause-kind : goal.returns-clause-kind
returns-clause-kind g c =
    let n = length c.args.buf.now / 8 in
    let whole : length c.args.buf.now ≡ 8 * n = omega arith in
    IfErr-weaker c.read_exact.result _ _ (λ e h.
    let P : ℕ → Type 0 = λ k. (g.R.Read.refuses e.kind × ConsumesFewer (g.R.Read.remaining c.args.source.now) (g.R.Read.remaining c.read_exact.new.self) k)
    ⊎ ((e.kind ≡ FailedToFillTheWholeBuffer) × EndsBefore (g.R.Read.remaining c.args.source.now) (g.R.Read.remaining c.read_exact.new.self) k) in
    plain-fault n _ _ g.R.Read.refuses g.met.R.BufRead.device_alone e.kind (subst P whole h)) c.read_exact.ensures.part

pub returns-clause-part : goal.returns-clause-part
returns-clause-part g c =
    let n = length c.args.buf.now / 8 in
    let whole : length c.args.buf.now ≡ 8 * n = omega arith in
    IfErr-weaker c.read_exact.result _ _ (λ e h.
    let P : ℕ → Type 0 = λ k. (g.R.Read.refuses e.kind × ConsumesFewer (g.R.Read.remaining c.args.source.now) (g.R.Read.remaining c.read_exact.new.self) k)
    ⊎ ((e.kind ≡ FailedToFillTheWholeBuffer) × EndsBefore (g.R.Read.remaining c.args.source.now) (g.R.Read.remaining c.read_exact.new.self) k) in
    plain-part n _ _ g.R.Read.refuses g.met.R.BufRead.device_alone e.kind (subst P whole h)) c.read_exact.ensures.part

pub returns-clause-own : goal.returns-clause-own
returns-clause-own g c = IfErr-weaker c.read_exact.result _ _ (λ e h. plain-own g.R.Read.refuses g.met.R.BufRead.device_alone e.kind h) c.read_exact.ensures.part

pub returns-clause-count : goal.returns-clause-count
returns-clause-count g c = c.read_exact.ensures.count
