use Rattle.std.proofs.Common.{◌≡◌, ℕ, ◌+◌, ◌-◌, ◌/◌, List, ◌++◌, length, take, replicate, refl, sym, ap, subst, ◌∙◌, rules, arith}
use Rattle.std.proofs.lemmas.List.{take_all}
use Rattle.std.proofs.lemmas.Result.{err_from_is_err_and, on_ok_weaker, IfErr-weaker}
use borrow.Rule.Slice.PartMut.{put_mid}
use Rattle.capnp_stream_io.proofs.lemmas.Filling.{take-put_mid_more}
use Rattle.capnp_model.specs.Bytes.{words_in_bytes}
use Rattle.capnp_model.specs.Packing.{unpacked_from, unpacked}
use Rattle.capnp_stream.specs.Segments.{whole_words}
use Rattle.capnp_stream_packed.specs.Parts.{ContinuesWith, Takes, with_front}
use Rattle.capnp_stream_packed.specs.Runs.{run_view}
use Rattle.capnp_stream_packed.specs.declared.runs.Run.TheVariants.{First}
use Rattle.capnp_stream_packed.proofs.PieceLemmas.{piece-start, piece-refused, piece-end, piece-joined}
use Rattle.capnp_stream_packed.proofs.ReadLemmas.{refused-count}
use Rattle.capnp_stream_packed.proofs.LeftLemmas.{left-at, left-behind, put-behind}
use Rattle.capnp_stream_packed.proofs.unpacking.read_words.Goals as goal

pub returns-then-is_empty-clause-ok : goal.returns-then-is_empty-clause-ok
returns-then-is_empty-clause-ok g c =
    let none : length c.args.buf.now ≡ 0 = search rules in
    piece-end _ _ _ c.args.buf.now 0 First (piece-start _ _ _ _ (omega arith)) refl (omega arith) (omega arith) (omega (arith, none))

pub returns-then-step-buf-clause-ok : goal.returns-then-step-buf-clause-ok
returns-then-step-buf-clause-ok g c =
    let step = c.in_ok-step.step in
    let buf = c.next_words_or_zeros.new.buf in
    let read = c.in_ok-step.ensures.words.0 in
    let same : length buf / 8 ≡ length c.args.buf.now / 8 = ap (λ (n : ℕ). n / 8) c.next_words_or_zeros.auto.buf in
    let leads = subst (λ (n : ℕ). ContinuesWith (unpacked n) (g.R.Read.remaining c.args.source.now) (g.R.Read.remaining c.next_words_or_zeros.new.source) (λ more. with_front (words_in_bytes (step.filled / 8) (take step.filled buf)) (unpacked_from ((length buf - step.filled) / 8) (run_view step.run) more))) same read.leads in
    piece-end _ _ _ buf step.filled step.run leads read.whole (omega arith) read.fits (omega arith)

pub returns-clause-ok : goal.returns-clause-ok
returns-clause-ok g c =
    let step = c.in_ok-step.step in
    let buf = c.next_words_or_zeros.new.buf in
    let tail = c.read_rest.new.buf in
    let read = c.in_ok-step.ensures.words.0 in
    let same : length buf / 8 ≡ length c.args.buf.now / 8 = ap (λ (n : ℕ). n / 8) c.next_words_or_zeros.auto.buf in
    let leads = subst (λ (n : ℕ). ContinuesWith (unpacked n) (g.R.Read.remaining c.args.source.now) (g.R.Read.remaining c.next_words_or_zeros.new.source) (λ more. with_front (words_in_bytes (step.filled / 8) (take step.filled buf)) (unpacked_from ((length buf - step.filled) / 8) (run_view step.run) more))) same read.leads in
    let after = put_mid step.filled (length buf - step.filled) buf tail in
    let behind : length tail ≡ length buf - step.filled = search rules in
    let kept : length after ≡ length buf = search rules in
    let joined : after ≡ take step.filled buf ++ tail =
    sym (take_all (step.filled + length tail) after (omega (arith, read.fits)))
    ∙ take-put_mid_more step.filled (length buf - step.filled) (length tail) buf tail read.fits (omega arith) ∙ ap (λ (l : List ℕ). take step.filled buf ++ l) (take_all (length tail) tail (omega arith)) in
    let count : (length buf - step.filled) / 8 ≡ length tail / 8 = ap (λ (n : ℕ). n / 8) (sym behind) in
    on_ok_weaker c.read_rest.result
    (λ h. piece-joined _ _ _ (g.R.Read.remaining c.read_rest.new.source) buf tail after step leads read.fits read.whole (omega arith) behind kept joined
    (subst (λ (n : ℕ). Takes (unpacked_from n (run_view step.run)) (g.R.Read.remaining c.next_words_or_zeros.new.source) (g.R.Read.remaining c.read_rest.new.source) (whole_words tail)) (search rules) h)) c.read_rest.ensures.ok

pub returns-clause-refused : goal.returns-clause-refused
returns-clause-refused g c =
    let step = c.in_ok-step.step in
    let buf = c.next_words_or_zeros.new.buf in
    let read = c.in_ok-step.ensures.words.0 in
    let same : length buf / 8 ≡ length c.args.buf.now / 8 = ap (λ (n : ℕ). n / 8) c.next_words_or_zeros.auto.buf in
    let leads = subst (λ (n : ℕ). ContinuesWith (unpacked n) (g.R.Read.remaining c.args.source.now) (g.R.Read.remaining c.next_words_or_zeros.new.source) (λ more. with_front (words_in_bytes (step.filled / 8) (take step.filled buf)) (unpacked_from ((length buf - step.filled) / 8) (run_view step.run) more))) same read.leads in
    IfErr-weaker c.read_rest.result _ _ (λ e h. piece-refused _ _ _ buf step.filled step.run leads read.whole (omega arith) (omega arith) _ (omega arith) _ e.kind h) c.read_rest.ensures.refused

pub returns-in_err-step-clause-left : goal.returns-in_err-step-clause-left
returns-in_err-step-clause-left g c =
    let p = err_from_is_err_and c.from_residual.result c.from_residual.ensures.1 in
    let old = c.args.buf.now in
    let whole : length old ≡ length old - 0 = omega arith in
    let cleared = c.in_err-step.ensures.cleared ∙ ap (λ (n : ℕ). replicate n 0) whole in
    let fault = refused-count _ _ (run_view First) _ _ _ (ap (λ (n : ℕ). n / 8) whole) c.in_err-step.ensures.refused in
    rw (p.1, p.2) (left-at First _ _ _ _ old c.next_words_or_zeros.new.buf 0 First _ refl (piece-start _ _ _ _ (omega arith)) refl (omega arith) c.next_words_or_zeros.auto.buf cleared fault)

pub returns-clause-left : goal.returns-clause-left
returns-clause-left g c =
    let step = c.in_ok-step.step in
    let buf = c.next_words_or_zeros.new.buf in
    let tail = c.read_rest.new.buf in
    let read = c.in_ok-step.ensures.words.0 in
    let after = put_mid step.filled (length buf - step.filled) buf tail in
    let behind : length tail ≡ length buf - step.filled = search rules in
    let kept : length after ≡ length buf = search rules in
    let joined = put-behind step.filled buf tail read.fits behind kept in
    IfErr-weaker c.read_rest.result _ _ (λ e h. left-behind First _ _ _ buf tail after step.filled step.run e.kind read.leads read.whole (omega arith) (omega arith) behind kept joined h) c.read_rest.ensures.left
