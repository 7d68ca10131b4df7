use Rattle.std.proofs.Common.{◌≡◌, ℕ, ◌-◌, ◌/◌, List, ◌++◌, length, take, replicate, refl, sym, ap, rules, arith, ◌∙◌}
use Rattle.std.proofs.lemmas.Result.{err_from_is_err_and}
use borrow.Rule.Slice.PartMut.{put_mid}
use Rattle.capnp_stream_io.proofs.lemmas.Filling.{take-put_mid_more}
use Rattle.capnp_stream_packed.proofs.PieceLemmas.{piece-start, piece-refused, piece-more, piece-end}
use Rattle.capnp_stream_packed.specs.Runs.{run_view}
use Rattle.capnp_stream_packed.proofs.ReadLemmas.{refused-count}
use Rattle.capnp_stream_packed.proofs.LeftLemmas.{left-at, put-behind}
use Rattle.capnp_stream_packed.proofs.unpacking.read_rest.Goals as goal

pub loop-at-init : goal.loop-at-init
loop-at-init g c = record { whole = refl; within = omega arith; same = refl; read = piece-start _ _ _ _ (omega arith); count = refl }

pub loop-at-preserved : goal.loop-at-preserved
loop-at-preserved g c =
    let l = c.loop-at in
    let step = c.in_ok-step.step in
    let tail = c.next_words_or_zeros.new.buf in
    let p = c.in_ok-step.ensures.words.0 in
    let after = put_mid l.at (length l.buf - l.at) l.buf tail in
    let kept : length after ≡ length l.buf = search rules in
    record {
      whole = omega (arith, p.whole, l.invariant.whole);
      within = omega (arith, p.fits, kept);
      same = kept ∙ l.invariant.same;
      read = piece-more _ _ _ l.buf l.at l.run l.invariant.read l.invariant.whole (omega arith) c.loop-at-test.true tail (omega arith) _ after step p kept (take-put_mid_more l.at _ step.filled l.buf tail l.invariant.within p.fits);
      count = search rules;
    }

pub returns-in_err-step-clause-refused : goal.returns-in_err-step-clause-refused
returns-in_err-step-clause-refused g c =
    let l = c.loop-at in
    let p = err_from_is_err_and c.from_residual.result c.from_residual.ensures.1 in
    rw (p.1, p.2) (piece-refused _ _ _ l.buf l.at l.run l.invariant.read l.invariant.whole (omega arith) c.loop-at-test.true _ (omega arith) _ _ c.in_err-step.ensures.refused)

pub returns-in_err-step-clause-left : goal.returns-in_err-step-clause-left
returns-in_err-step-clause-left g c =
    let l = c.loop-at in
    let p = err_from_is_err_and c.from_residual.result c.from_residual.ensures.1 in
    let tail = c.next_words_or_zeros.new.buf in
    let after = put_mid l.at (length l.buf - l.at) l.buf tail in
    let kept : length after ≡ length l.buf = search rules in
    let behind : length tail ≡ length l.buf - l.at = omega arith in
    let cleared : tail ≡ replicate (length l.buf - l.at) 0 = c.in_err-step.ensures.cleared ∙ ap (λ (n : ℕ). replicate n 0) (sym c.next_words_or_zeros.auto.buf ∙ behind) in
    let joined = put-behind l.at l.buf tail l.invariant.within behind kept ∙ ap (λ (xs : List ℕ). take l.at l.buf ++ xs) cleared in
    let fault = refused-count _ _ (run_view l.run) _ _ _ (ap (λ (n : ℕ). n / 8) (sym c.next_words_or_zeros.auto.buf ∙ behind)) c.in_err-step.ensures.refused in
    rw (p.1, p.2) (left-at c.args.run _ _ _ _ l.buf after l.at l.run _ l.invariant.same l.invariant.read l.invariant.whole l.invariant.within kept joined fault)

pub returns-clause-ok : goal.returns-clause-ok
returns-clause-ok g c =
    let l = c.loop-at in
    piece-end _ _ _ l.buf l.at l.run l.invariant.read l.invariant.whole (omega arith) l.invariant.within c.loop-at-test.false
