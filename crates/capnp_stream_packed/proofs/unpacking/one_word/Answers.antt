use Rattle.std.proofs.Common.{◌≡◌, ◌+◌, ◌-◌, ◌/◌, ◌≤◌, ℕ, ◌++◌, length, drop, refl, ap, sym, arith, take_at, length-drop, length-append, length-take-le, ◌∙◌}
use Rattle.std.proofs.lemmas.Result.{err_from_is_err_and}
use Rattle.capnp_stream_packed.specs.Runs.{run_view}
use Rattle.capnp_stream_packed.proofs.ReadLemmas.{Reads-word, refused-count}
use Rattle.capnp_stream_packed.proofs.unpacking.one_word.Goals as goal

pub returns-clause-word : goal.returns-clause-word
returns-clause-word g c =
    let old = c.args.buf.now in
    let word = c.copy_from_slice.new.self in
    let room : 8 ≤ length old = omega (arith, c.requires.whole, c.requires.some) in
    let same : c.in_ok-next.next.word ≡ word = cc in
    let eight : length word ≡ 8 = omega (arith, length-take-le 8 old room) in
    let buf = word ++ drop 8 old in
    let whole : length buf ≡ length old = omega (arith, length-append word (drop 8 old), length-drop 8 old) in (
      Reads-word c.args.run (g.R.Read.remaining c.args.source.now) (g.R.Read.remaining c.next_word.new.source) buf c.in_ok-next.next.word c.in_ok-next.next.run (length old / 8 - 1)
          (omega (arith, whole, c.requires.whole)) (omega (arith, whole)) (ap (λ (n : ℕ). n / 8 - 1) (sym whole)) (take_at word (drop 8 old) 8 eight ∙ sym same) c.in_ok-next.ensures.word,
      refl,
    )

pub returns-in_err-next-clause-refused : goal.returns-in_err-next-clause-refused
returns-in_err-next-clause-refused g c =
    let p = err_from_is_err_and c.from_residual.result c.from_residual.ensures.1 in
    let old = c.args.buf.now in
    let count : length old / 8 - 1 + 1 ≡ length old / 8 = omega (arith, c.requires.whole, c.requires.some) in
    rw (p.1, p.2) (refused-count _ _ (run_view c.args.run) _ _ _ count c.in_err-next.ensures.refused)
