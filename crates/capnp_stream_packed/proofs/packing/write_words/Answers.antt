use Rattle.std.proofs.Common.{◌≡◌, length, sym, ◌∙◌, arith, rules}
use Rattle.std.proofs.lemmas.Bool.{eqb-true}
use Rattle.std.proofs.lemmas.Result.{err_from_is_err_and}
use Rattle.capnp_stream_packed.proofs.RunLemmas.{no-words}
use Rattle.capnp_stream_packed.proofs.lemmas.WriteLemmas.{WritesUpTo-trans, words-cut, words-refusal, words-written}
use Rattle.capnp_stream_packed.proofs.packing.write_words.Goals as goal

pub loop-left-preserved : goal.loop-left-preserved
loop-left-preserved g c =
    let l = c.loop-left in
    record { whole = search rules; written = WritesUpTo-trans _ _ _ _ _ _ _ _ l.invariant.written _ c.in_ok-left.ensures.ok; count = search rules }

pub returns-in_err-left-clause-err : goal.returns-in_err-left-clause-err
returns-in_err-left-clause-err g c =
    let l = c.loop-left in
    let p = err_from_is_err_and c.from_residual.result c.from_residual.ensures.1 in
    rw p.1 (words-cut _ _ _ _ _ _ _ (g.W.Write.room l.out) l.invariant.written c.in_err-left.ensures.err)

pub returns-in_err-left-clause-refusal : goal.returns-in_err-left-clause-refusal
returns-in_err-left-clause-refusal g c =
    let l = c.loop-left in
    let p = err_from_is_err_and c.from_residual.result c.from_residual.ensures.1 in
    rw (p.1, p.2) (words-refusal _ _ _ _ (g.W.Write.contents l.out) _ _ (g.W.Write.room l.out) l.invariant.written g.W.Write.may_grow c.in_err-left.field-0.0.kind c.in_err-left.ensures.refusal)

pub returns-clause-ok : goal.returns-clause-ok
returns-clause-ok g c =
    let left = c.loop-left.left.now in
    let none : length left ≡ 0 = eqb-true (length left) 0 (sym c.is_empty.ensures ∙ c.loop-left-test.false) in
    (words-written _ _ _ _ (g.W.Write.contents c.args.out.now) _ _ (g.W.Write.room c.args.out.now) c.loop-left.invariant.written (no-words left (omega arith))).0

pub returns-clause-falls : goal.returns-clause-falls
returns-clause-falls g c =
    let left = c.loop-left.left.now in
    let none : length left ≡ 0 = eqb-true (length left) 0 (sym c.is_empty.ensures ∙ c.loop-left-test.false) in
    (words-written _ _ _ _ (g.W.Write.contents c.args.out.now) _ _ (g.W.Write.room c.args.out.now) c.loop-left.invariant.written (no-words left (omega arith))).1
