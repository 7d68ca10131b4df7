use Rattle.std.proofs.Common.{rules, arith}
use Rattle.std.proofs.lemmas.Result.{err_from_is_err_and}
use Rattle.capnp_stream_packed.proofs.PartLemmas.{taken-more, taken-refused, taken-end}
use Rattle.capnp_stream_packed.proofs.unpacking.verbatim_word.Goals as goal

pub loop-i-preserved : goal.loop-i-preserved
loop-i-preserved g c =
    let l = c.loop-i in
    record {
      whole = search rules;
      read = taken-more _ _ _ l.word 8 l.i l.invariant.read _ c.in_ok-word.field-0 c.loop-i-test.true l.invariant.whole c.in_ok-word.ensures.byte;
      count = search rules;
    }

pub returns-in_err-word-clause-refused : goal.returns-in_err-word-clause-refused
returns-in_err-word-clause-refused g c =
    let l = c.loop-i in
    let p = err_from_is_err_and c.from_residual.result c.from_residual.ensures.1 in
    rw (p.1, p.2) (taken-refused _ _ _ l.word 8 l.i l.invariant.read _ _ c.loop-i-test.true c.in_err-word.ensures.refused)

pub returns-clause-word : goal.returns-clause-word
returns-clause-word g c = taken-end _ _ _ c.loop-i.word 8 c.loop-i.i c.loop-i.invariant.read (omega arith) c.loop-i.invariant.whole
