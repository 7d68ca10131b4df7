use Rattle.std.proofs.Common.{refl, rules}
use Rattle.std.proofs.lemmas.Result.{err_from_is_err_and}
use Rattle.capnp_stream_packed.proofs.PartLemmas.{tagged-start, spread-more, spread-refused}
use Rattle.capnp_stream_packed.proofs.unpacking.tagged_word.Goals as goal

pub loop-i-init : goal.loop-i-init
loop-i-init g c = record { whole = refl; read = tagged-start c.args.tag _; count = refl }

pub loop-i-preserved : goal.loop-i-preserved
loop-i-preserved g c =
    let l = c.loop-i in
    record {
      whole = search rules;
      read = spread-more _ _ _ l.word 8 l.i l.marks l.invariant.read _ c.in_ok-word.field-0 c.loop-i-test.true l.invariant.whole c.in_ok-word.ensures.byte;
      count = search rules;
    }

pub returns-in_err-word-clause-refused : goal.returns-in_err-word-clause-refused
returns-in_err-word-clause-refused g c =
    let l = c.loop-i in
    let p = err_from_is_err_and c.from_residual.result c.from_residual.ensures.1 in
    rw (p.1, p.2) (spread-refused _ _ _ l.word 8 l.i l.marks l.invariant.read _ _ c.loop-i-test.true c.in_err-word.ensures.refused)
