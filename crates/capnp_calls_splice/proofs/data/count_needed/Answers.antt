-- One word fewer.
use Rattle.std.proofs.Common.{sym, ◌∙◌, arith}
use Rattle.capnp_calls_splice.proofs.lemmas.DataWords.{passes_zero, meets_some}
use Rattle.capnp_calls_splice.proofs.data.count_needed.Goals as goal

pub loop-count-preserved : goal.loop-count-preserved
loop-count-preserved c =
    let l = c.loop-count in
    record {
      needed = λ section is.
          let so = l.invariant.needed section is in
          let less = passes_zero c.args.slice.now l.count c.from_le_bytes.result section is (omega arith) l.invariant.most c.from_le_bytes.ensures (grind arith) so.0 in
          (less.0, so.1 ∙ less.1);
      most = omega arith;
    }

pub returns-else-from_le_bytes-eq0-clause-needed : goal.returns-else-from_le_bytes-eq0-clause-needed
returns-else-from_le_bytes-eq0-clause-needed c = λ section is.
    let l = c.loop-count in
    sym (meets_some c.args.slice.now l.count c.from_le_bytes.result section is (omega arith) l.invariant.most c.from_le_bytes.ensures (λ e. grind arith)) ∙ sym (l.invariant.needed section is).1
