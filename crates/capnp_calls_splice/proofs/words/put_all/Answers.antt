-- One number more.
use Rattle.std.proofs.Common.{ℕ, sym, subst, ◌∙◌}
use Rattle.capnp_calls_splice.specs.DataWords.{AreData}
use Rattle.capnp_calls_splice.proofs.lemmas.DataWords.{next_put}
use Rattle.capnp_calls_splice.proofs.words.put_all.Goals as goal

pub loop-set-preserved : goal.loop-set-preserved
loop-set-preserved c =
    let l = c.loop-set in
    record {
      section = λ section is. subst (λ (s : ℕ). AreData c.put.new.slice s) (sym (next_put c.args.sets.now l.set-index c.set-item.result section c.loop-set-test.true c.set-item.is)) (c.put.ensures.words _ (l.invariant.section section is));
      len = c.put.ensures.len ∙ l.invariant.len;
    }
