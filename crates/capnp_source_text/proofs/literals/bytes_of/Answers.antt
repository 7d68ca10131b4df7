use Rattle.std.proofs.Common.{is_ok, ap, sym, ◌∙◌, arith}
use Rattle.std.proofs.ResultArms.{chosen}
use Rattle.std.proofs.lemmas.Grind.{common_steps}
use Rattle.capnp_source_text.specs.Literals.{is_blank, pair_of}
use Rattle.capnp_source_text.proofs.Pieces.{tail, goes_on, ends_here}
use Rattle.capnp_source_text.proofs.literals.bytes_of.Goals as goal

-- one more pair of digits stands behind what was made
pub loop-pair-preserved : goal.loop-pair-preserved
loop-pair-preserved c = record {
  within = grind (arith, common_steps);
  goes_on = goes_on is_blank pair_of c.args.inside.now _ _ _ _ c.in-Some.pair c.loop-pair.invariant.goes_on (tail c.loop-pair.at c.args.inside.now) (sym c.is_blank-in-loop-pair.ensures ∙ c.loop-pair-test.true) (sym c.in-Some.ensures.value) (chosen _ _ _ _ c.push.ensures.items (ap is_ok c.in_ok-push.was));
}

-- only white space is left
pub returns-clause-ok : goal.returns-clause-ok
returns-clause-ok c = ends_here is_blank pair_of c.args.inside.now _ _ _ c.loop-pair.invariant.goes_on (tail c.loop-pair.at c.args.inside.now) (sym c.is_blank-in-loop-pair.ensures ∙ c.loop-pair-test.false)
