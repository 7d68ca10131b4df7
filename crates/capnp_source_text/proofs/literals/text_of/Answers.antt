use Rattle.std.proofs.Common.{◌≡◌, drop, is_ok, true, false, refl, ap, sym, arith}
use Rattle.std.proofs.ResultArms.{chosen}
use Rattle.std.proofs.lemmas.Grind.{common_steps}
use Rattle.capnp_source_text.specs.Literals.{is_empty, piece_of}
use Rattle.capnp_source_text.proofs.Pieces.{tail, goes_on, ends_here}
use Rattle.capnp_source_text.proofs.literals.text_of.Goals as goal

-- one more piece stands behind what was made
pub loop-at-preserved : goal.loop-at-preserved
loop-at-preserved c =
    let unended : is_empty (drop c.loop-at.at c.args.inside.now) ≡ false = grind (arith, common_steps) in
    record {
      within = grind (arith, common_steps);
      goes_on = goes_on is_empty piece_of c.args.inside.now _ _ _ _ c.in-Some.piece c.loop-at.invariant.goes_on refl unended (rw (← tail c.loop-at.at c.args.inside.now) (sym c.in-Some.ensures.value)) (chosen _ _ _ _ c.push.ensures.items (ap is_ok c.in_ok-push.was));
    }

-- nothing is left
pub returns-clause-ok : goal.returns-clause-ok
returns-clause-ok c =
    let ended : is_empty (drop c.loop-at.at c.args.inside.now) ≡ true = grind (arith, common_steps) in
    ends_here is_empty piece_of c.args.inside.now _ _ _ c.loop-at.invariant.goes_on refl ended
