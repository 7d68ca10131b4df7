use Rattle.std.proofs.Common.{is_ok, refl, ap, sym, arith}
use Rattle.std.proofs.ResultArms.{chosen}
use Rattle.capnp_source_text.proofs.Following.{goes_on, before_here, inside_more}
use Rattle.capnp_source_text.proofs.tokens.tokens.Goals as goal

-- one more token stands behind those that were found
pub loop-start-preserved : goal.loop-start-preserved
loop-start-preserved c =
    let pushed = chosen _ _ _ _ c.push.ensures.items (ap is_ok c.in_ok-push.was) in
    record {
      within = omega arith;
      inside = inside_more c.args.text.now _ _ c.in-Some.token c.loop-start.invariant.inside c.in-Some.ensures.within.0 pushed;
      goes_on = goes_on c.args.text.now _ _ _ _ c.in-Some.token c.loop-start.invariant.goes_on (sym c.in-Some.ensures.value) c.next_start-start-in-loop-start.ensures.value pushed;
    }

-- no token is left
pub returns-clause-ok : goal.returns-clause-ok
returns-clause-ok c = before_here c.args.text.now _ _ _ c.loop-start.invariant.goes_on (omega arith)

-- the tokens that were found lead to where none begins
pub returns-in_default-clause-err : goal.returns-in_default-clause-err
returns-in_default-clause-err c = (omega arith, cc, (c.loop-start.found.items, before_here c.args.text.now _ _ _ c.loop-start.invariant.goes_on refl))
