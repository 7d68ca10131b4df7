use Rattle.std.proofs.Common.{map, ap, sym, ◌∙◌, subst}
use Rattle.capnp_calls.specs.CallViews.{step_view}
use Rattle.hagzimot_commands.specs.Paths.{walked, Misses}
use Rattle.hagzimot_commands.proofs.Walks.{walked_on, misses_on, misses_here, walked_whole}
use Rattle.hagzimot_commands.proofs.paths.landing_from.Goals as goal

pub returns-in-Err-clause-err : goal.returns-in-Err-clause-err
returns-in-Err-clause-err c =
    let nodes = c.args.nodes.now in
    let at = c.loop-step.at in
    let is = ap (map step_view) c.in-Some.ensures.cases.0 in
    let here = misses_here nodes at (step_view c.in-Some.step.now) (map step_view c.in-Some.behind.now) c.in-Err.e c.in-Err.ensures.none c.in-Err.ensures.err in
    c.loop-step.invariant.misses c.in-Err.e (subst (λ p. Misses nodes at p c.in-Err.e) (sym is) here)

pub loop-step-preserved : goal.loop-step-preserved
loop-step-preserved c =
    let nodes = c.args.nodes.now in
    let at = c.loop-step.at in
    let s = step_view c.in-Some.step.now in
    let rest = map step_view c.in-Some.behind.now in
    let to = c.in-Ok.to in
    let is = ap (map step_view) c.in-Some.ensures.cases.0 in
    record {
      leads = sym (walked_on nodes at s rest to c.in-Ok.ensures.ok) ∙ ap (walked nodes at) (sym is) ∙ c.loop-step.invariant.leads;
      misses = λ e misses. c.loop-step.invariant.misses e (subst (λ p. Misses nodes at p e) (sym is) (misses_on nodes at s rest to e c.in-Ok.ensures.ok misses));
    }

pub returns-clause-ok : goal.returns-clause-ok
returns-clause-ok c = sym c.loop-step.invariant.leads ∙ walked_whole c.args.nodes.now c.loop-step.at c.loop-step.left.now c.in_default.ensures.cases
