use Rattle.std.proofs.Common.{◌≡◌, ℕ, Option, Some, position, refl, sym, ap, subst, ◌∙◌}
use Rattle.hagzimot_outcomes.specs.Counts.{CountsOne}
use Rattle.hagzimot_outcomes.specs.declared.refused_calls.KindCount.{KindCount}
use Rattle.hagzimot_outcomes.specs.declared.refused_calls.RefusedCalls.{RefusedCalls}
use Rattle.capnp_units.specs.contracts.kinds.ErrorKindPartialEq as kinds
use Rattle.hagzimot_outcomes.proofs.Counted.{counted_at}
use Rattle.hagzimot_outcomes.proofs.refused_calls.RefusedCalls.count.Goals as goal

pub returns-in-Some : goal.returns-in-Some
returns-in-Some c = rw (sym (c.in-Some.ensures ∙ ap (position (λ (k : KindCount). kinds.TheImpl.ghosts.eq k.kind c.args.kind)) c.deref.ensures.value))
    (counted_at c.args.self.now.kinds.items c.in-Some.place c.saturating_add.result c.index-known.result.now c.index-known.ensures c.saturating_add.ensures, refl)
