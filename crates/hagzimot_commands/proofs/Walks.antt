-- Paths, step by step.
use Rattle.std.proofs.Common.{◌≡◌, List, [], ◌∷◌, Option, Some, None, map, length, refl, ap, sym, subst, arith}
use Rattle.capnp_model.specs.Chains.{◌>>=◌}
use Rattle.capnp_model.specs.Calls.{Step as ModelStep}
use Rattle.capnp_calls.specs.CallViews.{step_view}
use Rattle.capnp_calls.specs.declared.call.Step.{Step}
use Rattle.capnp_records.specs.declared.node.NodeRecord.{NodeRecord}
use Rattle.hagzimot_commands.specs.declared.paths.Landing.{Landing}
use Rattle.hagzimot_commands.specs.declared.paths.Misstep.{Misstep}
use Rattle.hagzimot_commands.specs.Paths.{stepped, walked, IsMisstep, Misses}

module _ (nodes : List NodeRecord) (at : Landing) (s : ModelStep) (rest : List ModelStep) where
  pub walked_on : (to : Landing) → stepped nodes at s ≡ Some to → walked nodes at (s ∷ rest) ≡ walked nodes to rest
  unfolding walked
  walked_on to leads = ap (λ o. o >>= λ next. walked nodes next rest) leads

  pub misses_on : (to : Landing) (e : Misstep) → stepped nodes at s ≡ Some to → Misses nodes to rest e → Misses nodes at (s ∷ rest) e
  unfolding Misses
  misses_on to e leads misses = subst (λ (o : Option Landing). elim o as (λ x. Type 0) [ None ↦ IsMisstep nodes at s e | Some next ↦ Misses nodes next rest e ]) (sym leads) misses

  pub misses_here : (e : Misstep) → stepped nodes at s ≡ None → IsMisstep nodes at s e → Misses nodes at (s ∷ rest) e
  unfolding Misses
  misses_here e gone misses = subst (λ (o : Option Landing). elim o as (λ x. Type 0) [ None ↦ IsMisstep nodes at s e | Some next ↦ Misses nodes next rest e ]) (sym gone) misses

pub walked_whole : (nodes : List NodeRecord) (at : Landing) (left : List Step) → length left ≡ 0 → walked nodes at (map step_view left) ≡ Some at
unfolding walked
walked_whole nodes at [] none = refl
walked_whole nodes at (s ∷ left) none = absurd (omega (arith, none))

-- a path with a misstep leads nowhere
pub misses_none : (nodes : List NodeRecord) (at : Landing) (path : List ModelStep) (e : Misstep) → Misses nodes at path e → walked nodes at path ≡ None
unfolding walked Misses
misses_none nodes at [] e misses = absurd misses
misses_none nodes at (s ∷ path) e misses = by (stepped nodes at s) (λ next. misses_none nodes next path e) misses
  where
    by : (o : Option Landing) → ((next : Landing) → Misses nodes next path e → walked nodes next path ≡ None) → elim o as (λ x. Type 0) [ None ↦ IsMisstep nodes at s e | Some next ↦ Misses nodes next path e ] → (o >>= λ next. walked nodes next path) ≡ None
    by None rest h = refl
    by (Some next) rest h = rest next h
