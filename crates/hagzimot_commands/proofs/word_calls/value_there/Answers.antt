use Rattle.std.proofs.Common.{rules, ◌≡◌, map, Some, inr, List, []}
use Rattle.std.proofs.lemmas.Result.{IfOk-weaker}
use Rattle.capnp_calls.specs.CallViews.{step_view}
use Rattle.hagzimot_commands.specs.declared.paths.Landing.TheVariants as landing
use Rattle.hagzimot_commands.specs.Paths.{struct_landing, walked}
use Rattle.hagzimot_commands.proofs.word_calls.value_there.Goals as goal

pub returns-then-branch : goal.returns-then-branch
returns-then-branch c =
    let ty = c.in-Ok-Value.ty in
    let some : c.args.floats.now ≡ [] → ⊥ = search rules in
    let leads : walked c.args.nodes.now (struct_landing c.args.root) (map step_view c.args.path.now) ≡ Some (landing.Value (record { list_count = 0; base = ty.base })) = search rules in
    IfOk-weaker c.float_value.result _ _ (λ v bits. record { base = ty.base; leads = leads; spells = inr bits }) (c.float_value.ensures c.args.floats.now some)
