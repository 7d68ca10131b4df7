use Rattle.std.proofs.Common.{rules}
use Rattle.capnp_calls.specs.CallViews.{step_view}
use Rattle.hagzimot_commands.proofs.Missteps.{no_field_misses}
use Rattle.hagzimot_commands.proofs.paths.step_from.Goals as goal

pub returns-in_ok-no_field-in-None-clause-err : goal.returns-in_ok-no_field-in-None-clause-err
returns-in_ok-no_field-in-None-clause-err c =
    no_field_misses c.args.nodes.now c.args.at (step_view c.args.step.now) c.in-Some.node.now c.as_str-name.result.now c.in_ok-no_field-in-None.field-0 (search rules) (search rules) (search rules) (search rules)
