use Rattle.std.proofs.Common.{map, sym, ◌∙◌, arith}
use Rattle.capnp_records.specs.NodeViews.{node_of}
use Rattle.capnp_records.specs.Listed.{listed}
use Rattle.capnp_records.proofs.Breaks.{rule_kept, rule_broken}
use Rattle.capnp_records.proofs.check.check.Goals as goal

pub loop-rule-preserved : goal.loop-rule-preserved
loop-rule-preserved c =
    sym (rule_kept (map node_of c.args.nodes.records.now) c.loop-rule.rule (omega (arith, c.loop-rule-test.true)) (sym (c.in_ok-node.ensures) ∙ c.in_default.is))
    ∙ c.loop-rule.invariant

pub returns-in-Some-clause-refused : goal.returns-in-Some-clause-refused
returns-in-Some-clause-refused c =
    sym c.loop-rule.invariant
    ∙ rule_broken (listed c.args.nodes) c.loop-rule.rule c.in-Some.node (omega (arith, c.loop-rule-test.true)) (sym (c.in_ok-node.ensures) ∙ c.in-Some.is)

pub returns-clause-refused : goal.returns-clause-refused
returns-clause-refused c = tt
