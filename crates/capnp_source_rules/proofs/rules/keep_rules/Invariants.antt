-- the nodes so far
use Rattle.std.specs.List.{AllWithin}
use Rattle.capnp_source_rules.specs.Rules.{KeepsRules}
use Rattle.capnp_source_rules.proofs.rules.keep_rules.Given as goal

abbrev pub invariant-loop-node : goal.invariant-loop-node
invariant-loop-node l = AllWithin KeepsRules l.nodes 0 l.node-index
