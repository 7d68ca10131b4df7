-- The rules that all nodes of a schema keep.
use Rattle.std.specs.Prelude.{List, All}
use Rattle.capnp_source_nodes.specs.declared.nodes.Node.{Node}
use Rattle.capnp_source_rules.specs.Groups.{AreGoodGroups}
use Rattle.capnp_source_rules.specs.Rules.{KeepsRules}

pub record AreGoodNodes (nodes : List Node) : Type 0 where
  pub each : All KeepsRules nodes
  pub groups : AreGoodGroups nodes
