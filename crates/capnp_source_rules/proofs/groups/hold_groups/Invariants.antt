-- the nodes so far
use Rattle.std.proofs.Common.{◌≡◌, Some, nat_eq, All}
use Rattle.std.specs.HashMap.{get}
use Rattle.std.specs.List.{AllWithin}
use Rattle.capnp_source_nodes.specs.declared.nodes.Node.{Node}
use Rattle.capnp_source_rules.specs.Groups.{groups_of_body, home_of_groups}
use Rattle.capnp_source_rules.proofs.groups.hold_groups.Given as goal

abbrev pub invariant-loop-node : goal.invariant-loop-node
invariant-loop-node l = AllWithin (λ (n : Node). All (λ g. get nat_eq l.homes g ≡ Some (home_of_groups n)) (groups_of_body n.body)) l.nodes 0 l.node-index
