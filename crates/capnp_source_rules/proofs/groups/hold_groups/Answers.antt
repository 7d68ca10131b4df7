-- one node more
use Rattle.std.proofs.Common.{◌≡◌, Some, nat_eq, length, All, arith}
use Rattle.std.specs.HashMap.{get}
use Rattle.std.proofs.lemmas.List.Elements.{AllWithin-more, AllWithin-upto, All-from_all_within, at_read}
use Rattle.capnp_source_nodes.specs.declared.nodes.Node.{Node}
use Rattle.capnp_source_rules.specs.Groups.{groups_of_body, home_of_groups}
use Rattle.capnp_source_rules.proofs.groups.hold_groups.Goals as goal

pub loop-node-preserved : goal.loop-node-preserved
loop-node-preserved c =
    let homes = c.args.homes.now in
    let nodes = c.args.nodes.now in
    let i = c.loop-node.node-index in
    AllWithin-more (λ (n : Node). All (λ g. get nat_eq homes g ≡ Some (home_of_groups n)) (groups_of_body n.body)) nodes 0 i c.loop-node.invariant
    (at_read nodes (λ (n : Node). All (λ g. get nat_eq homes g ≡ Some (home_of_groups n)) (groups_of_body n.body)) i c.node-item.result c.loop-node-test.true c.node-item.is (c.holds_groups.ensures c.if-not-holds_groups.false))

pub returns : goal.returns
returns c is =
    let homes = c.args.homes.now in
    let nodes = c.args.nodes.now in
    All-from_all_within (λ (n : Node). All (λ g. get nat_eq homes g ≡ Some (home_of_groups n)) (groups_of_body n.body)) nodes
    (AllWithin-upto (λ (n : Node). All (λ g. get nat_eq homes g ≡ Some (home_of_groups n)) (groups_of_body n.body)) nodes 0 c.loop-node.node-index (length nodes) (omega arith) c.loop-node.invariant)
