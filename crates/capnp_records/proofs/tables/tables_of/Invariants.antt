use Rattle.std.proofs.Common.{◌≡◌, map, take}
use Rattle.capnp_records.specs.NodeViews.{node_of}
use Rattle.capnp_records.specs.Tables.{members_in, others_in, AreNodesByName}
use Rattle.capnp_records.proofs.tables.tables_of.Given as goal

abbrev pub invariant-loop-node : goal.invariant-loop-node
invariant-loop-node l = record {
  members : map (λ t. t.members.items) l.tables.items ≡ map (λ n. members_in n.kind) (map node_of (take l.node-index l.fn.nodes));
  others : map (λ t. t.others.items) l.tables.items ≡ map (λ n. others_in n.kind) (map node_of (take l.node-index l.fn.nodes));
  by_name : AreNodesByName (map node_of (take l.node-index l.fn.nodes)) l.tables.items;
}
