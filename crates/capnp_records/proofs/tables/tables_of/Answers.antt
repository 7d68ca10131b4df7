use Rattle.std.proofs.Common.{[], map, subst, take}
use Rattle.std.proofs.lemmas.List.{take_all}
use Rattle.capnp_model.specs.Schemas.{Node}
use Rattle.capnp_model.specs.Accepted.{is_short}
use Rattle.capnp_records.specs.NodeViews.{node_of}
use Rattle.capnp_records.specs.Tables.{members_in, others_in, AreNodesByName}
use Rattle.capnp_records.specs.declared.tables.FieldTables.{FieldTables}
use Rattle.capnp_records.proofs.lemmas.FieldPlaces.{all_at, same_length}
use Rattle.capnp_records.proofs.OneMore.{put_one_more}
use Rattle.capnp_records.proofs.ByName.{node_more}
use Rattle.capnp_records.proofs.tables.tables_of.Goals as goal

pub tables_of_node-requires : goal.tables_of_node-requires
tables_of_node-requires c = all_at node_of is_short c.args.nodes.now c.loop-node.node-index c.node-item.result c.loop-node-test.true c.node-item.is c.requires

pub loop-node-preserved : goal.loop-node-preserved
loop-node-preserved c =
    let nodes = c.args.nodes.now in
    let i = c.loop-node.node-index in
    let x = c.node-item.result in
    let now = c.loop-node.tables.items in
    let new = c.push.new.self.items in
    let t = c.in_ok-tables_of_node.field-0 in
    let long = same_length (λ (u : FieldTables). u.members.items) (λ (n : Node). members_in n.kind) now (map node_of (take i nodes)) c.loop-node.invariant.members in
    record {
      members = put_one_more node_of (λ n. members_in n.kind) (λ u. u.members.items) [] now new t nodes i x c.loop-node-test.true c.node-item.is c.loop-node.invariant.members c.in_ok-push.ensures.items c.in_ok-tables_of_node.ensures.members;
      others = put_one_more node_of (λ n. others_in n.kind) (λ u. u.others.items) [] now new t nodes i x c.loop-node-test.true c.node-item.is c.loop-node.invariant.others c.in_ok-push.ensures.items c.in_ok-tables_of_node.ensures.others;
      by_name = node_more nodes now new i x t c.loop-node-test.true c.node-item.is long c.in_ok-push.ensures.items c.loop-node.invariant.by_name c.in_ok-tables_of_node.ensures.by_name;
    }

pub returns-clause-by_name : goal.returns-clause-by_name
returns-clause-by_name c = subst (λ ns. AreNodesByName (map node_of ns) c.loop-node.tables.items) (take_all c.loop-node.node-index c.args.nodes.now c.loop-node-test.false) c.loop-node.invariant.by_name
