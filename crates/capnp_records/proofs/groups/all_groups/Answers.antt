use Rattle.std.proofs.Common.{[]}
use Rattle.capnp_model.specs.Accepted.{groups_used}
use Rattle.capnp_records.specs.NodeViews.{node_of}
use Rattle.capnp_records.proofs.OneMore.{flat_one_more}
use Rattle.capnp_records.proofs.groups.all_groups.Goals as goal

pub loop-node-preserved : goal.loop-node-preserved
loop-node-preserved c =
    flat_one_more groups_used node_of [] c.loop-node.groups.items c.push_groups_of.new.groups.items c.args.nodes.now c.loop-node.node-index c.node-item.result
    c.loop-node-test.true c.node-item.is c.loop-node.invariant c.in_ok-push_groups_of.ensures
