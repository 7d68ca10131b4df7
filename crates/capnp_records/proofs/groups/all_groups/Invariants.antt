use Rattle.std.proofs.Common.{◌≡◌, map, take}
use Rattle.std.specs.List.{flat_map}
use Rattle.capnp_model.specs.Accepted.{groups_used}
use Rattle.capnp_records.specs.NodeViews.{node_of}
use Rattle.capnp_records.proofs.groups.all_groups.Given as goal

abbrev pub invariant-loop-node : goal.invariant-loop-node
invariant-loop-node l = l.groups.items ≡ flat_map groups_used (map node_of (take l.node-index l.nodes))
