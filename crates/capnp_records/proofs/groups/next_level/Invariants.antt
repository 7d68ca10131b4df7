use Rattle.std.proofs.Common.{map, take}
use Rattle.std.specs.List.{flat_map}
use Rattle.capnp_records.specs.NodeViews.{node_of}
use Rattle.capnp_records.specs.Levels.{groups_below, PassSame}
use Rattle.capnp_records.proofs.groups.next_level.Given as goal

abbrev pub invariant-loop-id : goal.invariant-loop-id
invariant-loop-id l = record {
  same : PassSame l.seen.keys l.next.items;
  below : PassSame l.next.items (flat_map (groups_below (map node_of l.fn.nodes.records.now)) (take l.id-index l.fn.ids));
}
