use Rattle.std.proofs.Common.{◌≡◌, ◌≤◌, ℕ, nat_eq, map, length, drop}
use Rattle.std.specs.HashMap.{get}
use Rattle.capnp_records.specs.NodeViews.{node_of}
use Rattle.capnp_records.specs.Uses.{holder_place}
use Rattle.capnp_records.proofs.groups.holders_of.Given as goal

abbrev pub invariant-loop-left : goal.invariant-loop-left
invariant-loop-left l = record {
  inside : l.left ≤ length l.fn.nodes;
  places : (id : ℕ) → get nat_eq l.holders id ≡ holder_place id l.left (map node_of (drop l.left l.fn.nodes));
}

abbrev pub decreases-loop-left : goal.decreases-loop-left
decreases-loop-left l = l.left
