-- what is found is the first renaming from here on
use Rattle.std.proofs.Common.{◌≤◌, map, drop, length}
use Rattle.capnp_calls_versions.specs.Renamings.{renaming_of, FindsNewer, FindsOlder}
use Rattle.capnp_calls_versions.proofs.names.Names.new.Given as goal

abbrev pub invariant-loop-left : goal.invariant-loop-left
invariant-loop-left l = record {
  inside : l.left ≤ length l.list;
  newer : FindsNewer (map renaming_of (drop l.left l.list)) l.by_older.entries;
  older : FindsOlder (map renaming_of (drop l.left l.list)) l.by_newer.entries;
}

abbrev pub decreases-loop-left : goal.decreases-loop-left
decreases-loop-left l = l.left
