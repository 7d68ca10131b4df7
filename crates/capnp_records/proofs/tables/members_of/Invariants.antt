use Rattle.std.proofs.Common.{◌≡◌, ◌<◌, ◌≤◌, ℕ, map, length, drop, get_or}
use Rattle.capnp_records.specs.NodeViews.{field_of}
use Rattle.capnp_records.specs.Tables.{place_from}
use Rattle.capnp_records.proofs.tables.members_of.Given as goal

-- the places are those among the fields passed
abbrev pub invariant-loop-left : goal.invariant-loop-left
invariant-loop-left l = record {
  inside : l.left ≤ length l.fn.fields;
  len : length l.members.items ≡ l.fn.count;
  places : (d : ℕ) → d < l.fn.count → get_or l.members.items d 0 ≡ place_from d l.left (map field_of (drop l.left l.fn.fields));
}

abbrev pub decreases-loop-left : goal.decreases-loop-left
decreases-loop-left l = l.left
