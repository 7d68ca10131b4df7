use Rattle.std.proofs.Common.{◌≡◌, ◌-◌, ◌<◌, ◌≤◌, ◌^◌, ℕ, map, length, get_or}
use Rattle.capnp_records.specs.NodeViews.{field_of}
use Rattle.capnp_values_queries.proofs.NameSearch.{rank}
use Rattle.capnp_values_queries.proofs.names.place_of.Given as goal

-- names before the range are below the name, those behind it above
abbrev pub invariant-loop-low : goal.invariant-loop-low
invariant-loop-low l = record {
  order : l.low ≤ l.high;
  inside : l.high ≤ length l.fn.by_name;
  below : (k : ℕ) → k < l.low → rank (map field_of l.fn.fields) l.fn.name (get_or l.fn.by_name k 0) ≡ 0;
  above : (k : ℕ) → l.high ≤ k → k < length l.fn.by_name → rank (map field_of l.fn.fields) l.fn.name (get_or l.fn.by_name k 0) ≡ 2;
  few : (digits : ℕ) → length l.fn.by_name < 2 ^ digits → (l.names.count ≤ digits) × (l.high - l.low < 2 ^ (digits - l.names.count));
  begun : l.names.count ≡ 0 → (l.low ≡ 0) × (l.high ≡ length l.fn.by_name);
}

abbrev pub decreases-loop-low : goal.decreases-loop-low
decreases-loop-low l = l.high - l.low
