-- the names from here on are apart, and they are what is seen
use Rattle.std.proofs.Common.{◌≡◌, ◌≤◌, ◌==◌, ◌&&◌, true, ℕ, List, map, drop, length}
use Rattle.std.specs.List.{list_any}
use Rattle.std.specs.Str.{bytes_eq}
use Rattle.capnp_model.specs.Partners.{same_key, are_distinct_names}
use Rattle.capnp_calls_versions.specs.Renamings.{key_in}
use Rattle.capnp_calls_versions.proofs.renamings.are_apart.Given as goal

abbrev pub invariant-loop-left : goal.invariant-loop-left
invariant-loop-left l = record {
  inside : l.left ≤ length l.fn.list;
  apart : are_distinct_names (map (key_in l.fn.version) (drop l.left l.fn.list)) ≡ true;
  seen : (id : ℕ) (n : List ℕ) → list_any (λ k. id == k.0 && bytes_eq n k.1.now) l.seen.keys ≡ list_any (same_key (id, n)) (map (key_in l.fn.version) (drop l.left l.fn.list));
}

abbrev pub decreases-loop-left : goal.decreases-loop-left
decreases-loop-left l = l.left
