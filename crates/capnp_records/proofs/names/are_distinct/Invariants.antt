use Rattle.std.proofs.Common.{◌≡◌, ℕ, List, map, take, drop}
use Rattle.std.specs.List.{list_any}
use Rattle.std.specs.Str.{bytes_eq}
use Rattle.capnp_model.specs.Accepted.{are_distinct}
use Rattle.capnp_records.proofs.Forward.{forward}
use Rattle.capnp_records.proofs.names.are_distinct.Given as goal

-- the rest decides, and what is seen are the names so far
abbrev pub invariant-loop-name : goal.invariant-loop-name
invariant-loop-name l = record {
  decides : forward bytes_eq (map (λ s. s.now) (take l.name-index l.fn.names)) (map (λ s. s.now) (drop l.name-index l.fn.names)) ≡ are_distinct (map (λ s. s.now) l.fn.names);
  seen : (q : List ℕ) → list_any (λ k. bytes_eq q k.now) l.seen.keys ≡ list_any (bytes_eq q) (map (λ s. s.now) (take l.name-index l.fn.names));
}
