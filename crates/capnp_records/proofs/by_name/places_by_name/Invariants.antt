use Rattle.std.proofs.Common.{◌≡◌, map, take}
use Rattle.capnp_records.proofs.by_name.places_by_name.Given as goal

-- the places so far
abbrev pub invariant-loop-place : goal.invariant-loop-place
invariant-loop-place l = l.places.items ≡ map (λ n. n.1) (take l.place-index l.place-items)
