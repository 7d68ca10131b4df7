-- the rest decides
use Rattle.std.proofs.Common.{◌≡◌, not, map, length}
use Rattle.std.specs.List.{list_all}
use Rattle.capnp_model.specs.Accepted.{is_empty_name}
use Rattle.capnp_records.proofs.names.are_named.Given as goal

abbrev pub invariant-loop-rest : goal.invariant-loop-rest
invariant-loop-rest l = list_all (λ m. not (is_empty_name m)) (map (λ s. s.now) l.rest) ≡ list_all (λ m. not (is_empty_name m)) (map (λ s. s.now) l.fn.names)

abbrev pub decreases-loop-rest : goal.decreases-loop-rest
decreases-loop-rest l = length l.rest
