use Rattle.std.proofs.Common.{◌≡◌, ◌==◌, ℕ, nat_eq, take}
use Rattle.std.specs.HashMap.{get}
use Rattle.std.specs.List.{count_by}
use Rattle.capnp_records.specs.Uses.{once_in}
use Rattle.capnp_records.proofs.groups.once_of.Given as goal

abbrev pub invariant-loop-group : goal.invariant-loop-group
invariant-loop-group l = (id : ℕ) → get nat_eq l.once id ≡ once_in (count_by (λ g. g == id) (take l.group-index l.fn.groups))
