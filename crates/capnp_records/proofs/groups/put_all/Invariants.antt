use Rattle.std.proofs.Common.{◌≡◌, ◌==◌, ℕ, nat_eq, take, if◌then◌else◌, Some}
use Rattle.std.specs.HashMap.{get}
use Rattle.std.specs.List.{list_any}
use Rattle.capnp_records.proofs.groups.put_all.Given as goal

abbrev pub invariant-loop-group : goal.invariant-loop-group
invariant-loop-group l = (id : ℕ) → get nat_eq l.holders id ≡ (if list_any (λ g. g == id) (take l.group-index l.fn.groups) then Some l.fn.place else get nat_eq l.fn.holders id)
