use Rattle.std.proofs.Common.{◌≡◌, ◌&&◌, ℕ, nat_lt, take, drop, get_or}
use Rattle.std.specs.List.{list_all, list_any}
use Rattle.capnp_model.specs.Accepted.{are_once}
use Rattle.capnp_records.proofs.Forward.{forward}
use Rattle.capnp_records.proofs.Members.{same_member}
use Rattle.capnp_records.proofs.unions.are_once_below.Given as goal

-- the rest decides, and what is marked are the members so far
abbrev pub invariant-loop-member : goal.invariant-loop-member
invariant-loop-member l = record {
  decides : (list_all (λ m. nat_lt m l.fn.count) (drop l.member-index l.fn.members) && forward same_member (take l.member-index l.fn.members) (drop l.member-index l.fn.members)) ≡ (list_all (λ m. nat_lt m l.fn.count) l.fn.members && are_once l.fn.members);
  seen : (k : ℕ) → nat_lt 0 (get_or l.seen.items k 0) ≡ list_any (λ d. same_member d k) (take l.member-index l.fn.members);
}
