-- each slot so far comes before the next
use Rattle.std.proofs.Common.{ℕ, ◌+◌, ◌<◌, get_or}
use Rattle.capnp_source_layout.specs.Certificates.{Precedes, slot_at}
use Rattle.capnp_source_layout.proofs.checks.are_in_order.Given as goal

abbrev pub invariant-loop-place : goal.invariant-loop-place
invariant-loop-place l = (k : ℕ) → k + 1 < l.place → Precedes (slot_at l.slots (get_or l.order k 0)) (slot_at l.slots (get_or l.order (k + 1) 0))
