-- each number so far has its place
use Rattle.std.proofs.Common.{ℕ, ◌≡◌, ◌<◌, length, get_or}
use Rattle.capnp_source_layout.proofs.checks.are_ranks.Given as goal

abbrev pub invariant-loop-number : goal.invariant-loop-number
invariant-loop-number l = (n : ℕ) → n < l.number → (get_or l.ranks n 0 < length l.order) × (get_or l.order (get_or l.ranks n 0) 0 ≡ n)
