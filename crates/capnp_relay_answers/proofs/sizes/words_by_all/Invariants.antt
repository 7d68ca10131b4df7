-- At most what the calls so far put.
use Rattle.std.proofs.Common.{◌≤◌, ◌^◌, take}
use Rattle.capnp_relay_answers.specs.Sizes.{IsSumTold}
use Rattle.capnp_relay_answers.proofs.SizeSums.{by_resolved}
use Rattle.capnp_relay_answers.proofs.sizes.words_by_all.Given as goal

abbrev pub invariant-loop-call : goal.invariant-loop-call
invariant-loop-call l = IsSumTold (by_resolved (take l.call-index l.calls)) l.sum × (l.sum ≤ 2 ^ 29)
