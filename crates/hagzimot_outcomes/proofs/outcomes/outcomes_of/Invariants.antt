-- the replies so far are kept
use Rattle.std.proofs.Common.{◌≡◌, map, take}
use Rattle.hagzimot_outcomes.specs.Outcomes.{reply_told, told_each}
use Rattle.hagzimot_outcomes.proofs.outcomes.outcomes_of.Given as goal

abbrev pub invariant-loop-reply : goal.invariant-loop-reply
invariant-loop-reply l = map reply_told l.calls.items ≡ told_each (take l.reply-index l.replies)
