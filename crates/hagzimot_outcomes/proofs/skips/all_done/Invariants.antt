-- as many are told
use Rattle.std.proofs.Common.{◌≡◌, replicate}
use Rattle.hagzimot_outcomes.specs.declared.outcomes.CallOutcome.TheVariants as call
use Rattle.hagzimot_outcomes.proofs.skips.all_done.Given as goal

abbrev pub invariant-loop-call : goal.invariant-loop-call
invariant-loop-call l = l.calls.items ≡ replicate l._call call.Done
