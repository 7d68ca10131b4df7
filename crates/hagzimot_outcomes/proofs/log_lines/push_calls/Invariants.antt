-- the calls so far are told
use Rattle.std.proofs.Common.{◌≡◌, ◌++◌, take}
use Rattle.hagzimot_outcomes.specs.Lines.{each_call_text}
use Rattle.hagzimot_outcomes.proofs.log_lines.push_calls.Given as goal

abbrev pub invariant-loop-call : goal.invariant-loop-call
invariant-loop-call l = l.line.items ≡ l.initial.line.items ++ each_call_text (take l.call-index l.calls)
