-- so many calls are told
use Rattle.std.proofs.Common.{◌≡◌, ◌++◌}
use Rattle.hagzimot_outcomes.specs.Lines.{done_text}
use Rattle.hagzimot_outcomes.proofs.log_lines.push_done.Given as goal

abbrev pub invariant-loop-call : goal.invariant-loop-call
invariant-loop-call l = l.line.items ≡ l.initial.line.items ++ done_text l._call
