-- the calls so far are told
use Rattle.std.proofs.Common.{◌≡◌, ◌++◌, codes, take}
use Rattle.std.specs.List.{flat_map}
use Rattle.hagzimot_outcomes.specs.Lines.{call_text, quoted}
use Rattle.hagzimot_outcomes.proofs.log_lines.push_others.Given as goal

abbrev pub invariant-loop-call : goal.invariant-loop-call
invariant-loop-call l = l.line.items ≡ l.initial.line.items ++ flat_map (λ c. codes "," ++ quoted (call_text c)) (take l.call-index l.calls)
