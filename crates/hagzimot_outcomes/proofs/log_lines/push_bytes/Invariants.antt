-- the bytes so far are told
use Rattle.std.proofs.Common.{◌≡◌, ◌++◌, take}
use Rattle.std.specs.List.{flat_map}
use Rattle.hagzimot_outcomes.specs.Lines.{byte_quoted}
use Rattle.hagzimot_outcomes.proofs.log_lines.push_bytes.Given as goal

abbrev pub invariant-loop-byte : goal.invariant-loop-byte
invariant-loop-byte l = l.line.items ≡ l.initial.line.items ++ flat_map byte_quoted (take l.byte-index l.text)
