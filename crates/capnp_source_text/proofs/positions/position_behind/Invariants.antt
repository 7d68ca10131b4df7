-- line and column are those behind the bytes that were passed
use Rattle.std.proofs.Common.{◌≡◌, take, ◌≤◌}
use Rattle.std.specs.Prelude.{count_by, not, ◌==◌}
use Rattle.std.specs.List.{suffix_len}
use Rattle.capnp_source_text.specs.Positions.{line_feed}
use Rattle.capnp_source_text.proofs.positions.position_behind.Given as goal

abbrev pub invariant-loop-byte : goal.invariant-loop-byte
invariant-loop-byte l = record {
  lines : l.line ≡ count_by (λ b. b == line_feed) (take l.byte-index l.byte-items);
  columns : l.column ≡ suffix_len (λ b. not (b == line_feed)) (take l.byte-index l.byte-items);
  few_lines : l.line ≤ l.byte-index;
  few_columns : l.column ≤ l.byte-index;
}
