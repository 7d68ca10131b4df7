-- what is left ends where the whole does
use Rattle.std.proofs.Common.{◌≡◌, ◌+◌, false, length}
use Rattle.capnp_source_text.specs.Lexemes.{blanks_end}
use Rattle.capnp_source_text.proofs.lexemes.blank_length.Given as goal

abbrev pub invariant-loop-left : goal.invariant-loop-left
invariant-loop-left l = record {
  ends : blanks_end l.passed l.in_comment l.left ≡ blanks_end 0 false l.text;
  whole : l.passed + length l.left ≡ length l.text;
}

abbrev pub decreases-loop-left : goal.decreases-loop-left
decreases-loop-left l = length l.left
