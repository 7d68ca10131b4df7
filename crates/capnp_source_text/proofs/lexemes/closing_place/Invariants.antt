-- the quote that ends what is left ends the whole
use Rattle.std.proofs.Common.{◌≡◌, ◌+◌, false, length}
use Rattle.capnp_source_text.specs.Lexemes.{closing_place}
use Rattle.capnp_source_text.proofs.lexemes.closing_place.Given as goal

abbrev pub invariant-loop-left : goal.invariant-loop-left
invariant-loop-left l = record {
  ends : closing_place l.passed l.is_escaped l.left ≡ closing_place 0 false l.bytes;
  whole : l.passed + length l.left ≡ length l.bytes;
}

abbrev pub decreases-loop-left : goal.decreases-loop-left
decreases-loop-left l = length l.left
