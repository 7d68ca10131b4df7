-- as many are told as were passed
use Rattle.std.proofs.Common.{◌≡◌, ◌+◌, ◌≤◌, length}
use Rattle.std.specs.Prelude.{All}
use Rattle.capnp_source_syntax.proofs.source_file.mistakes_in.Given as goal

abbrev pub invariant-loop-left : goal.invariant-loop-left
invariant-loop-left l = record {
  inside : All (λ m. m.offset ≤ length l.text) l.told.items;
  count : length l.told.items + length l.left ≡ length l.mistakes;
}

abbrev pub decreases-loop-left : goal.decreases-loop-left
decreases-loop-left l = length l.left
