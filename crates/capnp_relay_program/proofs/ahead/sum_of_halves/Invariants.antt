use Rattle.std.proofs.Common.{◌≡◌, ◌+◌, ◌*◌, ◌%◌, ◌^◌, ◌≤◌, length, sum}
use Rattle.capnp_units.specs.Segments.{whole_words}
use Rattle.capnp_model.specs.Messages.{halves}
use Rattle.capnp_relay_program.proofs.ahead.sum_of_halves.Given as goal

abbrev pub invariant-loop-word : goal.invariant-loop-word
invariant-loop-word l = record {
  made : l.sum + sum (halves (whole_words l.left)) ≡ sum (halves (whole_words l.table));
  whole : length l.left % 8 ≡ 0;
  small : 4 * l.sum + length l.left * 2 ^ 32 ≤ 120 * 2 ^ 32;
}

abbrev pub decreases-loop-word : goal.decreases-loop-word
decreases-loop-word l = length l.left
