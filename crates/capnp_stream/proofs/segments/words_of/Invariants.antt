use Rattle.std.proofs.Common.{◌≡◌, ◌≤◌, ◌++◌, length}
use Rattle.capnp_units.specs.Segments.{whole_words}
use Rattle.capnp_stream.proofs.segments.words_of.Given as goal

abbrev pub invariant-loop-first : goal.invariant-loop-first
invariant-loop-first l = record {
  words : l.words.items ++ whole_words l.left ≡ whole_words l.fn.bytes;
  behind : length l.left ≤ length l.fn.bytes;
}

abbrev pub decreases-loop-first : goal.decreases-loop-first
decreases-loop-first l = length l.left
