-- The bytes with the words that are left are the whole.
use Rattle.std.proofs.Common.{◌≡◌, length}
use Rattle.capnp_source_request.specs.Frames.{with_words}
use Rattle.capnp_source_request.proofs.frames.put_words.Given as goal

abbrev pub invariant-loop-left : goal.invariant-loop-left
invariant-loop-left l = with_words l.bytes.items l.left ≡ with_words l.fn.bytes.items l.fn.words

abbrev pub decreases-loop-left : goal.decreases-loop-left
decreases-loop-left l = length l.left
