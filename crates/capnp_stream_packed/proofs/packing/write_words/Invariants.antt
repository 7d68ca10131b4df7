use Rattle.std.proofs.Common.{◌≡◌, ◌%◌, length}
use Rattle.capnp_stream.specs.Segments.{whole_words}
use Rattle.capnp_stream_packed.specs.Written.{WritesUpTo}
use Rattle.capnp_stream_packed.proofs.packing.write_words.Given as goal

abbrev pub invariant-loop-left : goal.invariant-loop-left
invariant-loop-left g l = record {
  whole : length l.left % 8 ≡ 0;
  written : WritesUpTo (whole_words l.fn.bytes) (whole_words l.left) (g.W.Write.contents l.initial.out) (g.W.Write.contents l.out) (g.W.Write.room l.initial.out) (g.W.Write.room l.out);
  count : g.W.Write.failures l.out ≡ g.W.Write.failures l.initial.out;
}

abbrev pub decreases-loop-left : goal.decreases-loop-left
decreases-loop-left g l = length l.left
