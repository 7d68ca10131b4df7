use Rattle.std.proofs.Common.{◌≡◌, ◌+◌, ◌-◌, ◌*◌, length}
use Rattle.capnp_model.specs.Packing.{is_zero, run_of}
use Rattle.capnp_stream.specs.Segments.{whole_words}
use Rattle.capnp_stream_packed.proofs.groups.zero_words.Given as goal

abbrev pub invariant-loop-word : goal.invariant-loop-word
invariant-loop-word l = record {
  counted : l.count + run_of is_zero (255 - l.count) (whole_words l.left) ≡ run_of is_zero 255 (whole_words l.fn.bytes);
  taken : 8 * l.count + length l.left ≡ length l.fn.bytes;
}

abbrev pub decreases-loop-word : goal.decreases-loop-word
decreases-loop-word l = length l.left
