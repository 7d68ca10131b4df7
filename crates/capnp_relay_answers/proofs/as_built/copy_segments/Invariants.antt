use Rattle.std.proofs.Common.{◌≡◌, ◌-◌, length, take}
use Rattle.capnp_relay_loop.specs.MessageAnswers.{each_segment_bytes}
use Rattle.capnp_relay_answers.specs.Plain.{CopiesSegments}
use Rattle.capnp_relay_answers.proofs.as_built.copy_segments.Given as goal

abbrev pub invariant-loop-bytes : goal.invariant-loop-bytes
invariant-loop-bytes g l = record {
  copies : CopiesSegments (take l.id (g.M.ReaderArena.segments l.message)) (each_segment_bytes l.segments);
  count : length l.segments.items ≡ l.id;
}

abbrev pub decreases-loop-bytes : goal.decreases-loop-bytes
decreases-loop-bytes g l = length (g.M.ReaderArena.segments l.message) - l.id
