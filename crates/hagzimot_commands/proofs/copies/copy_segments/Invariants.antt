use Rattle.std.proofs.Common.{◌≡◌, ◌-◌, length, take}
use Rattle.capnp_relay_loop.specs.MessageAnswers.{each_segment_bytes}
use Rattle.hagzimot_commands.specs.Copies.{CopiesWholeWords}
use Rattle.hagzimot_commands.proofs.copies.copy_segments.Given as goal

abbrev pub invariant-loop-bytes : goal.invariant-loop-bytes
invariant-loop-bytes g l = record {
  copies : CopiesWholeWords (take l.id (g.S.ReaderSegments.segments l.segments)) (each_segment_bytes l.copies);
  count : length l.copies.items ≡ l.id;
}

abbrev pub decreases-loop-bytes : goal.decreases-loop-bytes
decreases-loop-bytes g l = length (g.S.ReaderSegments.segments l.segments) - l.id
