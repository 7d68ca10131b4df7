use Rattle.std.proofs.Common.{◌≡◌, ◌≤◌, ◌+◌, ◌-◌, ◌*◌, ◌/◌, ◌^◌, length, take, map, sum}
use Rattle.capnp_units.specs.Segments.{words_in}
use Rattle.capnp_stream.proofs.messages.compute_serialized_size_in_words.Given as goal

abbrev pub invariant-loop-id : goal.invariant-loop-id
invariant-loop-id g l = record {
  made : l.total ≡ length (g.S.ReaderSegments.segments l.segments) / 2 + 1 + sum (map length (take l.id (words_in (g.S.ReaderSegments.segments l.segments))));
  small : l.total ≤ 2 ^ 32 + l.id * 2 ^ 32;
}

abbrev pub decreases-loop-id : goal.decreases-loop-id
decreases-loop-id g l = length (g.S.ReaderSegments.segments l.segments) - l.id
