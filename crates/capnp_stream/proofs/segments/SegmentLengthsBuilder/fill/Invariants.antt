use Rattle.std.proofs.Common.{◌≡◌, ◌≤◌, ◌*◌, ◌^◌, sum}
use Rattle.capnp_stream.specs.Flat.{table_lengths}
use Rattle.capnp_stream.specs.Segments.{lengths_of, capacity_of}
use Rattle.capnp_stream.proofs.segments.SegmentLengthsBuilder.fill.Given as goal

abbrev pub invariant-loop-id : goal.invariant-loop-id
invariant-loop-id l = record {
  made : lengths_of l.self ≡ table_lengths l.id l.bytes;
  room : l.fn.count ≤ capacity_of l.self;
  small : sum (lengths_of l.self) ≤ l.id * 2 ^ 32;
}
