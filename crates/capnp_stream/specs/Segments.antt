-- What a clause reads of the segments of a message. (Encoding, "Serialization Over a Stream")
use Rattle.std.specs.Prelude.{ℕ, List, vec_capacity}
pub use Rattle.capnp_units.specs.Segments.{whole_words, words_in}
use Rattle.capnp_model.specs.Segments.{Segments}
use Rattle.capnp_stream.specs.Ranges.{range_lengths, bytes_at}
use Rattle.capnp_stream.specs.declared.segments.SegmentLengthsBuilder.{SegmentLengthsBuilder}
use Rattle.capnp_stream.specs.declared.segments.OwnedSegments.{OwnedSegments}

-- The lengths that a table was given.
abbrev pub lengths_of : SegmentLengthsBuilder → List ℕ
lengths_of table = range_lengths table.indices.items

-- How many lengths a table has memory for.
abbrev pub capacity_of : SegmentLengthsBuilder → ℕ
capacity_of table = vec_capacity table.indices

-- The bytes of each segment.
abbrev pub bytes_of_segments : OwnedSegments → List (List ℕ)
bytes_of_segments s = bytes_at s.bytes.items s.indices.items

-- The segments of a message.
abbrev pub segments_of : OwnedSegments → Segments
segments_of s = words_in (bytes_of_segments s)

-- The bytes of all segments together.
abbrev pub owned_bytes : OwnedSegments → List ℕ
owned_bytes s = s.bytes.items

-- Where the segments lie.
abbrev pub owned_ranges : OwnedSegments → List (ℕ × ℕ)
owned_ranges s = s.indices.items
