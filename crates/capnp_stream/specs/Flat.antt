-- Framed messages at the front of a buffer. (Encoding, "Serialization Over a Stream")
use Rattle.std.specs.Prelude.{◌≡◌, ℕ, ◌+◌, ◌*◌, ◌/◌, ◌%◌, ◌^◌, ◌<◌, ◌≤◌, List, length, take, drop, sum}
use Rattle.std.specs.Int.{from_le_bytes, w64}
use Rattle.capnp_units.specs.Segments.{whole_words}
use Rattle.capnp_model.specs.Messages.{halves}
use Rattle.capnp_stream.specs.Ranges.{ranges_from, bytes_at}
use Rattle.capnp_stream.specs.declared.flat.NoAllocSegmentTableInfo.{NoAllocSegmentTableInfo}

-- The lengths of n segments in the table at the front of bytes.
abbrev pub table_lengths : ℕ → List ℕ → List ℕ
table_lengths n bytes = take n (drop 1 (halves (whole_words bytes)))

-- How many bytes the table of n segments has.
abbrev pub table_bytes : ℕ → ℕ
table_bytes n = 8 * (n / 2 + 1)

-- How many bytes the message of segments of these lengths has unpacked, with its table.
abbrev pub message_bytes : List ℕ → ℕ
message_bytes ns = table_bytes (length ns) + 8 * sum ns

-- The bytes of the n segments of the message at the front of bytes.
abbrev pub frame_segments : ℕ → List ℕ → List (List ℕ)
frame_segments n bytes = bytes_at (drop (table_bytes n) bytes) (ranges_from 0 (table_lengths n bytes))

-- The bytes have room for a table of n segments, from 1 to 511, and begin with its count.
pub record CountsTable (bytes : List ℕ) (n : ℕ) : Type 0 where
  pub some : 0 < n
  pub few : n ≤ 511
  pub count : n ≡ from_le_bytes w64 bytes % 2 ^ 32 + 1
  pub there : table_bytes n ≤ length bytes

-- The bytes begin with this table, then have its segments' bytes.
pub record Describes (info : NoAllocSegmentTableInfo) (bytes : List ℕ) : Type 0 where
  pub count : info.segments_count ≡ from_le_bytes w64 bytes % 2 ^ 32 + 1
  pub few : info.segments_count ≤ 511
  pub table : info.segment_table_length_bytes ≡ table_bytes info.segments_count
  pub total : info.total_segments_length_bytes ≡ 8 * sum (table_lengths info.segments_count bytes)
  pub fits : info.segment_table_length_bytes + info.total_segments_length_bytes ≤ length bytes
