-- What a clause reads of segments in a buffer of their message. (Encoding, "Serialization Over a Stream")
use Rattle.std.specs.Prelude.{ℕ, List, drop}
use Rattle.std.specs.declared.convert.AsSlice.{Ghosts}
use Rattle.capnp_stream.specs.Ranges.{bytes_at}
use Rattle.capnp_stream.specs.Flat.{frame_segments}
use Rattle.capnp_stream.specs.declared.buffers.BufferSegments.{BufferSegments}
use Rattle.capnp_stream.specs.declared.buffers.NoAllocBufferSegments.{NoAllocBufferSegments}

-- The buffer.
abbrev pub buffer_of : {T : Type 0} {g : Ghosts T ℕ} → BufferSegments T g → T
buffer_of s = s.buffer

-- The bytes of each segment.
abbrev pub buffer_segments : {T : Type 0} {g : Ghosts T ℕ} → BufferSegments T g → List (List ℕ)
buffer_segments {g = g} s = bytes_at (drop s.segment_table_bytes_len (g.items s.buffer)) s.indices.items

-- The bytes of each segment, found by the table in the buffer.
abbrev pub found_segments : {T : Type 0} {g : Ghosts T ℕ} → NoAllocBufferSegments T g → List (List ℕ)
found_segments {g = g} s = frame_segments s.info.segments_count (g.items s.buffer)
