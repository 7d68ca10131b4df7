-- Messages of which a source shows every byte. (Encoding, "Serialization Over a Stream")
use Rattle.std.specs.Prelude.{◌≡◌, ℕ, ◌+◌, ◌≤◌, true, List, length, take, sum}
use Rattle.std.specs.declared.option.Option.{Option}
use Rattle.std.specs.declared.option.Option.TheVariants.{Some, None}
use Rattle.std.specs.Io.KnownBytes.{Keeps}
use Rattle.capnp_model.specs.Messages.{Reader, within}
use Rattle.capnp_stream.specs.Flat.{table_lengths, Describes}
use Rattle.capnp_stream.specs.Lent.{HoldsMessage}
use Rattle.capnp_stream.specs.declared.flat.NoAllocSegmentTableInfo.{NoAllocSegmentTableInfo}

-- How many bytes a message has with its table.
abbrev pub bytes_in_all : NoAllocSegmentTableInfo → ℕ
bytes_in_all info = info.segment_table_length_bytes + info.total_segments_length_bytes

-- The framed message that the shown bytes begin with, within the limit, stands at the front of these bytes too.
pub record Lays (limit : Option ℕ) (shown bytes : List ℕ) (info : NoAllocSegmentTableInfo) : Type 0 where
  pub described : Describes info bytes
  pub kept : within (sum (table_lengths info.segments_count bytes)) limit ≡ true
  pub there : bytes_in_all info ≤ length shown
  pub same : take (bytes_in_all info) bytes ≡ take (bytes_in_all info) shown

-- A message was taken, within the limit, and stands unpacked at the front of these bytes; or none was, and no byte.
abbrev pub TakesShown : Reader → Option ℕ → Option (List ℕ) → Option (List ℕ) → List ℕ → Option NoAllocSegmentTableInfo → Type 0
TakesShown read limit old new bytes None = Keeps old new
TakesShown read limit old new bytes (Some info) = HoldsMessage read limit old new bytes info
