-- What the reader of one message into a kept buffer promises. (Encoding, "Serialization Over a Stream")
use Rattle.std.specs.Prelude.{◌≡◌, ◌⊎◌, ℕ, ◌<◌, ◌≤◌, ⊤, List, length, map, max, Some, None, Ok, Err, IfSome, IfOk, IfErr, OnOk, OnErr}
use Rattle.std.specs.Borrow.{Fml, MutBor}
use Rattle.std.specs.Io.BufRead.{Rests}
use Rattle.std.specs.declared.convert.AsSlice.{Ghosts}
use Rattle.std.specs.declared.result.Result.{Result}
use Rattle.std.specs.declared.option.Option.{Option}
use Rattle.capnp_units.specs.declared.errors.Error.{Error}
use Rattle.capnp_units.specs.declared.kinds.ErrorKind.{ErrorKind}
use Rattle.capnp_units.specs.declared.kinds.ErrorKind.TheVariants.{OutOfMemory}
use Rattle.capnp_units.specs.Segments.{words_in}
use Rattle.capnp_model.specs.Segments.{Segments}
use Rattle.capnp_model.specs.Messages.{Reader}
use Rattle.capnp_stream.specs.Flat.{table_bytes, message_bytes, frame_segments, Describes}
use Rattle.capnp_stream.specs.declared.flat.NoAllocSegmentTableInfo.{NoAllocSegmentTableInfo}
use Rattle.capnp_stream_io.specs.Counting.{Counts}
use Rattle.capnp_stream.specs.Frames.{IsReadKind, TakesStart, TellsFault}
use Rattle.capnp_stream.specs.Buffers.{found_segments}
use Rattle.capnp_stream.specs.Lent.{HasAsLong, HasLonger, HoldsMessage}
use Rattle.capnp_stream.specs.Reading.{SourceSeen, TriesReading, WantsBetweenPieces}
use Rattle.capnp_stream.specs.Shown.{bytes_in_all}
use Rattle.capnp_stream.specs.declared.buffers.NoAllocBufferSegments.{NoAllocBufferSegments}
use Rattle.capnp_stream.specs.declared.kept.MessageBuffer.{MessageBuffer}
use Rattle.capnp_stream.specs.contracts.kept.MessageBuffer.{the_row}

-- How many bytes a buffer has.
abbrev pub buffer_len : MessageBuffer → ℕ
buffer_len b = length b.bytes.items

-- The buffer has at least as many bytes as before, and, where a message was read, enough for the longest table.
abbrev pub IsGrown : {A : Type 0} → ℕ → ℕ → Result A Error → Type 0
IsGrown old new result = (old ≤ new) × OnOk result (table_bytes 511 ≤ new)

-- Where a message was read, a buffer has enough bytes for the longest table.
abbrev pub HasTableRoom : ℕ → Result (Option NoAllocSegmentTableInfo) Error → Type 0
HasTableRoom size result = IfOk result (λ o. IfSome o (λ _. table_bytes 511 ≤ size))

-- n bytes suffice for the longest table, and for these segments with theirs.
abbrev pub HasRoomFor : Segments → ℕ → Type 0
HasRoomFor s size = (table_bytes 511 ≤ size) × (message_bytes (map length s) ≤ size)

-- A buffer grew no further than to the longest table, or to n bytes.
abbrev pub GrowsTo : ℕ → ℕ → ℕ → Type 0
GrowsTo most old new = new ≤ max old (max (table_bytes 511) most)

-- Without a message a buffer grew no further than to the longest table, or to the message within the limits with whose table the bytes begin.
abbrev pub GrowsInVain : Reader → Option ℕ → Option (List ℕ) → ℕ → ℕ → Type 0
GrowsInVain read limit left old new = GrowsTo 0 old new ⊎ IfSome left (HasAsLong read limit new)

-- A buffer grew for the message that this table describes, or, where none was read, not at all.
abbrev pub GrowsForTable : Reader → Option ℕ → Option (List ℕ) → ℕ → ℕ → Result (Option NoAllocSegmentTableInfo) Error → Type 0
GrowsForTable read limit left old new (Ok (Some info)) = GrowsTo (bytes_in_all info) old new
GrowsForTable read limit left old new (Ok None) = new ≡ old
GrowsForTable read limit left old new (Err e) = GrowsInVain read limit left old new

-- A buffer grew for the message of these segments, for which it has room; or, where none was read,
-- not at all.
abbrev pub GrowsForMessage : {T : Type 0} {g : Ghosts T ℕ} → Reader → Option ℕ → Option (List ℕ) → ℕ → ℕ → Result (Option (NoAllocBufferSegments T g)) Error → Type 0
GrowsForMessage read limit left old new (Ok (Some s)) =
    let message = words_in (found_segments s) in
    HasRoomFor message new × GrowsTo (message_bytes (map length message)) old new
GrowsForMessage read limit left old new (Ok None) = new ≡ old
GrowsForMessage read limit left old new (Err e) = GrowsInVain read limit left old new

-- Once the segments are no longer lent the buffer has at least as many bytes as before, room for them, and no more than they want.
abbrev pub RestsGrown : {T : Type 0} {g : Ghosts T ℕ} → Reader → Option ℕ → Option (List ℕ) → MutBor MessageBuffer → Result (Option (NoAllocBufferSegments T g)) Error → Fml
RestsGrown read limit left b result = Rests the_row b (λ new. (buffer_len b.now ≤ buffer_len new) × GrowsForMessage read limit left (buffer_len b.now) (buffer_len new) result)

-- A message is read, whose segments a buffer lends, or none is left.
abbrev pub TriesMessageInto : {T : Type 0} {g : Ghosts T ℕ} → Reader → (ErrorKind → Type 0) → Option ℕ → SourceSeen → Result (Option (NoAllocBufferSegments T g)) Error → SourceSeen → Type 0
TriesMessageInto read faults limit old result new = TriesReading found_segments (λ _. ⊤) read faults limit old result new

-- A message is read, or none is left; the message stands unpacked at the front of these bytes, as
-- its table describes it.
abbrev pub TriesTableIn : Reader → (ErrorKind → Type 0) → Option ℕ → List ℕ → SourceSeen → Result (Option NoAllocSegmentTableInfo) Error → SourceSeen → Type 0
TriesTableIn read faults limit bytes old result new = TriesReading (λ i. frame_segments i.segments_count bytes) (λ i. Describes i bytes) read faults limit old result new

-- Memory is wanted only where a buffer of n bytes is shorter than the longest table, or than a
-- message whose table the bytes begin with, within the limits.
abbrev pub WantsForLonger : {A : Type 0} → Reader → Option ℕ → ℕ → Option (List ℕ) → Result A Error → Type 0
WantsForLonger read limit size old result = IfErr result (λ e. e.kind ≡ OutOfMemory → (size < table_bytes 511) ⊎ IfSome old (HasLonger read limit size))

-- A message is read to the front of a kept buffer, and it is told what the source loses, how far the buffer grows, and why it is refused.
pub record FillsKept (read : Reader) (faults : ErrorKind → Type 0) (limit : Option ℕ) (before after : MessageBuffer) (old : SourceSeen) (result : Result NoAllocSegmentTableInfo Error) (new : SourceSeen) : Type 0 where
  pub message : IfOk result (HoldsMessage read limit old.remaining new.remaining after.bytes.items)
  pub refused : TellsFault read limit old.remaining result
  pub kind : IfErr result (λ e. IsReadKind faults e.kind)
  pub part : OnErr result (TakesStart read limit old.remaining new.remaining)
  pub wanted : WantsBetweenPieces read limit old.remaining new.remaining result
  pub longer : WantsForLonger read limit (buffer_len before) old.remaining result
  pub grown : IsGrown (buffer_len before) (buffer_len after) result
  pub most : IfOk result (λ i. GrowsTo (bytes_in_all i) (buffer_len before) (buffer_len after))
  pub vain : OnErr result (GrowsInVain read limit old.remaining (buffer_len before) (buffer_len after))
  pub failures : Counts result old.failures new.failures
