-- What a clause reads of a sink in a slice.
use Rattle.std.specs.Prelude.{◌≡◌, ℕ, ◌-◌, List, length, take, drop, Option, Some}
use Rattle.std.specs.Borrow.{MutBor}
use Rattle.std.specs.Io.KnownBytes.{Appends}
use Rattle.capnp_stream_io.specs.Streams.{AppendsPart, RoomFalls}
use Rattle.capnp_stream_io.specs.declared.slice_writer.SliceWriter.{SliceWriter}

-- The slice.
abbrev pub writer_slice : SliceWriter → MutBor (List ℕ)
writer_slice w = w.slice

-- The bytes that were written.
abbrev pub writer_contents : SliceWriter → List ℕ
writer_contents w = take w.written w.slice.now

-- How many bytes still fit.
abbrev pub writer_room : SliceWriter → ℕ
writer_room w = length w.slice.now - w.written

-- The bytes of the slice behind those that were written.
abbrev pub writer_rest : SliceWriter → List ℕ
writer_rest w = drop w.written w.slice.now

-- The bytes that were written, and the room, as a sink tells them.
abbrev pub told_contents : SliceWriter → Option (List ℕ)
told_contents w = Some (writer_contents w)

abbrev pub told_room : SliceWriter → Option ℕ
told_room w = Some (writer_room w)

-- These bytes were written behind the others, or a beginning of them.
abbrev pub GainsBytes : SliceWriter → SliceWriter → List ℕ → Type 0
GainsBytes old new bytes = Appends (told_contents old) (told_contents new) bytes

abbrev pub GainsFront : SliceWriter → SliceWriter → List ℕ → Type 0
GainsFront old new bytes = AppendsPart (told_contents old) (told_contents new) bytes

-- There is room for n bytes fewer.
abbrev pub LosesRoom : SliceWriter → SliceWriter → ℕ → Type 0
LosesRoom old new n = RoomFalls (told_room old) (told_room new) n

-- The bytes of the slice that are left stand: those behind the first n.
abbrev pub KeepsRest : SliceWriter → SliceWriter → ℕ → Type 0
KeepsRest old new n = writer_rest new ≡ drop n (writer_rest old)

-- The slice stands as it was.
abbrev pub SliceStands : SliceWriter → SliceWriter → Type 0
SliceStands old new = (writer_slice new).now ≡ (writer_slice old).now
