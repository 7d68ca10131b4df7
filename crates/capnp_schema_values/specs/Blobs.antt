-- Texts and data that are got to be written, with a default in place of null. (Encoding, "Blobs" and "Default Values")
use Rattle.std.specs.Prelude.{◌≡◌, ◌⊎◌, ℕ, ◌+◌, ◌^◌, ◌<◌, Option, Some, Result, Ok, Err}
use Rattle.capnp_model.specs.Kinds.{Kind}
use Rattle.capnp_model.specs.Segments.{Segments, word_at}
use Rattle.capnp_model.specs.Pointers.{a_list}
use Rattle.capnp_units.specs.Errors.{kind_of}
use Rattle.capnp_units.specs.declared.errors.Error.{Error}
use Rattle.capnp_wire_objects.specs.declared.place.Place as code
use Rattle.capnp_wire_objects.specs.Places.{place_view}
use Rattle.capnp_copy_arenas.specs.Values.{LeadsTo}
use Rattle.capnp_copy_arenas.specs.declared.bytes.BlobPlace.{BlobPlace}
use Rattle.capnp_layout_builders.specs.Blobs.{text_named, data_named}
use Rattle.capnp_schema_values.specs.Defaults.{ByteList, BytesBegin, BytesNotBegun}

-- Data or a text, which the function names, are got: the default is written in place of null, and
-- nothing else. Where there isn't null the pointer leads to the list of their bytes, which has as
-- many as the other function tells.
pub record BytesGot (named : Segments → code.Place → Result BlobPlace Kind) (whole : ℕ → ℕ) (default : Option ByteList) (s u : Segments) (slot : code.Place) (o : BlobPlace) : Type 0 where
  pub begins : BytesBegin default s u (place_view slot)
  pub bytes : named u slot ≡ Ok o
  pub object : (word_at u (place_view slot) ≡ Some 0) ⊎ LeadsTo u (place_view slot) (a_list (place_view o.start) 2 (whole o.count))
  pub near : o.start.position < 2 ^ 61

-- Why they aren't returned, and what stands then. The default has no room, and all words stand; or
-- it was written, where there was null, and what is there is refused.
abbrev pub NoBytesGot : (Segments → code.Place → Result BlobPlace Kind) → Option ByteList → Segments → Segments → code.Place → Error → Type 0
NoBytesGot named default s u slot e = BytesNotBegun default s u (place_view slot) e ⊎ (BytesBegin default s u (place_view slot) × (named u slot ≡ Err (kind_of e.kind)))

-- a text, behind whose bytes lies a zero byte
abbrev pub TextBytesGot : Option ByteList → Segments → Segments → code.Place → BlobPlace → Type 0
TextBytesGot = BytesGot text_named (λ n. n + 1)

abbrev pub NoTextBytesGot : Option ByteList → Segments → Segments → code.Place → Error → Type 0
NoTextBytesGot = NoBytesGot text_named

-- data
abbrev pub DataBytesGot : Option ByteList → Segments → Segments → code.Place → BlobPlace → Type 0
DataBytesGot = BytesGot data_named (λ n. n)

abbrev pub NoDataBytesGot : Option ByteList → Segments → Segments → code.Place → Error → Type 0
NoDataBytesGot = NoBytesGot data_named
