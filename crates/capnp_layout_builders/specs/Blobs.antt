-- Texts and data that are got. (Encoding, "Blobs")
use Rattle.std.specs.Prelude.{◌≡◌, ◌⊎◌, ℕ, ◌+◌, ◌-◌, ◌*◌, ◌^◌, ◌<◌, ◌==◌, nat_lt, ◌&&◌, Bool, List, Option, Some, None, Result, Ok, Err, IfOk, IfErr, unwrap_or}
use Rattle.capnp_model.specs.Kinds.{Kind, WrongElementSize, WrongPointerKind, TextWithoutZeroByte}
use Rattle.capnp_model.specs.Chains.{◌and_then◌, guard}
use Rattle.capnp_model.specs.Sections.{words_for, bits_at}
use Rattle.capnp_model.specs.Segments.{Segments, Place, word_at}
use Rattle.capnp_model.specs.Pointers.{a_list}
use Rattle.capnp_model.specs.Trees.{plain_list}
use Rattle.capnp_units.specs.declared.errors.Error.{Error}
use Rattle.capnp_units.specs.declared.sizes.ElementSize.TheVariants.{Byte}
use Rattle.capnp_units.specs.Errors.{kind_of}
use Rattle.capnp_units.specs.Segments.{words_in}
use Rattle.capnp_wire_objects.specs.declared.object.Object.{Object}
use Rattle.capnp_wire_objects.specs.declared.object.Object.TheVariants as object
use Rattle.capnp_wire_objects.specs.declared.place.Place as code
use Rattle.capnp_wire_objects.specs.Objects.{object_at}
use Rattle.capnp_wire_objects.specs.Places.{place_view}
use Rattle.capnp_wire.specs.Views.{section_at}
use Rattle.capnp_copy_arenas.specs.declared.bytes.BlobPlace.{BlobPlace}
use Rattle.capnp_copy_arenas.specs.Bytes.{HasBytes}
use Rattle.capnp_copy_arenas.specs.States.{ArenaState}
use Rattle.capnp_copy_arenas.specs.Values.{Becomes, LeadsTo}
use Rattle.capnp_layout_builders.specs.Gets.{Begins, Gets}

-- Such bytes lie there, and this holds of them.
abbrev pub HoldsOfBytes : Segments → BlobPlace → (List ℕ → Type 0) → Type 0
HoldsOfBytes s o P = (bytes : List ℕ) × HasBytes s o bytes × P bytes

-- The bytes of a list of bytes that an object is, none of null.
abbrev pub blob_of_object : Object → Result (Option BlobPlace) Kind
blob_of_object object.Null = Ok None
blob_of_object (object.List p Byte n) = Ok (Some (record { start = p; count = n }))
blob_of_object (object.List p size n) = Err WrongElementSize
blob_of_object (object.PointerList p n) = Err WrongElementSize
blob_of_object (object.StructList p words n d k) = Err WrongElementSize
blob_of_object _ = Err WrongPointerKind

-- Those of the object that the pointer at a place names, else the kind of the fault.
abbrev pub bytes_named : Segments → Place → Result (Option BlobPlace) Kind
bytes_named s p = object_at s p and_then λ f. blob_of_object f.object

-- No bytes, at a place.
abbrev pub no_bytes : code.Place → BlobPlace
no_bytes slot = record { start = slot; count = 0 }

-- The data that the pointer at a place names; null has none, at the pointer itself.
abbrev pub data_named : Segments → code.Place → Result BlobPlace Kind
data_named s slot = bytes_named s (place_view slot) and_then λ found. Ok (unwrap_or found (no_bytes slot))

-- There is a last byte, and it is zero.
abbrev pub ends_in_zero : Segments → BlobPlace → Bool
ends_in_zero s o = nat_lt 0 o.count && (bits_at (8 * (o.count - 1)) 8 (section_at s (place_view o.start) (words_for (8 * o.count))) == 0)

-- The bytes in front of the last, which is zero; no bytes where there is no list.
abbrev pub text_of : Segments → code.Place → Option BlobPlace → Result BlobPlace Kind
text_of s slot None = Ok (no_bytes slot)
text_of s slot (Some o) = guard (ends_in_zero s o) TextWithoutZeroByte and_then λ _. Ok (record { start = o.start; count = o.count - 1 })

-- The text that the pointer at a place names; null has none, at the pointer itself.
abbrev pub text_named : Segments → code.Place → Result BlobPlace Kind
text_named s slot = bytes_named s (place_view slot) and_then text_of s slot

-- Data or a text, which the function names, are got: the default is written, and nothing else.
-- Where there isn't null the pointer leads to the list of their bytes, which has as many as the
-- other function tells.
pub record BlobGot (named : Segments → code.Place → Result BlobPlace Kind) (whole : ℕ → ℕ) (default : Option (List (List ℕ))) (s u : Segments) (slot : code.Place) (o : BlobPlace) : Type 0 where
  pub begins : Begins default s u (place_view slot) (Ok tt)
  pub value : Gets default s u (place_view slot) (λ v. v)
  pub blob : named u slot ≡ Ok o
  pub object : (word_at u (place_view slot) ≡ Some 0) ⊎ LeadsTo u (place_view slot) (a_list (place_view o.start) 2 (whole o.count))

-- Why they aren't given, and what stands then, as of structs.
abbrev pub NoBlobGot : (Segments → code.Place → Result BlobPlace Kind) → Option (List (List ℕ)) → Segments → Segments → code.Place → Error → Type 0
NoBlobGot named default s u slot e = Begins default s u (place_view slot) (Err e) ⊎ (Begins default s u (place_view slot) (Ok tt) × (named u slot ≡ Err (kind_of e.kind)))

-- They are got, near, or aren't given; the arena borrows what it did.
pub record GetsBlobOrDefault (named : Segments → code.Place → Result BlobPlace Kind) (whole : ℕ → ℕ) (default : Option (List (List ℕ))) (old new : ArenaState) (slot : code.Place) (r : Result BlobPlace Error) : Type 0 where
  pub got : IfOk r (BlobGot named whole default (words_in old.segments) (words_in new.segments) slot)
  pub near : IfOk r (λ o. o.start.position < 2 ^ 61)
  pub refused : IfErr r (NoBlobGot named default (words_in old.segments) (words_in new.segments) slot)
  pub books : new.books ≡ old.books

-- A list of n zero bytes is made in place of the value, and the returned place is where the pointer
-- leads.
pub record BytesMade (s u : Segments) (slot : code.Place) (n : ℕ) (start : code.Place) : Type 0 where
  pub value : Becomes s u (place_view slot) (plain_list 2 n 0)
  pub object : LeadsTo u (place_view slot) (a_list (place_view start) 2 n)
  pub near : start.position < 2 ^ 61

-- data
abbrev pub DataMade : Segments → Segments → code.Place → ℕ → BlobPlace → Type 0
DataMade s u slot n o = BytesMade s u slot n o.start × (o.count ≡ n)

abbrev pub DataGot : Option (List (List ℕ)) → Segments → Segments → code.Place → BlobPlace → Type 0
DataGot = BlobGot data_named (λ n. n)

abbrev pub NoDataGot : Option (List (List ℕ)) → Segments → Segments → code.Place → Error → Type 0
NoDataGot = NoBlobGot data_named

abbrev pub GetsDataOrDefault : Option (List (List ℕ)) → ArenaState → ArenaState → code.Place → Result BlobPlace Error → Type 0
GetsDataOrDefault = GetsBlobOrDefault data_named (λ n. n)

-- a text, with its zero byte behind it
abbrev pub TextMade : Segments → Segments → code.Place → ℕ → BlobPlace → Type 0
TextMade s u slot n o = BytesMade s u slot (n + 1) o.start × (o.count ≡ n)

abbrev pub TextGot : Option (List (List ℕ)) → Segments → Segments → code.Place → BlobPlace → Type 0
TextGot = BlobGot text_named (λ n. n + 1)

abbrev pub NoTextGot : Option (List (List ℕ)) → Segments → Segments → code.Place → Error → Type 0
NoTextGot = NoBlobGot text_named

abbrev pub GetsTextOrDefault : Option (List (List ℕ)) → ArenaState → ArenaState → code.Place → Result BlobPlace Error → Type 0
GetsTextOrDefault = GetsBlobOrDefault text_named (λ n. n + 1)
