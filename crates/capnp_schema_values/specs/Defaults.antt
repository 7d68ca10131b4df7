-- Defaults that are written in place of null. (Encoding, "Default Values")
use Rattle.std.specs.Prelude.{◌≡◌, ◌↔◌, ℕ, ◌+◌, Bool, true, false, length, Option, Some, None}
use Rattle.capnp_model.specs.Sections.{number_of}
use Rattle.capnp_model.specs.Segments.{Segments, Place}
use Rattle.capnp_model.specs.Schemas.{Value, no_value, bits, text_bytes, blob_bytes, list_segment, struct_segment, untyped_value, interface_value}
use Rattle.capnp_model.specs.Trees.{plain_list}
use Rattle.capnp_units.specs.declared.errors.Error.{Error}
use Rattle.capnp_units.specs.declared.kinds.ErrorKind.TheVariants.{SizeOverflow}
use Rattle.capnp_copy_arenas.specs.Allocations.{total_words}
use Rattle.capnp_copy_arenas.specs.Values.{Becomes}
use Rattle.capnp_copy_values.specs.Defaults.{is_null_or_absent}
use Rattle.capnp_layout_builders.specs.Inputs.{IsTooLong}

-- A list of bytes: how many, and their number.
pub record ByteList : Type 0 where
  pub count : ℕ
  pub section : ℕ

-- The list of bytes of the default of a text, with its zero byte, or of data, if there is one.
abbrev pub default_bytes : Option Value → Option ByteList
default_bytes None = None
default_bytes (Some no_value) = None
default_bytes (Some (bits p n)) = None
default_bytes (Some (text_bytes bytes)) = Some (record { count = length bytes + 1; section = number_of 8 bytes })
default_bytes (Some (blob_bytes bytes)) = Some (record { count = length bytes; section = number_of 8 bytes })
default_bytes (Some (list_segment bytes)) = None
default_bytes (Some (struct_segment bytes)) = None
default_bytes (Some untyped_value) = None
default_bytes (Some interface_value) = None

-- The default is written where the pointer is null; else all words stand.
abbrev pub BytesPut : Bool → ByteList → Segments → Segments → Place → Type 0
BytesPut true d s u p = Becomes s u p (plain_list 2 d.count d.section)
BytesPut false d s u p = u ≡ s

-- A default, where there is one, is written in place of null; else all words stand.
abbrev pub BytesBegin : Option ByteList → Segments → Segments → Place → Type 0
BytesBegin None s u p = u ≡ s
BytesBegin (Some d) s u p = BytesPut (is_null_or_absent s p) d s u p

-- It is too large for the message exactly where the kind says so, else the allocator refused; all
-- words stand.
abbrev pub BytesNotBegun : Option ByteList → Segments → Segments → Place → Error → Type 0
BytesNotBegun None s u p e = ⊥
BytesNotBegun (Some d) s u p e = (is_null_or_absent s p ≡ true) × ((e.kind ≡ SizeOverflow) ↔ IsTooLong d.count (total_words s)) × (u ≡ s)
