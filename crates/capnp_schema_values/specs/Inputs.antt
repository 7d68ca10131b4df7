-- What untyped pointers are set to. (Encoding, "Blobs")
use Rattle.std.specs.Prelude.{◌≡◌, ◌↔◌, ⊤, ℕ, Result, Ok, Err}
use Rattle.capnp_model.specs.Segments.{Segments}
use Rattle.capnp_model.specs.Trees.{plain_list}
use Rattle.capnp_units.specs.declared.errors.Error.{Error}
use Rattle.capnp_units.specs.declared.kinds.ErrorKind.TheVariants.{SizeOverflow}
use Rattle.capnp_wire_objects.specs.declared.place.Place as code
use Rattle.capnp_wire_objects.specs.Places.{place_view}
use Rattle.capnp_copy_arenas.specs.Allocations.{total_words}
use Rattle.capnp_copy_arenas.specs.Values.{Becomes}
use Rattle.capnp_layout_builders.specs.Inputs.{IsTooLong}

-- A list of n bytes with this number is put in place of the value. Or it is refused, with
-- `SizeOverflow` exactly where it is too long for the message, and all words stand.
abbrev pub PutsByteList : ℕ → ℕ → Segments → Segments → code.Place → Result ⊤ Error → Type 0
PutsByteList count section s u p (Ok x) = Becomes s u (place_view p) (plain_list 2 count section)
PutsByteList count section s u p (Err e) = ((e.kind ≡ SizeOverflow) ↔ IsTooLong count (total_words s)) × (u ≡ s)
