-- A person of an address book: a struct of a data word and a pointer. (Encoding, "Structs")
use Rattle.std.specs.Prelude.{◌≡◌, ℕ, ◌+◌, ◌^◌, ◌≤◌, ◌↔◌, List, Option}
use Rattle.capnp_model.specs.Segments.{Segments}
use Rattle.capnp_model.specs.Trees.{structure, none, resized}
use Rattle.capnp_units.specs.declared.errors.Error.{Error}
use Rattle.capnp_units.specs.declared.kinds.ErrorKind.TheVariants.{SizeOverflow}
use Rattle.capnp_wire_objects.specs.declared.place.Place as code
use Rattle.capnp_wire_objects.specs.Places.{place_view}
use Rattle.capnp_copy_arenas.specs.Allocations.{total_words}
use Rattle.capnp_copy_arenas.specs.Structs.{object_of_struct}
use Rattle.capnp_copy_arenas.specs.Values.{Becomes, LeadsTo}
use Rattle.capnp_copy_arenas.specs.declared.fields.StructPlace.{StructPlace}
use Rattle.capnp_layout_builders.specs.Gets.{StructGot, NoStructGot}

-- A new person, of zeros and a null, is the value of the pointer.
abbrev pub IsPersonMade : Segments → Segments → code.Place → StructPlace → Type 0
IsPersonMade s u slot o = Becomes s u (place_view slot) (structure 1 0 (resized 1 none)) × LeadsTo u (place_view slot) (object_of_struct o)

-- It isn't made for want of size exactly where its words and a pad of one are too many for the
-- message.
abbrev pub IsNotMade : Segments → Error → Type 0
IsNotMade s e = (e.kind ≡ SizeOverflow) ↔ (2 ^ 29 ≤ total_words s + 3)

-- The person that is got at the pointer, in place of null the default.
abbrev pub IsPersonGot : Option (List (List ℕ)) → Segments → Segments → code.Place → StructPlace → Type 0
IsPersonGot default s u slot o = StructGot default s u (place_view slot) (record { data_words = 1; pointers = 1 }) o

-- Why none is got, and what stands then.
abbrev pub IsPersonNotGot : Option (List (List ℕ)) → Segments → Segments → code.Place → Error → Type 0
IsPersonNotGot default s u slot e = NoStructGot default s u (place_view slot) (record { data_words = 1; pointers = 1 }) e
