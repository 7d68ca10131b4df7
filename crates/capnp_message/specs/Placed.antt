-- What is made and got at a pointer for a handle that knows where its value lies. (Encoding, "Structs")
use Rattle.std.specs.Prelude.{◌≡◌, ◌⊎◌, ℕ, ◌+◌, ◌^◌, ◌≤◌, false, None}
use Rattle.std.specs.Option.{is_some}
use Rattle.capnp_model.specs.Segments.{Segments, root, words_at}
use Rattle.capnp_model.specs.Trees.{structure, none, resized}
use Rattle.capnp_units.specs.declared.errors.Error.{Error}
use Rattle.capnp_units.specs.declared.sizes.StructSize.{StructSize}
use Rattle.capnp_wire_objects.specs.Objects.{AreThere}
use Rattle.capnp_wire_objects.specs.declared.place.Place as code
use Rattle.capnp_wire_objects.specs.Places.{place_view}
use Rattle.capnp_copy_arenas.specs.Allocations.{TakesAtMost}
use Rattle.capnp_copy_arenas.specs.Structs.{object_of_struct}
use Rattle.capnp_copy_arenas.specs.Values.{Becomes, LeadsTo}
use Rattle.capnp_copy_arenas.specs.declared.fields.StructPlace.{StructPlace}
use Rattle.capnp_layout_builders.specs.Gets.{StructGot, NoStructGot}
use Rattle.capnp_message.specs.Built.{rooted}

-- The place of the root pointer.
abbrev pub root_slot : code.Place
root_slot = record { segment = 0; position = 0 }

-- A struct's words are there, both sections.
abbrev pub StructLies : Segments → StructPlace → Type 0
StructLies s o = AreThere s (place_view o.start) (o.data_words + o.pointers)

-- A struct of zeros and nulls is made, and nothing else changes. It is where the pointer leads,
-- with these sections, and its words are there. At most those are taken, and a pad's.
abbrev pub StructPlaced : StructSize → Segments → Segments → code.Place → StructPlace → Type 0
StructPlaced size s u slot o =
    Becomes s u (place_view slot) (structure size.data_words 0 (resized size.pointers none))
    × LeadsTo u (place_view slot) (object_of_struct o)
    × ((o.data_words ≡ size.data_words) × (o.pointers ≡ size.pointers))
    × StructLies u o
    × TakesAtMost s u (size.data_words + size.pointers) 1

-- A message of n words has no room for such a struct and a pad.
abbrev pub StructIsTooLarge : StructSize → ℕ → Type 0
StructIsTooLarge size words = 2 ^ 29 ≤ words + (size.data_words + size.pointers + 1)

-- A struct of at least these sizes is got, without a default, and its words are there.
abbrev pub StructFound : StructSize → Segments → Segments → code.Place → StructPlace → Type 0
StructFound size s u slot o = StructGot None s u (place_view slot) size o × StructLies u o

-- None is given, and what stands then.
abbrev pub NoStructFound : StructSize → Segments → Segments → code.Place → Error → Type 0
NoStructFound size s u slot = NoStructGot None s u (place_view slot) size

-- No root is got. There is no word for it and none was made, as `told` says why, and all stands as
-- it was. Or what is there is refused, as the handle's type says.
abbrev pub NoRootFound : (Segments → Segments → code.Place → Error → Type 0) → (Error → Type 0) → Segments → Segments → Error → Type 0
NoRootFound refuses told s u e = ((u ≡ s) × (is_some (words_at s root 1) ≡ false) × told e) ⊎ refuses (rooted s) u root_slot e
