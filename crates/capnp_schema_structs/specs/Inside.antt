-- Where the fields of a struct lie in its sections. (Encoding, "Structs")
use Rattle.std.specs.Prelude.{ℕ, ◌+◌, ◌*◌, ◌<◌, ◌≤◌, List, [], ◌∷◌}
use Rattle.capnp_model.specs.Schemas.{Shape, words_of_shape, pointers_of_shape}
use Rattle.capnp_model.specs.Accepted.{Area, bit_area, pointer_area, areas_of}
use Rattle.capnp_units.specs.declared.sizes.StructSize.{StructSize}
use Rattle.capnp_copy_arenas.specs.declared.fields.StructPlace.{StructPlace}

-- The two sizes of a shape.
abbrev pub size_of_shape : Shape → StructSize
size_of_shape g = record { data_words = words_of_shape g; pointers = pointers_of_shape g }

-- The areas lie in sections of n words and pointers.
abbrev pub LieIn : ℕ → ℕ → List Area → Type 0
LieIn words pointers [] = Unit {0}
LieIn words pointers (bit_area at width ∷ areas) = (at + width ≤ 64 * words) × LieIn words pointers areas
LieIn words pointers (pointer_area i ∷ areas) = (i < pointers) × LieIn words pointers areas

-- All fields of a shape lie in the struct.
abbrev pub HasFields : StructPlace → Shape → Type 0
HasFields p g = LieIn p.data_words p.pointers (areas_of g)
