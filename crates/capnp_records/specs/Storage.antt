-- How the slots of a struct are stored. (Encoding, "Structs")
use Rattle.std.specs.Prelude.{ℕ, ◌*◌, ◌<◌, List, [], ◌∷◌, ⊤}
use Rattle.std.specs.List.{flat_map}
use Rattle.capnp_model.specs.Schemas.{width, Ty, void, plain, text, blob, untyped, interface, struct, list}
use Rattle.capnp_model.specs.Accepted.{Area as ModelArea, bit_area, pointer_area}
use Rattle.capnp_records.specs.declared.storage.Storage.{Storage}
use Rattle.capnp_records.specs.declared.storage.Storage.TheVariants.{Nothing, Bits, Pointer}
use Rattle.capnp_records.specs.declared.area.Area.{Area}
use Rattle.capnp_records.specs.declared.area.Area.TheVariants as A

-- How a type is stored.
abbrev pub storage_of : Ty → Storage
storage_of void = Nothing
storage_of (plain p) = Bits (width p)
storage_of text = Pointer
storage_of blob = Pointer
storage_of untyped = Pointer
storage_of interface = Pointer
storage_of (struct id) = Pointer
storage_of (list ty) = Pointer

-- The bits of a value in the data section.
abbrev pub bits_in : Storage → ℕ
bits_in Nothing = 0
bits_in (Bits n) = n
bits_in Pointer = 0

-- A value takes some bits.
abbrev pub TakesBits : Storage → Type 0
TakesBits Nothing = ⊤
TakesBits (Bits n) = 0 < n
TakesBits Pointer = ⊤

-- An area as the model lists it.
abbrev pub areas_in : Area → List ModelArea
areas_in A.Empty = []
areas_in (A.Bits s) = bit_area (s.width * s.place) s.width ∷ []
areas_in (A.Pointer place) = pointer_area place ∷ []

-- Areas as the model lists them.
abbrev pub areas_seen : List Area → List ModelArea
areas_seen areas = flat_map areas_in areas
