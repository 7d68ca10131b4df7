-- Lists that are built, as readers see them. (Encoding, "Lists")
use Rattle.std.specs.Prelude.{◌≡◌, ◌≢◌, ℕ, ℤ, List}
use Rattle.capnp_model.specs.Schemas.{Ty}
use Rattle.capnp_units.specs.Sizes.{size_number}
use Rattle.capnp_wire.specs.Views.{ListView, list_at}
use Rattle.capnp_copy_arenas.specs.Elements.{first_element}
use Rattle.capnp_copy_arenas.specs.declared.init.ListPlace.{ListPlace}
use Rattle.capnp_values.specs.ListSizes.{size_of}
use Rattle.capnp_schema_lists.specs.declared.dynamic_list.Builder.{Builder}

-- Elements that are structs aren't bits.
abbrev pub IsBytewise : ListPlace → Ty → Type 0
IsBytewise o ty = size_number (size_of ty) ≡ 7 → size_number o.size ≢ 1

-- The list as readers see it, under the arena's nesting limit.
abbrev pub list_of : {A : Type 0} → (A → List (List ℕ)) → (A → ℤ) → Builder A → ListView
list_of bytes nesting b = list_at (bytes b.memory.now.arena) (nesting b.memory.now.arena) (first_element b.place) b.place.size b.place.count b.place.data_words b.place.pointers
