-- Lists that are built.
use Rattle.std.specs.Prelude.{ℕ, ◌*◌, ◌==◌, if◌then◌else◌}
use Rattle.capnp_model.specs.Sections.{words_for}
use Rattle.capnp_model.specs.Pointers.{Object, a_list}
use Rattle.capnp_model.specs.Trees.{size_bits}
use Rattle.capnp_units.specs.Sizes.{size_number}
use Rattle.capnp_wire_objects.specs.Places.{place_view}
use Rattle.capnp_model_writes.specs.NewObjects.{New, new_list, new_pointers}
use Rattle.capnp_copy_arenas.specs.declared.init.ListPlace.{ListPlace}

-- The list there.
abbrev pub object_of_list : ListPlace → Object
object_of_list o = a_list (place_view o.start) (size_number o.size) o.claimed

-- A list of zeros, or of nulls where the elements are pointers.
abbrev pub zeros_of : ℕ → ℕ → New
zeros_of size count = if size == 6 then new_pointers count else new_list size count

-- The words of its elements. (Encoding, "Lists")
abbrev pub words_of_list : ℕ → ℕ → ℕ
words_of_list size count = if size == 6 then count else words_for (size_bits size * count)
