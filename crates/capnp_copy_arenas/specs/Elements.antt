-- The elements of lists that are built.
use Rattle.std.specs.Prelude.{◌≡◌, ◌⊎◌, Some, ℕ, ◌+◌, ◌*◌, ◌<◌, ◌≤◌, ◌^◌, ◌==◌, if◌then◌else◌}
use Rattle.capnp_model.specs.Sections.{words_for, bits_at, with_bits}
use Rattle.capnp_model.specs.Segments.{Segments, Place, after, word_at}
use Rattle.capnp_model.specs.Pointers.{Object, a_list}
use Rattle.capnp_model.specs.Trees.{plain_list, size_bits}
use Rattle.capnp_units.specs.Sizes.{size_number}
use Rattle.capnp_wire_objects.specs.Places.{place_view}
use Rattle.capnp_wire.specs.Elements.{step_bits, step_words}
use Rattle.capnp_wire_objects.specs.Objects.{AreThere}
use Rattle.capnp_model_writes.specs.Footprints.{OwnsObject}
use Rattle.capnp_model_writes.specs.Changes.{ReplacesObject}
use Rattle.capnp_copy_arenas.specs.declared.init.ListPlace.{ListPlace}

-- Where the first element begins: behind the tag, where the elements are structs. (Encoding, "Lists")
abbrev pub first_element : ListPlace → Place
first_element o = after (place_view o.start) (if size_number o.size == 7 then 1 else 0)

-- Its elements' words are there.
abbrev pub HasElements : Segments → ListPlace → Type 0
HasElements s o =
    AreThere s (first_element o) (words_for (step_bits (size_number o.size) o.data_words o.pointers * o.count))
    × ((first_element o).position + step_words (size_number o.size) o.data_words o.pointers * o.count < 2 ^ 61)

-- A list lies whole: its elements' words are there, pointers all, and all words of structs with their tag, which hold the elements.
abbrev pub IsWhole : Segments → ListPlace → Type 0
IsWhole s o =
    HasElements s o
    × (size_number o.size ≡ 6 → AreThere s (place_view o.start) o.count)
    × (size_number o.size ≡ 7 → AreThere s (place_view o.start) (1 + o.claimed) × (o.count * (o.data_words + o.pointers) ≤ o.claimed))

-- The empty list of a null pointer, or one that lies whole.
abbrev pub IsNullOrWhole : Segments → Place → ListPlace → Type 0
IsNullOrWhole s p o = ((word_at s p ≡ Some 0) × (o.count ≡ 0)) ⊎ IsWhole s o

-- The list of plain elements there.
abbrev pub plain_at : ListPlace → Object
plain_at o = a_list (place_view o.start) (size_number o.size) o.count

-- n bits at the front of an element: it is one of the list's, and has as many.
abbrev pub IsInElement : ListPlace → ℕ → ℕ → Type 0
IsInElement o index width = (index < o.count) × (width ≤ size_bits (size_number o.size)) × (size_number o.size < 6)

-- Whatever plain elements the list there has: the bits at the front of this one are the number.
abbrev pub HasElement : Segments → ListPlace → ℕ → ℕ → (ℕ → Type 0) → Type 0
HasElement s o index width Is =
    (n section : ℕ) → OwnsObject n s (plain_at o) (plain_list (size_number o.size) o.count section) → Is (bits_at (size_bits (size_number o.size) * index) width section)

-- Whatever plain elements the list there has: the bits at the front of this one become the number, and nothing else changes.
abbrev pub SetsElement : Segments → Segments → ListPlace → ℕ → ℕ → ℕ → Type 0
SetsElement s u o index width value =
    (n section : ℕ) → OwnsObject n s (plain_at o) (plain_list (size_number o.size) o.count section)
    → ReplacesObject n s u (plain_at o) (plain_list (size_number o.size) o.count (with_bits (size_bits (size_number o.size) * index) width value section))
