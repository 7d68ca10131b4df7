-- Elements of lists, by their index. (Encoding, "Lists")
use Rattle.std.specs.Prelude.{◌≡◌, ℕ, ◌+◌, ◌*◌, ◌/◌, ◌%◌, ◌^◌, ◌<◌, ◌≤◌}
use Rattle.capnp_model.specs.Sections.{bits_at, with_bits}
use Rattle.capnp_model.specs.Segments.{Segments, after}
use Rattle.capnp_model.specs.Trees.{Trees, structure, struct_list, Elements, element_count}
use Rattle.capnp_units.specs.Sizes.{size_number}
use Rattle.capnp_wire.specs.Elements.{element_bits, element_pointers, step_words}
use Rattle.capnp_wire_objects.specs.Places.{place_view}
use Rattle.capnp_wire_objects.specs.declared.place.Place as code
use Rattle.capnp_model_writes.specs.Changes.{ReplacesObject}
use Rattle.capnp_model_writes.specs.Elements.{element_at, with_element}
use Rattle.capnp_model_writes.specs.Footprints.{OwnsObject}
use Rattle.capnp_copy_arenas.specs.Elements.{first_element, HasElement, SetsElement}
use Rattle.capnp_copy_arenas.specs.Lists.{object_of_list}
use Rattle.capnp_copy_arenas.specs.declared.fields.StructPlace.{StructPlace}
use Rattle.capnp_copy_arenas.specs.declared.init.ListPlace.{ListPlace}

-- The list begins near, and its structs or pointers end so.
abbrev pub EndsNear : ListPlace → Type 0
EndsNear l = (first_element l).position + step_words (size_number l.size) l.data_words l.pointers * l.count < 2 ^ 61

-- ---- elements as structs

-- An element is one of the list's, and its data are whole words: it is a struct, a number of 64 bits, a pointer or nothing.
pub record IsWholeElement (l : ListPlace) (i : ℕ) : Type 0 where
  pub inside : i < l.count
  pub whole : element_bits (size_number l.size) l.data_words % 64 ≡ 0
  pub near : (first_element l).position + l.count * (element_bits (size_number l.size) l.data_words / 64 + element_pointers (size_number l.size) l.pointers) < 2 ^ 61

-- The struct is the element at an index, with its data and its pointers, and it ends near.
pub record IsStructElement (l : ListPlace) (i : ℕ) (o : StructPlace) : Type 0 where
  pub place : place_view o.start ≡ after (first_element l) (i * (o.data_words + o.pointers))
  pub data_words : 64 * o.data_words ≡ element_bits (size_number l.size) l.data_words
  pub pointers : o.pointers ≡ element_pointers (size_number l.size) l.pointers
  pub near : o.start.position + (o.data_words + o.pointers) < 2 ^ 61

-- ---- elements as pointers

-- An element is one of the list's, and has a pointer: it is one, or a struct with one.
pub record IsWithPointer (l : ListPlace) (i : ℕ) : Type 0 where
  pub inside : i < l.count
  pub wide : 0 < element_pointers (size_number l.size) l.pointers
  pub near : EndsNear l

-- The pointer is the element at an index, or the first one of the struct that it is.
abbrev pub IsPointerElement : ListPlace → ℕ → code.Place → Type 0
IsPointerElement l i p = place_view p ≡ after (first_element l) (step_words (size_number l.size) l.data_words l.pointers * i + element_bits (size_number l.size) l.data_words / 64)

-- ---- elements as numbers

-- n bits at the front of an element, which is one of the list's: a plain one has as many, or a struct's data.
pub record IsAtFront (l : ListPlace) (i width : ℕ) : Type 0 where
  pub inside : i < l.count
  pub wide : width ≤ element_bits (size_number l.size) l.data_words
  pub near : EndsNear l

-- Whatever structs the list has: the bits at the front of this one are the number.
abbrev pub HasStructFront : Segments → ListPlace → ℕ → ℕ → (ℕ → Type 0) → Type 0
HasStructFront s l i width Is =
    (n section : ℕ) (kids : Trees) (es : Elements) → element_count es ≡ l.count → element_at l.data_words es i ≡ structure l.data_words section kids
    → OwnsObject n s (object_of_list l) (struct_list l.data_words l.pointers es) → Is (bits_at 0 width section)

-- Whatever elements the list has: the bits at the front of this one are the number; a pointer has none.
pub record HasFront (s : Segments) (l : ListPlace) (i width : ℕ) (Is : ℕ → Type 0) : Type 0 where
  pub plain : size_number l.size < 6 → HasElement s l i width Is
  pub pointers : size_number l.size ≡ 6 → Is 0
  pub structs : size_number l.size ≡ 7 → HasStructFront s l i width Is

-- Whatever structs the list has: the bits at the front of this one become the number, and nothing else changes.
abbrev pub SetsStructFront : Segments → Segments → ListPlace → ℕ → ℕ → ℕ → Type 0
SetsStructFront s u l i width value =
    (n section : ℕ) (kids : Trees) (es : Elements) → element_count es ≡ l.count → element_at l.data_words es i ≡ structure l.data_words section kids
    → OwnsObject n s (object_of_list l) (struct_list l.data_words l.pointers es)
    → ReplacesObject n s u (object_of_list l) (struct_list l.data_words l.pointers (with_element es i (with_bits 0 width value section) kids))

-- Whatever elements the list has: the bits at the front of this one become the number, and nothing else changes; a pointer has none.
pub record SetsFront (s u : Segments) (l : ListPlace) (i width value : ℕ) : Type 0 where
  pub plain : size_number l.size < 6 → SetsElement s u l i width value
  pub pointers : size_number l.size ≡ 6 → u ≡ s
  pub structs : size_number l.size ≡ 7 → SetsStructFront s u l i width value
