-- Readers as their callers see them.
pub use Rattle.capnp_wire_objects.specs.Inside.{section_in}
unfoldable pub use Rattle.capnp_wire_objects.specs.Inside.{section_at}
pub use Rattle.capnp_wire.specs.Grounds.{backing_bytes, is_paid, Ground, ground_of, default_ground}
use Rattle.std.specs.Prelude.{ℕ, ℤ, ◌+◌, ◌*◌, ◌%◌, ◌^◌, nat_lt, nat_le, if◌then◌else◌, Bool, true, false, List, length, Option, Some, None}
use Rattle.capnp_model.specs.Answers.{levels}
use Rattle.capnp_model.specs.Sections.{bits_at, number_of, words_for}
use Rattle.capnp_model.specs.Segments.{Place, root, after}
use Rattle.capnp_units.specs.declared.sizes.ElementSize.{ElementSize}
use Rattle.capnp_units.specs.Segments.{words_in}
use Rattle.capnp_units.specs.Sizes.{size_number}
use Rattle.capnp_wire_objects.specs.declared.place.Place as wire
use Rattle.capnp_wire.specs.declared.pointer.PointerReader.{PointerReader}
use Rattle.capnp_wire.specs.declared.structs.StructReader.{StructReader}
use Rattle.capnp_wire.specs.declared.list.ListReader.{ListReader}
use Rattle.capnp_wire_objects.specs.Places.{place_view}
use Rattle.capnp_wire.specs.Elements.{step_bits, element_bits, step_words, element_pointers}

-- A pointer to read: where it stands, if it does, and how many levels may be followed from it.
pub record PointerView : Type 0 where
  pub basis : Ground
  pub place : Option Place
  pub levels : Option ℕ

-- A struct to read: its data section, how many bits that has, and the levels that may be followed
-- from each pointer. It says where its first pointer stands and how many there are.
pub record StructView : Type 0 where
  pub basis : Ground
  pub section : ℕ
  pub bits : ℕ
  pub first : Place
  pub pointers : ℕ
  pub levels : Option ℕ

-- A struct of these parts.
abbrev pub struct_view : Ground → ℕ → ℕ → Place → ℕ → Option ℕ → StructView
struct_view g section bits first pointers levels = record { basis = g; section = section; bits = bits; first = first; pointers = pointers; levels = levels }

-- The place that may be there.
abbrev pub place_seen : Option wire.Place → Option Place
place_seen None = None
place_seen (Some p) = Some (place_view p)

-- The pointer.
abbrev pub seen_pointer : {A : Type 0} → (A → List (List ℕ)) → PointerReader A → PointerView
seen_pointer bytes r = record { basis = ground_of bytes r.backing; place = place_seen r.place; levels = r.levels }

-- The struct.
abbrev pub seen_struct : {A : Type 0} → (A → List (List ℕ)) → StructReader A → StructView
seen_struct bytes r =
    struct_view (ground_of bytes r.backing) (number_of 8 r.section.now) (8 * length r.section.now) (place_view r.first) r.pointers r.levels

-- A list to read: the size of its elements, their count, the section of them all, and where the
-- first begins. For structs it has their data words and pointers, and the levels that may be
-- followed from each pointer.
pub record ListView : Type 0 where
  pub basis : Ground
  pub size : ElementSize
  pub count : ℕ
  pub section : ℕ
  pub start : Place
  pub data_words : ℕ
  pub pointers : ℕ
  pub levels : Option ℕ

-- A list of these parts; what lies behind its last element isn't seen.
abbrev pub list_view : Ground → ElementSize → ℕ → ℕ → Place → ℕ → ℕ → Option ℕ → ListView
list_view g size count section start d k levels =
    record { basis = g; size = size; count = count; section = section % 2 ^ (step_bits (size_number size) d k * count); start = start; data_words = d; pointers = k; levels = levels }

-- The list.
abbrev pub seen_list : {A : Type 0} → (A → List (List ℕ)) → ListReader A → ListView
seen_list bytes r = list_view (ground_of bytes r.backing) r.size r.count (number_of 8 r.bytes.now) (place_view r.start) r.data_words r.pointers r.levels

-- The bit of a truth value.
abbrev pub bit_of_bool : Bool → ℕ
bit_of_bool true = 1
bit_of_bool false = 0

-- The pointer of a struct at an index; past the last it is null.
abbrev pub pointer_field : StructView → ℕ → PointerView
pointer_field s i = record { basis = s.basis; place = (if nat_lt i s.pointers then Some (after s.first i) else None); levels = s.levels }

-- An element as a struct; a plain one has exactly its bits, a pointer is its only pointer.
abbrev pub element_as_struct : ListView → ℕ → StructView
element_as_struct l i =
    let size = size_number l.size in
    let bits = element_bits size l.data_words in
    struct_view l.basis (bits_at (step_bits size l.data_words l.pointers * i) bits l.section) bits
    (after l.start (step_words size l.data_words l.pointers * i + l.data_words)) (element_pointers size l.pointers) l.levels

-- The number at the front of an element, 0 where the element is narrower.
abbrev pub element_number : ListView → ℕ → ℕ → ℕ
element_number l i width =
    let size = size_number l.size in
    if nat_le width (element_bits size l.data_words) then bits_at (step_bits size l.data_words l.pointers * i) width l.section else 0

-- The root pointer of an arena.
abbrev pub arena_root : List (List ℕ) → ℤ → PointerView
arena_root bytes nesting = record { basis = record { segments = words_in bytes; paid = true }; place = Some root; levels = levels nesting }

-- An arena, in which is paid.
abbrev pub arena_ground : List (List ℕ) → Ground
arena_ground bytes = record { segments = words_in bytes; paid = true }

-- The pointer at a place of an arena.
abbrev pub pointer_at : List (List ℕ) → ℤ → Place → PointerView
pointer_at bytes nesting p = record { basis = arena_ground bytes; place = Some p; levels = levels nesting }

-- The struct at a place of an arena.
abbrev pub struct_at : List (List ℕ) → ℤ → Place → ℕ → ℕ → StructView
struct_at bytes nesting p d k =
    struct_view (arena_ground bytes) (section_at (words_in bytes) p d) (64 * d) (after p d) k (levels nesting)

-- The list at a place of an arena, whose first element begins there.
abbrev pub list_at : List (List ℕ) → ℤ → Place → ElementSize → ℕ → ℕ → ℕ → ListView
list_at bytes nesting p size count d k =
    list_view (arena_ground bytes) size count (section_at (words_in bytes) p (words_for (step_bits (size_number size) d k * count))) p d k (levels nesting)
