-- Lists that are copied by their parts, told by the bytes of the source and of the arena.
use Rattle.std.specs.Prelude.{⊤, ℕ, ◌+◌, ◌*◌, ◌≤◌, ◌<◌, ◌^◌, List, length, Result}
use Rattle.capnp_model.specs.Sections.{number_of, words_of}
use Rattle.capnp_model.specs.Sizes.{object_words}
use Rattle.capnp_units.specs.declared.errors.Error.{Error}
use Rattle.capnp_wire_objects.specs.declared.place.Place as location
use Rattle.capnp_wire_objects.specs.Places.{place_view}
use Rattle.capnp_copy_arenas.specs.declared.fields.StructPlace.{StructPlace}
use Rattle.capnp_copy_values.specs.declared.lists.ListSource.{ListSource}
use Rattle.capnp_copy_values.specs.Copies.{CopySource, copy_source, LimitedWords, StructSource, StructsSource, copy_of_structs, object_put, FillsObject, CopiesOverElements}
use Rattle.capnp_copy_values.specs.Fits.{LimitedArena, wanted, FitsCopy, HasLongList, IsLong, words_behind, elements_behind}
use Rattle.capnp_copy_values.specs.Lists.{ListParts, copy_of_list, listed_bits, listed_object, listed_words}
use Rattle.capnp_copy_values.specs.Objects.{most_counted}

-- The words of its structs, without their tag.
abbrev pub structs_words : ListSource → ℕ
structs_words x = x.count * (x.data_words + x.pointers)

-- The bytes hold its elements, and no position of its pointers or structs is past 2^61.
abbrev pub HoldListed : ListSource → List ℕ → Type 0
HoldListed x bytes = (listed_bits x ≤ 8 * length bytes) × (x.start.position + listed_words x < 2 ^ 61)

-- A pointer and a tag can tell its counts, and the bytes hold it.
abbrev pub CanBeSpelled : ListSource → List ℕ → Type 0
CanBeSpelled x bytes = (most_counted (listed_object x) < 2 ^ 29) × HoldListed x bytes

-- Its structs' words end before position 2^61 where they stand, and where they go behind a tag.
abbrev pub EndNear : ListSource → location.Place → Type 0
EndNear x start = (start.position + (1 + structs_words x) < 2 ^ 61) × (x.start.position + structs_words x < 2 ^ 61)

-- A struct's words end before position 2^61, and as many pointers as it has before 2^62.
abbrev pub LieNear : StructPlace → location.Place → Type 0
LieNear o first = (o.start.position + (o.data_words + o.pointers) < 2 ^ 61) × (first.position + o.pointers < 2 ^ 62)

-- The bytes have so many bits, and fewer than eight more.
abbrev pub HaveBits : List ℕ → ℕ → Type 0
HaveBits bytes bits = (bits ≤ 8 * length bytes) × (8 * length bytes < bits + 8)

-- ---- what is made

-- The list, over zeros.
abbrev pub FillsListed : CopySource ListParts → location.Place → LimitedWords → Result ⊤ Error → LimitedWords → Type 0
FillsListed x start = FillsObject (copy_of_list x) (object_put x.levels (listed_object x.what.list) (place_view start))

-- Its structs; the bytes are their words.
abbrev pub structs_of_list : ListParts → StructsSource
structs_of_list x =
    record { first = place_view x.list.start; words = words_of (structs_words x.list) (number_of 8 x.bytes); data_words = x.list.data_words; pointers = x.list.pointers; count = x.list.count }

-- These, over as many of their size.
abbrev pub CopiesListedStructs : CopySource ListParts → location.Place → LimitedWords → Result ⊤ Error → LimitedWords → Type 0
CopiesListedStructs x start = CopiesOverElements (copy_source x.levels x.segments (structs_of_list x.what)) (place_view start)

-- A struct with the sizes of this one: these bytes are its data, and its pointers stand in a row.
abbrev pub struct_by : StructPlace → List ℕ → location.Place → StructSource
struct_by o section first = record { section = number_of 8 section; data_words = o.data_words; first = first; pointers = o.pointers }

-- ---- what is taken where there is room

abbrev pub FitsListed : CopySource ListParts → location.Place → LimitedArena → Result ⊤ Error → LimitedArena → Type 0
FitsListed x slot = FitsCopy (copy_of_list x) (wanted object_words (IsLong x.segments (listed_object x.what.list)) slot.segment)

-- For what is behind the list, which lies at a place of the segment.
abbrev pub FitsBehindListed : CopySource ListParts → location.Place → LimitedArena → Result ⊤ Error → LimitedArena → Type 0
FitsBehindListed x start = FitsCopy (copy_of_list x) (wanted words_behind (HasLongList x.segments) start.segment)

-- For what is behind its structs.
abbrev pub FitsListedStructs : CopySource ListParts → location.Place → LimitedArena → Result ⊤ Error → LimitedArena → Type 0
FitsListedStructs x start = FitsCopy (copy_of_structs (copy_source x.levels x.segments (structs_of_list x.what))) (wanted elements_behind (HasLongList x.segments) start.segment)
