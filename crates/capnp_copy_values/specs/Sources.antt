-- What is copied from a source into an arena, told by the bytes of both: what is followed, what is made, and what is taken where there is room.
use Rattle.std.specs.Prelude.{⊤, ℕ, ◌+◌, ◌*◌, List, Result}
use Rattle.capnp_model.specs.Segments.{Segments, Place, after}
use Rattle.capnp_model.specs.Sizes.{object_words, each_object_words}
use Rattle.capnp_model.specs.Coverage.{from_each, from_elements}
use Rattle.capnp_model.specs.Visits.{Visit, visits}
use Rattle.capnp_units.specs.declared.errors.Error.{Error}
use Rattle.capnp_units.specs.Segments.{words_in}
use Rattle.capnp_wire_objects.specs.declared.object.Object as wire
use Rattle.capnp_wire_objects.specs.declared.place.Place as location
use Rattle.capnp_wire_objects.specs.Places.{place_view, placed}
use Rattle.capnp_wire_objects.specs.Objects.{AreThere}
use Rattle.capnp_wire_objects.specs.Inside.{met_in, section_at, words_there}
use Rattle.capnp_copy_arenas.specs.States.{HasWords}
use Rattle.capnp_copy_arenas.specs.declared.fields.StructPlace.{StructPlace}
use Rattle.capnp_copy_values.specs.declared.copy.StructRows.{StructRows}
use Rattle.capnp_copy_values.specs.declared.lists.ListSource.{ListSource}
use Rattle.capnp_copy_values.specs.Copies.{CopySource, copy_source, LimitedWords, CopyGives, copy_of_value, copy_of_row, copy_of_object, copy_of_struct, copy_of_structs, object_put, StructAt, FillsRow, LeavesRow, FillsObject, CopiesOverStruct, CopiesOverElements, StructSource, StructsSource}
use Rattle.capnp_copy_values.specs.Fits.{LimitedArena, wanted, FitsCopy, HasLongList, IsLong, words_behind, elements_behind}

-- Words from a place on are there, n, before position 2^61.
abbrev pub LieThere : List (List ℕ) → location.Place → ℕ → Type 0
LieThere bytes start n = AreThere (words_in bytes) (place_view start) n

-- All words of a struct are there.
abbrev pub HasStructWords : List (List ℕ) → StructPlace → Type 0
HasStructWords bytes o = HasWords bytes o.start (o.data_words + o.pointers)

-- The words of the structs, without their tag.
abbrev pub rows_words : StructRows → ℕ
rows_words x = x.count * (x.data_words + x.pointers)

-- ---- what is followed

-- From a pointer, from those in an object, from n in a row.
abbrev pub visits_of_value : ℕ → List (List ℕ) → location.Place → List Visit
visits_of_value levels from place = visits levels (words_in from) (place_view place)

abbrev pub visits_in_object : ℕ → List (List ℕ) → wire.Object → List Visit
visits_in_object levels from object = met_in (visits levels (words_in from)) object

abbrev pub visits_in_row : ℕ → List (List ℕ) → Place → ℕ → List Visit
visits_in_row levels from first n = from_each (visits levels (words_in from)) first n

-- From those in the structs of a list.
abbrev pub visits_in_rows : ℕ → List (List ℕ) → StructRows → List Visit
visits_in_rows levels from x = from_elements (visits levels (words_in from)) (place_view x.start) x.data_words x.pointers x.count

abbrev pub visits_in_structs : ℕ → List (List ℕ) → ListSource → List Visit
visits_in_structs levels from x = from_elements (visits levels (words_in from)) (place_view x.start) x.data_words x.pointers x.count

-- ---- what is made

-- The values of n pointers in a row, over the first of a struct that has so many data words.
abbrev pub CopiesRow : CopySource Place → StructAt → LimitedWords → Result ⊤ Error → LimitedWords → Type 0
CopiesRow x o old result new = CopyGives (copy_of_row x o.pointers) (FillsRow x.levels old.segments new.segments o) (LeavesRow x old.segments new.segments o) old result new

-- An object, over zeros.
abbrev pub FillsFrom : CopySource wire.Object → location.Place → LimitedWords → Result ⊤ Error → LimitedWords → Type 0
FillsFrom x start = FillsObject (copy_of_object x) (object_put x.levels x.what (place_view start))

-- A struct by its place and sizes.
abbrev pub struct_place : location.Place → ℕ → ℕ → StructPlace
struct_place start d k = record { start = start; data_words = d; pointers = k }

-- What such a struct has, of which these segments have the words.
abbrev pub struct_of_place : Segments → StructPlace → StructSource
struct_of_place from o =
    record { section = section_at from (place_view o.start) o.data_words; data_words = o.data_words; first = placed (after (place_view o.start) o.data_words); pointers = o.pointers }

-- A struct of a source, over one of its size.
abbrev pub CopiesStructFrom : CopySource StructPlace → location.Place → LimitedWords → Result ⊤ Error → LimitedWords → Type 0
CopiesStructFrom x start = CopiesOverStruct (copy_source x.levels x.segments (struct_of_place x.segments x.what)) (place_view start)

-- The structs of a list, of which these segments have the words.
abbrev pub structs_of_rows : Segments → StructRows → StructsSource
structs_of_rows from x =
    record { first = place_view x.start; words = words_there from (place_view x.start) x.words; data_words = x.data_words; pointers = x.pointers; count = x.count }

-- These, over as many of their size.
abbrev pub CopiesRows : CopySource StructRows → location.Place → LimitedWords → Result ⊤ Error → LimitedWords → Type 0
CopiesRows x start = CopiesOverElements (copy_source x.levels x.segments (structs_of_rows x.segments x.what)) (place_view start)

-- ---- what is taken where there is room

abbrev pub FitsValue : CopySource Place → location.Place → LimitedArena → Result ⊤ Error → LimitedArena → Type 0
FitsValue x slot = FitsCopy (copy_of_value x) (wanted object_words (HasLongList x.segments) slot.segment)

abbrev pub FitsObject : CopySource wire.Object → location.Place → LimitedArena → Result ⊤ Error → LimitedArena → Type 0
FitsObject x slot = FitsCopy (copy_of_object x) (wanted object_words (IsLong x.segments x.what) slot.segment)

-- For what is behind the object, which lies at a place of the segment.
abbrev pub FitsBehind : CopySource wire.Object → location.Place → LimitedArena → Result ⊤ Error → LimitedArena → Type 0
FitsBehind x start = FitsCopy (copy_of_object x) (wanted words_behind (HasLongList x.segments) start.segment)

-- n pointers in a row.
pub record PointerRow : Type 0 where
  pub first : Place
  pub count : ℕ

abbrev pub pointer_row : Place → ℕ → PointerRow
pointer_row first n = record { first = first; count = n }

abbrev pub FitsRow : CopySource PointerRow → location.Place → LimitedArena → Result ⊤ Error → LimitedArena → Type 0
FitsRow x start = FitsCopy (copy_of_row (copy_source x.levels x.segments x.what.first) x.what.count) (wanted each_object_words (HasLongList x.segments) start.segment)

abbrev pub FitsRows : CopySource StructRows → location.Place → LimitedArena → Result ⊤ Error → LimitedArena → Type 0
FitsRows x start = FitsCopy (copy_of_structs (copy_source x.levels x.segments (structs_of_rows x.segments x.what))) (wanted elements_behind (HasLongList x.segments) start.segment)

abbrev pub FitsStruct : CopySource StructSource → location.Place → LimitedArena → Result ⊤ Error → LimitedArena → Type 0
FitsStruct x slot = FitsCopy (copy_of_struct x) (wanted object_words (HasLongList x.segments) slot.segment)
