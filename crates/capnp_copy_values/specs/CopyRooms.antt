-- Room for the copy of an object, by an arena's bytes and the free words of each segment.
use Rattle.std.specs.Prelude.{◌≡◌, ◌⊎◌, ◌↔◌, ℕ, ◌^◌, ◌≤◌, List}
use Rattle.capnp_units.specs.declared.errors.Error.{Error}
use Rattle.capnp_units.specs.declared.kinds.ErrorKind.TheVariants.{SizeOverflow}
use Rattle.capnp_units.specs.Segments.{words_in}
use Rattle.capnp_wire_objects.specs.declared.object.Object.{Object}
use Rattle.capnp_wire_objects.specs.declared.place.Place as code
use Rattle.capnp_copy_arenas.specs.Allocations.{total_words}
use Rattle.capnp_copy_arenas.specs.declared.room.Room.{Room}
use Rattle.capnp_copy_arenas.specs.Rooms.{MakesRoom, IsNearSlot, UsesNearSlot, LacksRoom}
use Rattle.capnp_copy_values.specs.Objects.{copied_words, most_counted, IsTooLarge}

-- There is room for its words.
abbrev pub GivesRoom : List (List ℕ) → List (List ℕ) → code.Place → Object → Room → Type 0
GivesRoom old new slot object room = MakesRoom old new slot (copied_words object) room

-- It has a pad exactly where the pointer's segment has no room.
abbrev pub IsNearFor : List (List ℕ) → List ℕ → code.Place → Object → Room → Type 0
IsNearFor bytes free slot object room = IsNearSlot bytes free slot (copied_words object) room

-- Where there is no pad, so many words fewer of the pointer's segment are free.
abbrev pub UsesFor : List ℕ → List ℕ → code.Place → Object → Room → Type 0
UsesFor old new slot object room = UsesNearSlot old new slot (copied_words object) room

-- It is refused with `SizeOverflow` exactly where the message would be too large with it.
abbrev pub IsSizeOfCopy : List (List ℕ) → Object → Error → Type 0
IsSizeOfCopy bytes object e = (e.kind ≡ SizeOverflow) ↔ IsTooLarge object (total_words (words_in bytes))

-- It counts 2^29 or more, or there is no room for its words.
abbrev pub LacksPlace : List (List ℕ) → List ℕ → code.Place → Object → Type 0
LacksPlace bytes free slot object = (2 ^ 29 ≤ most_counted object) ⊎ LacksRoom bytes free slot (copied_words object)
