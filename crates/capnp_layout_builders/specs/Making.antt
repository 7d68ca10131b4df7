-- What is made in place of a pointer's value. (Encoding, "Structs", "Lists", "Blobs")
use Rattle.std.specs.Prelude.{◌≡◌, ◌↔◌, ◌⊎◌, ℕ, ◌+◌, ◌*◌, ◌^◌, ◌<◌, ◌≤◌, List}
use Rattle.capnp_model.specs.Sections.{words_for}
use Rattle.capnp_model.specs.Segments.{Segments}
use Rattle.capnp_model.specs.Pointers.{a_list}
use Rattle.capnp_model.specs.Trees.{Tree, structure, plain_list, struct_list, none, resized}
use Rattle.capnp_units.specs.declared.errors.Error.{Error}
use Rattle.capnp_units.specs.declared.kinds.ErrorKind.TheVariants.{SizeOverflow}
use Rattle.capnp_units.specs.declared.sizes.ElementSize.{ElementSize}
use Rattle.capnp_units.specs.declared.sizes.StructSize.{StructSize}
use Rattle.capnp_units.specs.Segments.{words_in}
use Rattle.capnp_units.specs.Sizes.{size_number}
use Rattle.capnp_wire_objects.specs.Objects.{AreThere}
use Rattle.capnp_wire_objects.specs.declared.place.Place as code
use Rattle.capnp_wire_objects.specs.Places.{place_view}
use Rattle.capnp_model_writes.specs.NewObjects.{new_tree, zero_elements}
use Rattle.capnp_copy_arenas.specs.Allocations.{total_words, NoRoom}
use Rattle.capnp_copy_arenas.specs.Elements.{IsWhole}
use Rattle.capnp_copy_arenas.specs.Inits.{BecomesAt, TakesWhereRoom, TakesWithPad}
use Rattle.capnp_copy_arenas.specs.Lists.{object_of_list, zeros_of, words_of_list}
use Rattle.capnp_copy_arenas.specs.States.{state_in}
pub use Rattle.capnp_copy_arenas.specs.States.{ArenaState}
use Rattle.capnp_copy_arenas.specs.Structs.{object_of_struct}
use Rattle.capnp_copy_arenas.specs.Values.{LeadsTo}
use Rattle.capnp_copy_arenas.specs.declared.arena.Memory.{Memory}
use Rattle.capnp_copy_arenas.specs.declared.bytes.BlobPlace.{BlobPlace}
use Rattle.capnp_copy_arenas.specs.declared.fields.StructPlace.{StructPlace}
use Rattle.capnp_copy_arenas.specs.declared.init.ListPlace.{ListPlace}

-- What a memory's arena holds, by the three members that tell it.
abbrev pub state_of : {A : Type 0} → (A → List (List ℕ)) → (A → List ℕ) → (A → List (List ℕ)) → Memory A → ArenaState
state_of segments room books memory = state_in segments room books memory.arena

-- The words of its segments, by the member that tells their bytes.
abbrev pub memory_words : {A : Type 0} → (A → List (List ℕ)) → Memory A → Segments
memory_words segments memory = words_in (segments memory.arena)

-- All segments of a memory's arena stand as they were, and nothing else is borrowed, by the members that tell both.
abbrev pub StaysAt : {A : Type 0} → (A → List (List ℕ)) → (A → List (List ℕ)) → Memory A → Memory A → Type 0
StaysAt segments books old new = (segments new.arena ≡ segments old.arena) × (books new.arena ≡ books old.arena)

-- the same of two states
abbrev pub Stays : ArenaState → ArenaState → Type 0
Stays old new = (new.segments ≡ old.segments) × (new.books ≡ old.books)

-- The value of the pointer at a place becomes this one, and nothing else changes. What it takes are
-- its own words where there is room, else at most a pad's more.
pub record Makes (old new : ArenaState) (slot : code.Place) (value : Tree) (words : ℕ) : Type 0 where
  pub becomes : BecomesAt old new slot value
  pub taken : TakesWhereRoom old new slot words
  pub bound : TakesWithPad old new words
  pub books : new.books ≡ old.books

-- n words were refused: with `SizeOverflow` exactly where they and a pad's would make the message's
-- pass 2^29 - 1, and only where there was no room for them.
abbrev pub WordsRefused : ArenaState → ℕ → ℕ → Error → Type 0
WordsRefused old segment words e = ((e.kind ≡ SizeOverflow) ↔ (2 ^ 29 ≤ total_words (words_in old.segments) + (words + 1))) × NoRoom (words_in old.segments) old.room segment words

-- The n words of a list were refused as words are, or since the list is too long.
abbrev pub ListRefused : ArenaState → ℕ → Type 0 → ℕ → Error → Type 0
ListRefused old segment TooLong words e =
    ((e.kind ≡ SizeOverflow) ↔ (TooLong ⊎ (2 ^ 29 ≤ total_words (words_in old.segments) + (words + 1)))) × (TooLong ⊎ NoRoom (words_in old.segments) old.room segment words)

-- A struct of zeros and nulls is made: where the pointer leads, with these sections, and its words are there.
abbrev pub MakesStruct : ArenaState → ArenaState → code.Place → StructSize → StructPlace → Type 0
MakesStruct old new slot size o =
    Makes old new slot (structure size.data_words 0 (resized size.pointers none)) (size.data_words + size.pointers)
    × LeadsTo (words_in new.segments) (place_view slot) (object_of_struct o)
    × ((o.data_words ≡ size.data_words) × (o.pointers ≡ size.pointers))
    × AreThere (words_in new.segments) (place_view o.start) (o.data_words + o.pointers)

-- A list of zeros, or of nulls, is made: where the pointer leads, of this size and count, and it lies whole.
abbrev pub MakesList : ArenaState → ArenaState → code.Place → ElementSize → ℕ → ListPlace → Type 0
MakesList old new slot size count o =
    Makes old new slot (new_tree (zeros_of (size_number size) count)) (words_of_list (size_number size) count)
    × LeadsTo (words_in new.segments) (place_view slot) (object_of_list o)
    × ((o.size ≡ size) × (o.claimed ≡ count) × (o.count ≡ count))
    × AreThere (words_in new.segments) (place_view o.start) (words_of_list (size_number size) count)
    × IsWhole (words_in new.segments) o

-- A list of structs of zeros and nulls is made.
abbrev pub MakesStructList : ArenaState → ArenaState → code.Place → ℕ → StructSize → ListPlace → Type 0
MakesStructList old new slot count size o =
    Makes old new slot (struct_list size.data_words size.pointers (zero_elements count size.pointers)) (1 + count * (size.data_words + size.pointers))
    × LeadsTo (words_in new.segments) (place_view slot) (object_of_list o)
    × ((size_number o.size ≡ 7) × (o.claimed ≡ count * (size.data_words + size.pointers)) × (o.count ≡ count) × (o.data_words ≡ size.data_words) × (o.pointers ≡ size.pointers))
    × AreThere (words_in new.segments) (place_view o.start) (1 + o.claimed)
    × IsWhole (words_in new.segments) o

-- A list of n zero bytes is made, where the pointer leads.
abbrev pub MakesBytes : ArenaState → ArenaState → code.Place → ℕ → code.Place → Type 0
MakesBytes old new slot count start =
    Makes old new slot (plain_list 2 count 0) (words_for (8 * count))
    × LeadsTo (words_in new.segments) (place_view slot) (a_list (place_view start) 2 count)
    × (start.position < 2 ^ 61)

-- data
abbrev pub MakesData : ArenaState → ArenaState → code.Place → ℕ → BlobPlace → Type 0
MakesData old new slot n o = MakesBytes old new slot n o.start × (o.count ≡ n)

-- a text, with its zero byte behind it
abbrev pub MakesText : ArenaState → ArenaState → code.Place → ℕ → BlobPlace → Type 0
MakesText old new slot n o = MakesBytes old new slot (n + 1) o.start × (o.count ≡ n)

-- No such struct is made.
abbrev pub StructRefused : ArenaState → ℕ → StructSize → Error → Type 0
StructRefused old segment size = WordsRefused old segment (size.data_words + size.pointers)

-- No such list is made.
abbrev pub ElementsRefused : ArenaState → ℕ → ElementSize → ℕ → Error → Type 0
ElementsRefused old segment size count = ListRefused old segment (2 ^ 29 ≤ count) (words_of_list (size_number size) count)

-- No such list of structs is made.
abbrev pub StructsRefused : ArenaState → ℕ → ℕ → StructSize → Error → Type 0
StructsRefused old segment count size e =
    ((e.kind ≡ SizeOverflow) ↔ ((2 ^ 29 ≤ count) ⊎ (2 ^ 29 ≤ count * (size.data_words + size.pointers)) ⊎ (2 ^ 29 ≤ total_words (words_in old.segments) + (count * (size.data_words + size.pointers) + 2))))
    × ((2 ^ 29 ≤ count) ⊎ (2 ^ 29 ≤ count * (size.data_words + size.pointers)) ⊎ NoRoom (words_in old.segments) old.room segment (1 + count * (size.data_words + size.pointers)))

-- n bytes aren't taken.
abbrev pub BytesRefused : ArenaState → ℕ → ℕ → Error → Type 0
BytesRefused old segment count = ListRefused old segment (2 ^ 29 ≤ count) (words_for (8 * count))

-- n bytes aren't taken, and all stands as it was.
abbrev pub BytesNotSet : ArenaState → ArenaState → ℕ → ℕ → Error → Type 0
BytesNotSet old new segment count e = BytesRefused old segment count e × Stays old new
