-- What is put in place of a pointer's value, and what is returned, or why nothing is. (Encoding,
-- "Structs", "Lists", "Blobs")
use Rattle.std.specs.Prelude.{◌≡◌, ◌↔◌, ◌⊎◌, ℕ, ◌+◌, ◌*◌, ◌^◌, ◌<◌, ◌≤◌, List, Result, IfOk, IfErr, OnOk, OnErr}
use Rattle.capnp_model.specs.Coverage.{Grows}
use Rattle.capnp_model.specs.Sections.{number_of, words_for}
use Rattle.capnp_model.specs.Trees.{Tree, structure, plain_list, struct_list, none, resized}
use Rattle.capnp_units.specs.declared.errors.Error.{Error}
use Rattle.capnp_units.specs.declared.kinds.ErrorKind.TheVariants.{SizeOverflow}
use Rattle.capnp_units.specs.declared.sizes.ElementSize.{ElementSize}
use Rattle.capnp_units.specs.declared.sizes.StructSize.{StructSize}
use Rattle.capnp_units.specs.Segments.{words_in}
use Rattle.capnp_units.specs.Sizes.{size_number}
use Rattle.capnp_wire_objects.specs.declared.place.Place as code
use Rattle.capnp_wire_objects.specs.Places.{place_view}
use Rattle.capnp_model_writes.specs.NewObjects.{new_tree, zero_elements}
use Rattle.capnp_copy_arenas.specs.Allocations.{PassesLimit, TakesJust, TakesAtMost, NoRoom}
use Rattle.capnp_copy_arenas.specs.Lists.{object_of_list, zeros_of, words_of_list}
use Rattle.capnp_copy_arenas.specs.States.{ArenaState, HasWords}
use Rattle.capnp_copy_arenas.specs.Structs.{object_of_struct}
use Rattle.capnp_copy_arenas.specs.Values.{Becomes, BecomesZeros, LeadsTo, LeadsToZeros}
use Rattle.capnp_copy_arenas.specs.declared.fields.StructPlace.{StructPlace}
use Rattle.capnp_copy_arenas.specs.declared.init.ListPlace.{ListPlace}

-- The value of the pointer at a place becomes the tree.
abbrev pub BecomesAt : ArenaState → ArenaState → code.Place → Tree → Type 0
BecomesAt old new slot t = Becomes (words_in old.segments) (words_in new.segments) (place_view slot) t

-- n words are taken where the pointer's segment has room for them.
abbrev pub TakesWhereRoom : ArenaState → ArenaState → code.Place → ℕ → Type 0
TakesWhereRoom old new slot n = TakesJust (words_in old.segments) old.room (words_in new.segments) slot.segment n

-- At most n words are taken, and one for a pad.
abbrev pub TakesWithPad : ArenaState → ArenaState → ℕ → Type 0
TakesWithPad old new n = TakesAtMost (words_in old.segments) (words_in new.segments) n 1

-- There is no room for n words, near the pointer or behind a pad.
abbrev pub HasNoRoom : ArenaState → code.Place → ℕ → Type 0
HasNoRoom old slot n = NoRoom (words_in old.segments) old.room slot.segment n

-- What is there stays there.
abbrev pub KeepsAllWords : ArenaState → ArenaState → Type 0
KeepsAllWords old new = Grows (words_in old.segments) (words_in new.segments)

-- In each of these `told` says of an error why it came.

-- An object of n zero words stands in place of the value, at the place that is returned, and its
-- pointer's word is told with offset 0. Or there is no room, and all stands as it was.
pub record InitsZeros (old new : ArenaState) (slot : code.Place) (words pointer : ℕ) (r : Result code.Place Error) (told : Error → Type 0) : Type 0 where
  pub value : IfOk r (λ o. BecomesZeros (words_in old.segments) (words_in new.segments) (place_view slot) words pointer)
  pub object : IfOk r (λ o. LeadsToZeros (words_in new.segments) (place_view slot) (place_view o) words pointer)
  pub there : IfOk r (λ o. HasWords new.segments o words)
  pub near : IfOk r (λ o. o.position + words < 2 ^ 61)
  pub taken : OnOk r (TakesWhereRoom old new slot words)
  pub bound : OnOk r (TakesWithPad old new words)
  pub full : OnErr r (HasNoRoom old slot words)
  pub refused : OnErr r (new.segments ≡ old.segments)
  pub kind : IfErr r (λ e. (0 < words) × ((e.kind ≡ SizeOverflow) ↔ PassesLimit old.segments (words + 1)))
  pub books : new.books ≡ old.books
  pub grows : OnOk r (KeepsAllWords old new)
  pub cause : IfErr r told

-- A struct of zeros and nulls stands in place of the value, at the place that is returned; or there
-- is no room, and all stands as it was.
pub record InitsStruct (old new : ArenaState) (slot : code.Place) (wanted : StructSize) (r : Result StructPlace Error) (told : Error → Type 0) : Type 0 where
  pub value : IfOk r (λ o. BecomesAt old new slot (structure wanted.data_words 0 (resized wanted.pointers none)))
  pub object : IfOk r (λ o. LeadsTo (words_in new.segments) (place_view slot) (object_of_struct o))
  pub size : IfOk r (λ o. (o.data_words ≡ wanted.data_words) × (o.pointers ≡ wanted.pointers))
  pub there : IfOk r (λ o. HasWords new.segments o.start (o.data_words + o.pointers))
  pub near : IfOk r (λ o. o.start.position + (o.data_words + o.pointers) < 2 ^ 61)
  pub taken : OnOk r (TakesWhereRoom old new slot (wanted.data_words + wanted.pointers))
  pub bound : OnOk r (TakesWithPad old new (wanted.data_words + wanted.pointers))
  pub full : OnErr r (HasNoRoom old slot (wanted.data_words + wanted.pointers))
  pub refused : OnErr r (new.segments ≡ old.segments)
  pub kind : IfErr r (λ e. (e.kind ≡ SizeOverflow) ↔ PassesLimit old.segments (wanted.data_words + wanted.pointers + 1))
  pub books : new.books ≡ old.books
  pub grows : OnOk r (KeepsAllWords old new)
  pub cause : IfErr r told

-- A list of n zeros, or nulls, of a size stands in place of the value, at the place that is
-- returned. Or there is no room, or too many are wanted, and all stands as it was.
pub record InitsList (old new : ArenaState) (slot : code.Place) (size : ElementSize) (count : ℕ) (r : Result ListPlace Error) (told : Error → Type 0) : Type 0 where
  pub value : IfOk r (λ o. BecomesAt old new slot (new_tree (zeros_of (size_number size) count)))
  pub object : IfOk r (λ o. LeadsTo (words_in new.segments) (place_view slot) (object_of_list o))
  pub list : IfOk r (λ o. (o.size ≡ size) × (o.claimed ≡ count) × (o.count ≡ count))
  pub there : IfOk r (λ o. HasWords new.segments o.start (words_of_list (size_number size) count))
  pub near : IfOk r (λ o. o.start.position + words_of_list (size_number size) count < 2 ^ 61)
  pub taken : OnOk r (TakesWhereRoom old new slot (words_of_list (size_number size) count))
  pub bound : OnOk r (TakesWithPad old new (words_of_list (size_number size) count))
  pub full : OnErr r ((2 ^ 29 ≤ count) ⊎ HasNoRoom old slot (words_of_list (size_number size) count))
  pub refused : OnErr r (new.segments ≡ old.segments)
  pub kind : IfErr r (λ e. (e.kind ≡ SizeOverflow) ↔ ((2 ^ 29 ≤ count) ⊎ PassesLimit old.segments (words_of_list (size_number size) count + 1)))
  pub books : new.books ≡ old.books
  pub grows : OnOk r (KeepsAllWords old new)
  pub cause : IfErr r told

-- A list of n structs of zeros and nulls stands in place of the value, at the place that is
-- returned. Or there is no room, or too much is wanted, and all stands as it was.
pub record InitsStructList (old new : ArenaState) (slot : code.Place) (count : ℕ) (size : StructSize) (r : Result ListPlace Error) (told : Error → Type 0) : Type 0 where
  pub value : IfOk r (λ o. BecomesAt old new slot (struct_list size.data_words size.pointers (zero_elements count size.pointers)))
  pub object : IfOk r (λ o. LeadsTo (words_in new.segments) (place_view slot) (object_of_list o))
  pub list : IfOk r (λ o. (size_number o.size ≡ 7) × (o.claimed ≡ count * (size.data_words + size.pointers)) × (o.count ≡ count) × (o.data_words ≡ size.data_words) × (o.pointers ≡ size.pointers))
  pub there : IfOk r (λ o. HasWords new.segments o.start (1 + o.claimed))
  pub near : IfOk r (λ o. o.start.position + (1 + o.claimed) < 2 ^ 61)
  pub taken : OnOk r (TakesWhereRoom old new slot (1 + count * (size.data_words + size.pointers)))
  pub bound : OnOk r (TakesWithPad old new (1 + count * (size.data_words + size.pointers)))
  pub full : OnErr r ((2 ^ 29 ≤ count) ⊎ (2 ^ 29 ≤ count * (size.data_words + size.pointers)) ⊎ HasNoRoom old slot (1 + count * (size.data_words + size.pointers)))
  pub refused : OnErr r (new.segments ≡ old.segments)
  pub kind : IfErr r (λ e. (e.kind ≡ SizeOverflow) ↔ ((2 ^ 29 ≤ count) ⊎ (2 ^ 29 ≤ count * (size.data_words + size.pointers)) ⊎ PassesLimit old.segments (count * (size.data_words + size.pointers) + 2)))
  pub books : new.books ≡ old.books
  pub grows : OnOk r (KeepsAllWords old new)
  pub cause : IfErr r told

-- A list of n bytes stands in place of the value, these and zeros behind them. Or there is no room,
-- or they are too many, and all stands as it was.
pub record PutsBytes {X : Type 0} (old new : ArenaState) (slot : code.Place) (count : ℕ) (bytes : List ℕ) (r : Result X Error) (told : Error → Type 0) : Type 0 where
  pub value : IfOk r (λ o. BecomesAt old new slot (plain_list 2 count (number_of 8 bytes)))
  pub taken : OnOk r (TakesWhereRoom old new slot (words_for (8 * count)))
  pub bound : OnOk r (TakesWithPad old new (words_for (8 * count)))
  pub full : OnErr r ((2 ^ 29 ≤ count) ⊎ HasNoRoom old slot (words_for (8 * count)))
  pub refused : OnErr r (new.segments ≡ old.segments)
  pub kind : IfErr r (λ e. (e.kind ≡ SizeOverflow) ↔ ((2 ^ 29 ≤ count) ⊎ PassesLimit old.segments (words_for (8 * count) + 1)))
  pub books : new.books ≡ old.books
  pub grows : OnOk r (KeepsAllWords old new)
  pub cause : IfErr r told
