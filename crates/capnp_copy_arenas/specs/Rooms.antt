-- Room for new objects, and the pointers to them.
use Rattle.std.specs.Prelude.{◌≡◌, ◌↔◌, ℕ, ◌+◌, ◌-◌, ◌*◌, ◌^◌, ◌<◌, List, [], ◌∷◌, true}
use Rattle.std.specs.Option.{is_some}
use Rattle.capnp_model.specs.Segments.{Segments, Place, after, words_at}
use Rattle.capnp_units.specs.Segments.{words_in}
use Rattle.capnp_units.specs.declared.errors.Error.{Error}
use Rattle.capnp_units.specs.declared.kinds.ErrorKind.TheVariants.{SizeOverflow}
use Rattle.capnp_wire_objects.specs.declared.place.Place as code
use Rattle.capnp_wire_objects.specs.Places.{place_view}
use Rattle.capnp_model_writes.specs.Writes.{with_words}
use Rattle.capnp_copy_arenas.specs.Allocations.{Allocates, HasRoom, UsesRoom, NoRoom, PassesLimit}
use Rattle.capnp_copy_arenas.specs.declared.room.Room.{Room}
use Rattle.capnp_copy_arenas.specs.declared.room.Room.TheVariants.{Here, Near, Far}

-- n new words for an object that the pointer at a place will name. Where n is 0 the object is at
-- the pointer itself. Else the words are in the pointer's segment, or in any, behind one word more,
-- which is for the pad. (Encoding, "Inter-Segment Pointers")
abbrev pub RoomFor : Segments → Segments → Place → ℕ → Room → Type 0
RoomFor s u p n Here = (n ≡ 0) × (u ≡ s)
RoomFor s u p n (Near offset) = (0 < n) × Allocates s u p.segment (p.position + 1 + offset) n
RoomFor s u p n (Far pad) = (0 < n) × Allocates s u pad.segment pad.position (1 + n) × (pad.segment < 2 ^ 32)

-- n new words for an object that the pointer at a place will name, of an arena's bytes.
abbrev pub MakesRoom : List (List ℕ) → List (List ℕ) → code.Place → ℕ → Room → Type 0
MakesRoom old new slot n room = RoomFor (words_in old) (words_in new) (place_view slot) n room

-- There is a pad exactly where the pointer's segment has no room. The list tells the free words of
-- each segment.
abbrev pub IsNearWhereRoom : Segments → List ℕ → ℕ → ℕ → Room → Type 0
IsNearWhereRoom s free i n Here = Unit {0}
IsNearWhereRoom s free i n (Near offset) = HasRoom s free i n
IsNearWhereRoom s free i n (Far pad) = HasRoom s free i n → ⊥

-- n words fewer of the ith segment are free, where there is no pad.
abbrev pub UsesRoomNear : List ℕ → List ℕ → ℕ → ℕ → Room → Type 0
UsesRoomNear old new i n Here = UsesRoom old new i n
UsesRoomNear old new i n (Near offset) = UsesRoom old new i n
UsesRoomNear old new i n (Far pad) = Unit {0}

-- The same of an arena's bytes, for the pointer at a place.
abbrev pub IsNearSlot : List (List ℕ) → List ℕ → code.Place → ℕ → Room → Type 0
IsNearSlot bytes free slot n room = IsNearWhereRoom (words_in bytes) free slot.segment n room

abbrev pub UsesNearSlot : List ℕ → List ℕ → code.Place → ℕ → Room → Type 0
UsesNearSlot old new slot n room = UsesRoomNear old new slot.segment n room

-- Words are wanted, and there is no room for them in the pointer's segment, nor in the last with a pad.
abbrev pub LacksRoom : List (List ℕ) → List ℕ → code.Place → ℕ → Type 0
LacksRoom bytes free slot n = NoRoom (words_in bytes) free slot.segment n

-- Words are wanted, and are refused with `SizeOverflow` exactly where with them and a pad the message would pass its limit.
abbrev pub IsSizeOfWords : List (List ℕ) → ℕ → Error → Type 0
IsSizeOfWords bytes n e = (0 < n) × ((e.kind ≡ SizeOverflow) ↔ PassesLimit bytes (n + 1))

-- A pointer can tell it: an offset has thirty bits with its sign, a pad's position 29.
abbrev pub IsAddressed : Room → Type 0
IsAddressed Here = Unit {0}
IsAddressed (Near offset) = offset < 2 ^ 29
IsAddressed (Far pad) = pad.position < 2 ^ 29

-- The pad's word is there.
abbrev pub HasPad : Segments → Room → Type 0
HasPad s (Far pad) = is_some (words_at s (place_view pad) 1) ≡ true
HasPad s _ = Unit {0}

-- Where an object begins in such room.
abbrev pub begin_of : Place → Room → Place
begin_of p Here = p
begin_of p (Near offset) = after p (1 + offset)
begin_of p (Far pad) = after (place_view pad) 1

-- The word of a pointer that is told with offset 0. An object without words lies in front of the pointer's end.
abbrev pub slot_word : Room → ℕ → ℕ
slot_word Here w = w + 4 * (2 ^ 30 - 1)
slot_word (Near offset) w = w + 4 * offset
slot_word (Far pad) w = 2 + 8 * pad.position + 2 ^ 32 * pad.segment

-- The segments after the pad, where there is one, is written.
abbrev pub with_pad : Segments → Room → ℕ → Segments
with_pad s (Far pad) w = with_words s (place_view pad) (w ∷ [])
with_pad s _ w = s

-- The segments after the pointer at a place names the object in such room, the pad first.
abbrev pub linked : Segments → Place → Room → ℕ → Segments
linked s p room w = with_words (with_pad s room w) p (slot_word room w ∷ [])
