-- Structs that are widened. (Encoding, "Structs")
use Rattle.std.specs.Prelude.{◌≡◌, ◌↔◌, ◌⊎◌, ℕ, suc, max, length, ◌+◌, ◌-◌, ◌*◌, ◌^◌, ◌<◌, ◌≤◌, List, Option, Some, None, Result, Ok, Err, IfOk, IfErr, OnOk, OnErr}
use Rattle.capnp_model.specs.Kinds.{Kind}
use Rattle.capnp_model.specs.Segments.{Segments, Place, after}
use Rattle.capnp_model.specs.Pointers.{a_struct}
use Rattle.capnp_model.specs.Trees.{Tree, widened}
use Rattle.capnp_units.specs.declared.errors.Error.{Error}
use Rattle.capnp_units.specs.declared.kinds.ErrorKind.TheVariants.{SizeOverflow, WrongPointerKind}
use Rattle.capnp_units.specs.declared.sizes.StructSize.{StructSize}
use Rattle.capnp_units.specs.Errors.{kind_of}
use Rattle.capnp_units.specs.Segments.{words_in}
use Rattle.capnp_wire_objects.specs.Places.{place_view}
use Rattle.capnp_wire_objects.specs.declared.place.Place as code
use Rattle.capnp_wire_objects.specs.declared.object.Object.{Object}
use Rattle.capnp_wire_objects.specs.declared.object.Object.TheVariants as object
use Rattle.capnp_wire_objects.specs.declared.object.Found.{Found}
use Rattle.capnp_wire_objects.specs.Objects.{object_at}
use Rattle.capnp_model_writes.specs.Footprints.{Owns}
use Rattle.capnp_model_writes.specs.Changes.{Replaces}
use Rattle.capnp_copy_arenas.specs.Allocations.{total_words, HasRoom, TakesJust, TakesAtMost, NoRoom}
use Rattle.capnp_copy_arenas.specs.Rooms.{RoomFor, begin_of}
use Rattle.capnp_copy_arenas.specs.States.{ArenaState, HasWords}
use Rattle.capnp_copy_arenas.specs.Structs.{object_of_struct}
use Rattle.capnp_copy_arenas.specs.Values.{LeadsTo}
use Rattle.capnp_copy_arenas.specs.declared.fields.StructPlace.{StructPlace}
use Rattle.capnp_copy_arenas.specs.declared.room.Room.{Room}

-- Room for a wider object that the pointer at a place will name: in the old object's segment, or
-- anywhere. In the latter case n words more are there behind it, for pads of the pointers that move
-- to it.
abbrev pub WiderRoom : Segments → Segments → Place → ℕ → ℕ → ℕ → Room → Option code.Place → Type 0
WiderRoom s u p segment n pads room None = RoomFor s u p n room × ((begin_of p room).segment ≡ segment)
WiderRoom s u p segment n pads room (Some q) = RoomFor s u p (n + pads) room × (place_view q ≡ after (begin_of p room) n)

-- Where a segment had room for n words, and for a pad's where the pointer is in another, exactly
-- these are new in the message. The list tells the free words of each segment.
abbrev pub TakesNear : Segments → List ℕ → Segments → ℕ → ℕ → ℕ → Type 0
TakesNear s free u i j n = (i ≡ j → TakesJust s free u j n) × ((i ≡ j → ⊥) → TakesJust s free u j (1 + n))

-- n words and pads are refused only where neither of two segments has room. The jth lacks it for
-- the words, and for a pad's where the pointer is in another; the last for all.
abbrev pub NoWiderRoom : Segments → List ℕ → ℕ → ℕ → ℕ → ℕ → Type 0
NoWiderRoom s free i j n pads =
    (i ≡ j → HasRoom s free j n → ⊥) × ((i ≡ j → ⊥) → HasRoom s free j (1 + n) → ⊥) × (HasRoom s free (length s - 1) (1 + (n + pads)) → ⊥)

-- Room for a wider object, of an arena's state before and after, and of what is returned.
abbrev pub MakesWiderRoom : ArenaState → ArenaState → code.Place → ℕ → ℕ → ℕ → Room × Option code.Place → Type 0
MakesWiderRoom old new slot segment n pads r = WiderRoom (words_in old.segments) (words_in new.segments) (place_view slot) segment n pads r.0 r.1

-- What is taken near the old object, of an arena's state before and after.
abbrev pub TakesNearObject : ArenaState → ArenaState → code.Place → ℕ → ℕ → Type 0
TakesNearObject old new slot segment n = TakesNear (words_in old.segments) old.room (words_in new.segments) slot.segment segment n

-- n words and pads have no room, of an arena's state before.
abbrev pub LacksWiderRoom : ArenaState → code.Place → ℕ → ℕ → ℕ → Type 0
LacksWiderRoom old slot segment n pads = NoWiderRoom (words_in old.segments) old.room slot.segment segment n pads

-- Whatever value is owned there is widened to at least n data words and pointers, null to a struct
-- of exactly these, and nothing else changes.
abbrev pub Widens : Segments → Segments → Place → ℕ → ℕ → Type 0
Widens s u p d k = (n : ℕ) (t : Tree) → Owns n s p t → Replaces (suc n) s u p (widened d k t)

-- The pointer at a place leads to a struct of at least these sizes.
abbrev pub IsWide : Segments → Place → ℕ → ℕ → Type 0
IsWide s p d k = (a : Place) × (w : ℕ) × (m : ℕ) × LeadsTo s p (a_struct a w m) × (d ≤ w) × (k ≤ m)

-- The words that a struct of at least these sizes takes in place of an object, which the pointer in
-- the ith segment leads to. They are exactly its own where there is room; else at most a pad's more
-- for null, and for a narrower one also two for each pointer of the old.
abbrev pub ObjectTakes : Segments → List ℕ → Segments → ℕ → Object → ℕ → ℕ → Type 0
ObjectTakes s free u i object.Null d k = TakesJust s free u i (d + k) × TakesAtMost s u (d + k) 1
ObjectTakes s free u i (object.Struct p w m) d k = ((w < d) ⊎ (m < k) → TakesNear s free u i p.segment (max d w + max k m)) × TakesAtMost s u (max d w + max k m) (1 + 2 * m)
ObjectTakes s free u i _ d k = Unit {0}

-- the same of what is found
abbrev pub StructTakes : Segments → List ℕ → Segments → ℕ → Result Found Kind → ℕ → ℕ → Type 0
StructTakes s free u i (Err kind) d k = Unit {0}
StructTakes s free u i (Ok f) d k = ObjectTakes s free u i f.object d k

-- There was no room for such a struct.
abbrev pub ObjectLacks : Segments → List ℕ → ℕ → Object → ℕ → ℕ → Type 0
ObjectLacks s free i object.Null d k = NoRoom s free i (d + k)
ObjectLacks s free i (object.Struct p w m) d k = NoWiderRoom s free i p.segment (max d w + max k m) (2 * m)
ObjectLacks s free i _ d k = Unit {0}

abbrev pub StructLacks : Segments → List ℕ → ℕ → Result Found Kind → ℕ → ℕ → Type 0
StructLacks s free i (Err kind) d k = Unit {0}
StructLacks s free i (Ok f) d k = ObjectLacks s free i f.object d k

-- A struct is found, or null, so that one of any sizes can be given.
abbrev pub IsObjectOfStruct : Object → Type 0
IsObjectOfStruct object.Null = Unit {0}
IsObjectOfStruct (object.Struct p w m) = Unit {0}
IsObjectOfStruct _ = ⊥

abbrev pub IsStructOrNull : Result Found Kind → Type 0
IsStructOrNull (Err kind) = ⊥
IsStructOrNull (Ok f) = IsObjectOfStruct f.object

-- n words more are refused: with `SizeOverflow` exactly where the message's words would pass
-- 2^29 - 1.
abbrev pub GrowthRefused : Segments → ℕ → Error → Type 0
GrowthRefused s n e = (e.kind ≡ SizeOverflow) ↔ (2 ^ 29 ≤ total_words s + n)

-- n words more are refused, of segments by their bytes: with `SizeOverflow` exactly where the
-- message's words would pass 2^29 - 1.
abbrev pub RefusesWords : List (List ℕ) → ℕ → Error → Type 0
RefusesWords bytes n e = GrowthRefused (words_in bytes) n e

-- Why an object isn't returned as a struct of at least these sizes: it is another one, or words are
-- refused. These are a new struct's and a pad, and for a narrower one also two for each pointer of
-- the old.
abbrev pub WideObjectRefused : Segments → Object → ℕ → ℕ → Error → Type 0
WideObjectRefused s object.Null d k e = GrowthRefused s (d + k + 1) e
WideObjectRefused s (object.Struct p w m) d k e = ((w < d) ⊎ (m < k)) × GrowthRefused s (max d w + max k m + 1 + 2 * m) e
WideObjectRefused s _ d k e = e.kind ≡ WrongPointerKind

-- Why no such struct is given: the fault of what is there, or the object.
abbrev pub WideStructRefused : Segments → Result Found Kind → ℕ → ℕ → Error → Type 0
WideStructRefused s (Err kind) d k e = kind ≡ kind_of e.kind
WideStructRefused s (Ok f) d k e = WideObjectRefused s f.object d k e

-- A struct of these sizes stands in place of a narrower one, at the place that is returned. Or
-- there is no room, and all stands as it was; `told` says of an error why it came.
pub record WidensStruct (old new : ArenaState) (slot : code.Place) (was : StructPlace) (wanted : StructSize) (r : Result StructPlace Error) (told : Error → Type 0) : Type 0 where
  pub value : IfOk r (λ o. Widens (words_in old.segments) (words_in new.segments) (place_view slot) wanted.data_words wanted.pointers)
  pub object : IfOk r (λ o. LeadsTo (words_in new.segments) (place_view slot) (object_of_struct o))
  pub size : IfOk r (λ o. (o.data_words ≡ wanted.data_words) × (o.pointers ≡ wanted.pointers))
  pub there : IfOk r (λ o. HasWords new.segments o.start (o.data_words + o.pointers))
  pub near : IfOk r (λ o. o.start.position + (o.data_words + o.pointers) < 2 ^ 61)
  pub taken : OnOk r (TakesNearObject old new slot was.start.segment (wanted.data_words + wanted.pointers))
  pub bound : OnOk r (TakesAtMost (words_in old.segments) (words_in new.segments) (wanted.data_words + wanted.pointers) (1 + 2 * was.pointers))
  pub full : OnErr r (LacksWiderRoom old slot was.start.segment (wanted.data_words + wanted.pointers) (2 * was.pointers))
  pub refused : OnErr r (new.segments ≡ old.segments)
  pub kind : IfErr r (GrowthRefused (words_in old.segments) (wanted.data_words + wanted.pointers + 1 + 2 * was.pointers))
  pub books : new.books ≡ old.books
  pub cause : IfErr r told

-- A struct of at least these sizes stands at the place that is returned, in place of null or of a
-- narrower one; one that is wide enough stays. Or it is refused, and all stands as it was; where a
-- struct or null is found, `told` says why.
pub record GetsStruct (old new : ArenaState) (slot : code.Place) (wanted : StructSize) (r : Result StructPlace Error) (told : Error → Type 0) : Type 0 where
  pub value : IfOk r (λ o. Widens (words_in old.segments) (words_in new.segments) (place_view slot) wanted.data_words wanted.pointers)
  pub object : IfOk r (λ o. LeadsTo (words_in new.segments) (place_view slot) (object_of_struct o))
  pub size : IfOk r (λ o. (wanted.data_words ≤ o.data_words) × (wanted.pointers ≤ o.pointers))
  pub wide : IsWide (words_in old.segments) (place_view slot) wanted.data_words wanted.pointers → new.segments ≡ old.segments
  pub there : IfOk r (λ o. HasWords new.segments o.start (o.data_words + o.pointers))
  pub near : IfOk r (λ o. o.start.position + (o.data_words + o.pointers) < 2 ^ 61)
  pub taken : OnOk r (StructTakes (words_in old.segments) old.room (words_in new.segments) slot.segment (object_at (words_in old.segments) (place_view slot)) wanted.data_words wanted.pointers)
  pub full : OnErr r (StructLacks (words_in old.segments) old.room slot.segment (object_at (words_in old.segments) (place_view slot)) wanted.data_words wanted.pointers)
  pub refused : OnErr r (new.segments ≡ old.segments)
  pub kind : IfErr r (WideStructRefused (words_in old.segments) (object_at (words_in old.segments) (place_view slot)) wanted.data_words wanted.pointers)
  pub books : new.books ≡ old.books
  pub cause : IsStructOrNull (object_at (words_in old.segments) (place_view slot)) → IfErr r told
