-- Lists that are got as lists of structs, and widened. (Encoding, "Lists")
use Rattle.std.specs.Prelude.{◌≡◌, ◌⊎◌, ℕ, suc, max, ◌+◌, ◌*◌, ◌^◌, ◌≤◌, List, Some, Result, Ok, Err, IsOk, IfOk, IfErr, OnOk, OnErr}
use Rattle.capnp_model.specs.Kinds.{Kind}
use Rattle.capnp_model.specs.Segments.{Segments, Place, word_at}
use Rattle.capnp_model.specs.Trees.{Tree}
use Rattle.capnp_units.specs.declared.errors.Error.{Error}
use Rattle.capnp_units.specs.declared.sizes.ElementSize.TheVariants.{InlineComposite}
use Rattle.capnp_units.specs.declared.sizes.StructSize.{StructSize}
use Rattle.capnp_units.specs.Errors.{kind_of}
use Rattle.capnp_units.specs.Segments.{words_in}
use Rattle.capnp_wire_objects.specs.Places.{place_view}
use Rattle.capnp_wire_objects.specs.declared.place.Place as code
use Rattle.capnp_model_writes.specs.Footprints.{Owns}
use Rattle.capnp_model_writes.specs.Changes.{Replaces}
use Rattle.capnp_copy_arenas.specs.Elements.{IsWhole}
use Rattle.capnp_copy_arenas.specs.Lists.{object_of_list}
use Rattle.capnp_copy_arenas.specs.States.{ArenaState}
use Rattle.capnp_copy_arenas.specs.Values.{LeadsTo}
use Rattle.capnp_copy_arenas.specs.declared.init.ListPlace.{ListPlace}
use Rattle.capnp_copy_widening.specs.Got.{list_named}
use Rattle.capnp_copy_widening.specs.declared.lists.Taker.TheVariants as taker
use Rattle.capnp_copy_widening.specs.MovedElements.{as_structs, least_data_words, least_pointers, HasStructs}
use Rattle.capnp_copy_arenas.specs.Allocations.{TakesAtMost}
use Rattle.capnp_copy_widening.specs.Widened.{GrowthRefused, TakesNear, NoWiderRoom, TakesNearObject, LacksWiderRoom}

-- The list that the pointer at a place names, of elements that can be structs, else the kind of the fault: a list of bits can't.
abbrev pub list_there : Segments → code.Place → Result ListPlace Kind
list_there s slot = list_named taker.Reader s slot InlineComposite

-- Whatever value is owned there becomes a list of structs of at least n data words and pointers,
-- null stays, and nothing else changes.
abbrev pub WidensList : Segments → Segments → Place → ℕ → ℕ → Type 0
WidensList s u p d k = (n : ℕ) (t : Tree) → Owns n s p t → Replaces (suc n) s u p (as_structs d k t)

-- A list of structs of at least these sizes.
abbrev pub IsWideList : ListPlace → ℕ → ℕ → Type 0
IsWideList o d k = (o.size ≡ InlineComposite) × (d ≤ o.data_words) × (k ≤ o.pointers)

-- Null is there, or such a list.
abbrev pub HasWideList : Segments → code.Place → ℕ → ℕ → Type 0
HasWideList s slot d k = (word_at s (place_view slot) ≡ Some 0) ⊎ ((o : ListPlace) × (list_there s slot ≡ Ok o) × IsWideList o d k)

-- The words that a new list of structs of these sizes takes in place of one: its structs' words, a
-- tag, a pad, and two for each old pointer.
abbrev pub words_wanted : ListPlace → ℕ → ℕ → ℕ
words_wanted o d k = o.count * (d + k) + 2 + 2 * (o.count * least_pointers o)

-- The list of structs that is returned in place of one: as many elements, of the greater of both
-- sizes, where the pointer leads, and whole. Null's is the empty one at the pointer itself.
pub record StructsGot (s u : Segments) (slot : code.Place) (d k : ℕ) (o : ListPlace) : Type 0 where
  pub old : ListPlace
  pub was_there : list_there s slot ≡ Ok old
  pub of_structs : o.size ≡ InlineComposite
  pub as_many : o.count ≡ old.count
  pub given : ((word_at s (place_view slot) ≡ Some 0) × (o ≡ old) × (o.count ≡ 0)) ⊎ (LeadsTo u (place_view slot) (object_of_list o) × (o.data_words ≡ max d (least_data_words old)) × (o.pointers ≡ max k (least_pointers old)) × IsWhole u o)

-- Where a list is widened whose segment had room for the new one, exactly the words of the new one,
-- its tag and a pad are new in the message. So no pad is taken without need.
abbrev pub ListTakes : Segments → List ℕ → Segments → code.Place → ℕ → ℕ → Type 0
ListTakes s free u slot d k = (o : ListPlace) → list_there s slot ≡ Ok o → (HasWideList s slot d k → ⊥) → TakesNear s free u slot.segment o.start.segment (1 + o.count * (max d (least_data_words o) + max k (least_pointers o)))

-- The words of a new list of structs with its tag.
abbrev pub words_of_structs : ListPlace → ℕ → ℕ → ℕ
words_of_structs o d k = 1 + o.count * (max d (least_data_words o) + max k (least_pointers o))

-- A list takes at most the words of the new one, its tag, a pad, and two for each pointer of the old.
abbrev pub ListTakesAtMost : Segments → Segments → code.Place → ℕ → ℕ → Type 0
ListTakesAtMost s u slot d k = (o : ListPlace) → list_there s slot ≡ Ok o → TakesAtMost s u (words_of_structs o d k) (1 + 2 * (o.count * least_pointers o))

-- There was no room for a new list in place of one.
abbrev pub ListLacks : Segments → List ℕ → ℕ → Result ListPlace Kind → ℕ → ℕ → Type 0
ListLacks s free i (Err kind) d k = Unit {0}
ListLacks s free i (Ok o) d k = NoWiderRoom s free i o.start.segment (words_of_structs o d k) (2 * (o.count * least_pointers o))

-- Why no such list is returned: what is there is no list, or one of bits; or a new list's words in
-- place of a narrower one are refused.
abbrev pub WideListRefused : Segments → Place → Result ListPlace Kind → ℕ → ℕ → Error → Type 0
WideListRefused s p (Err kind) d k e = kind ≡ kind_of e.kind
WideListRefused s p (Ok o) d k e = (word_at s p ≡ Some 0 → ⊥) × (IsWideList o d k → ⊥) × GrowthRefused s (words_wanted o (max d (least_data_words o)) (max k (least_pointers o))) e

-- A list of structs of these sizes stands in place of a narrower list, at the place that is
-- returned. Or there is no room, and all stands as it was; `told` says of an error why it came.
pub record WidensToList (old new : ArenaState) (slot : code.Place) (was : ListPlace) (wanted : StructSize) (r : Result ListPlace Error) (told : Error → Type 0) : Type 0 where
  pub value : IfOk r (λ o. WidensList (words_in old.segments) (words_in new.segments) (place_view slot) wanted.data_words wanted.pointers)
  pub object : IfOk r (λ o. LeadsTo (words_in new.segments) (place_view slot) (object_of_list o))
  pub list : IfOk r (λ o. (o.size ≡ InlineComposite) × (o.count ≡ was.count) × (o.data_words ≡ wanted.data_words) × (o.pointers ≡ wanted.pointers))
  pub there : IfOk r (HasStructs (words_in new.segments))
  pub inside : IfOk r (IsWhole (words_in new.segments))
  pub taken : OnOk r (TakesNearObject old new slot was.start.segment (1 + was.count * (wanted.data_words + wanted.pointers)))
  pub bound : OnOk r (TakesAtMost (words_in old.segments) (words_in new.segments) (1 + was.count * (wanted.data_words + wanted.pointers)) (1 + 2 * (was.count * least_pointers was)))
  pub full : OnErr r (LacksWiderRoom old slot was.start.segment (1 + was.count * (wanted.data_words + wanted.pointers)) (2 * (was.count * least_pointers was)))
  pub refused : OnErr r (new.segments ≡ old.segments)
  pub kind : IfErr r (GrowthRefused (words_in old.segments) (words_wanted was wanted.data_words wanted.pointers))
  pub books : new.books ≡ old.books
  pub cause : IfErr r told

-- The list stands at the place that is returned as one of structs of at least these sizes; one that
-- is wide enough, and null, stays. Or it is refused, and all stands as it was; where a list of
-- structs can be had, `told` says why.
pub record GetsStructList (old new : ArenaState) (slot : code.Place) (wanted : StructSize) (r : Result ListPlace Error) (told : Error → Type 0) : Type 0 where
  pub value : IfOk r (λ o. WidensList (words_in old.segments) (words_in new.segments) (place_view slot) wanted.data_words wanted.pointers)
  pub list : IfOk r (StructsGot (words_in old.segments) (words_in new.segments) slot wanted.data_words wanted.pointers)
  pub taken : OnOk r (ListTakes (words_in old.segments) old.room (words_in new.segments) slot wanted.data_words wanted.pointers)
  pub bound : OnOk r (ListTakesAtMost (words_in old.segments) (words_in new.segments) slot wanted.data_words wanted.pointers)
  pub full : OnErr r (ListLacks (words_in old.segments) old.room slot.segment (list_there (words_in old.segments) slot) wanted.data_words wanted.pointers)
  pub wide : HasWideList (words_in old.segments) slot wanted.data_words wanted.pointers → new.segments ≡ old.segments
  pub refused : OnErr r (new.segments ≡ old.segments)
  pub kind : IfErr r (WideListRefused (words_in old.segments) (place_view slot) (list_there (words_in old.segments) slot) wanted.data_words wanted.pointers)
  pub books : new.books ≡ old.books
  pub cause : IsOk (list_there (words_in old.segments) slot) → IfErr r told
