-- Values that are got, with a default in place of null. (Encoding, "Default Values")
use Rattle.std.specs.Prelude.{◌≡◌, ◌⊎◌, ⊤, ℕ, ◌+◌, ◌^◌, ◌<◌, ◌≤◌, Bool, true, false, List, Option, Some, None, Result, Ok, Err, IsOk, IfOk, IfErr, OnOk}
use Rattle.capnp_model.specs.Kinds.{Kind}
use Rattle.capnp_model.specs.Chains.{◌and_then◌}
use Rattle.capnp_model.specs.Segments.{Segments, Place, root, word_at}
use Rattle.capnp_model.specs.Trees.{Tree, widened}
use Rattle.capnp_model.specs.Traversal.{tree_at}
use Rattle.capnp_units.specs.declared.errors.Error.{Error}
use Rattle.capnp_units.specs.declared.sizes.ElementSize.{ElementSize}
use Rattle.capnp_units.specs.declared.sizes.StructSize.{StructSize}
use Rattle.capnp_units.specs.Errors.{kind_of}
use Rattle.capnp_units.specs.Segments.{words_in}
use Rattle.capnp_wire_objects.specs.declared.place.Place as code
use Rattle.capnp_wire_objects.specs.Objects.{object_at}
use Rattle.capnp_wire_objects.specs.Places.{place_view}
use Rattle.capnp_model_writes.specs.Footprints.{Owns}
use Rattle.capnp_model_writes.specs.Changes.{Replaces}
use Rattle.capnp_copy_values.specs.Defaults.{WritesDefault, TellsDefault, default_segments, is_null_or_absent}
use Rattle.capnp_copy_arenas.specs.Elements.{IsNullOrWhole}
use Rattle.capnp_copy_arenas.specs.Lists.{object_of_list}
use Rattle.capnp_copy_arenas.specs.States.{ArenaState, HasWords}
use Rattle.capnp_copy_arenas.specs.Structs.{object_of_struct}
use Rattle.capnp_copy_arenas.specs.Values.{LeadsTo}
use Rattle.capnp_copy_arenas.specs.declared.fields.StructPlace.{StructPlace}
use Rattle.capnp_copy_arenas.specs.declared.init.ListPlace.{ListPlace}
use Rattle.capnp_copy_widening.specs.Widened.{IsWide, WideStructRefused, StructTakes, StructLacks, IsStructOrNull}
use Rattle.capnp_copy_widening.specs.Got.{list_named}
use Rattle.capnp_copy_widening.specs.declared.lists.Taker.TheVariants as taker
use Rattle.capnp_copy_widening.specs.MovedElements.{as_structs}
use Rattle.capnp_copy_widening.specs.WidenedLists.{StructsGot, HasWideList, WideListRefused, ListTakes, ListTakesAtMost, ListLacks, list_there}

-- A default, where there is one, is written in place of null; else all stands as it was.
abbrev pub Begins : Option (List (List ℕ)) → Segments → Segments → Place → Result ⊤ Error → Type 0
Begins None s u p result = (u ≡ s) × (result ≡ Ok tt)
Begins (Some words) s u p result = WritesDefault (default_segments words) s u p result

-- What the default takes, and why it is refused, of which `told` tells what comes of no fault in it; none takes nothing, and isn't refused.
abbrev pub BeginsTold : Option (List (List ℕ)) → ArenaState → ArenaState → Place → Result ⊤ Error → (Error → Type 0) → Type 0
BeginsTold None s u p result told = (u.room ≡ s.room) × (result ≡ Ok tt)
BeginsTold (Some words) s u p result told = TellsDefault (default_segments words) p s u result told

-- What stands once the default is written, or nothing was to write.
pub record Begun (default : Option (List (List ℕ))) (s m : ArenaState) (p : Place) (told : Error → Type 0) : Type 0 where
  pub begins : Begins default (words_in s.segments) (words_in m.segments) p (Ok tt)
  pub tells : BeginsTold default s m p (Ok tt) told

-- The root's value in place of another, where that is null and the root isn't.
abbrev pub in_place : Bool → Bool → Segments → Tree → Option Tree
in_place false null_root default t = Some t
in_place true true default t = Some t
in_place true false default t = tree_at 64 default root

-- The value to begin with, where the pointer at a place has this one: the default's in place of null.
abbrev pub begun : Option (List (List ℕ)) → Segments → Place → Tree → Option Tree
begun None s p t = Some t
begun (Some words) s p t = in_place (is_null_or_absent s p) (is_null_or_absent (default_segments words) root) (default_segments words) t

-- Whatever value is owned there, or the default in place of null, becomes what the function makes of it, and nothing else changes. A default has 64 levels at most, and a widening may add one.
abbrev pub Gets : Option (List (List ℕ)) → Segments → Segments → Place → (Tree → Tree) → Type 0
Gets default s u p made = (n : ℕ) (t : Tree) → Owns n s p t → (v : Tree) × (begun default s p t ≡ Some v) × Replaces (n + 65) s u p (made v)

-- A struct of at least these sizes is got: the default is written first, and then what is there
-- widened, where it is narrower. The returned place is where the pointer leads.
pub record StructGot (default : Option (List (List ℕ))) (s u : Segments) (p : Place) (size : StructSize) (o : StructPlace) : Type 0 where
  pub begun_with : Segments
  pub begins : Begins default s begun_with p (Ok tt)
  pub stays : IsWide begun_with p size.data_words size.pointers → u ≡ begun_with
  pub wide : IsWide s p size.data_words size.pointers → u ≡ s
  pub value : Gets default s u p (widened size.data_words size.pointers)
  pub object : LeadsTo u p (object_of_struct o)
  pub enough : (size.data_words ≤ o.data_words) × (size.pointers ≤ o.pointers)

-- Why no struct of at least these sizes is returned, and what stands then. The default is refused;
-- or it stands, where there was one to write, and what is there is refused.
abbrev pub NoStructGot : Option (List (List ℕ)) → Segments → Segments → Place → StructSize → Error → Type 0
NoStructGot default s u p size e = Begins default s u p (Err e) ⊎ (Begins default s u p (Ok tt) × WideStructRefused u (object_at u p) size.data_words size.pointers e)

-- What it takes behind the default.
abbrev pub StructTaken : Option (List (List ℕ)) → ArenaState → ArenaState → code.Place → StructSize → (Error → Type 0) → Type 0
StructTaken default old new slot size told = (m : ArenaState) × Begun default old m (place_view slot) told × StructTakes (words_in m.segments) m.room (words_in new.segments) slot.segment (object_at (words_in m.segments) (place_view slot)) size.data_words size.pointers

-- The default is refused; or it stands, where there was one to write, and there is no room for a
-- struct in place of what is there. `told` says of the error why it came where a struct or null is
-- there.
abbrev pub StructLacking : Option (List (List ℕ)) → ArenaState → ArenaState → code.Place → StructSize → (Error → Type 0) → Error → Type 0
StructLacking default old new slot size told e =
    BeginsTold default old new (place_view slot) (Err e) told
    ⊎ ((m : ArenaState) × (new.segments ≡ m.segments) × Begun default old m (place_view slot) told
    × StructLacks (words_in m.segments) m.room slot.segment (object_at (words_in m.segments) (place_view slot)) size.data_words size.pointers
    × (IsStructOrNull (object_at (words_in m.segments) (place_view slot)) → told e))

-- A struct of at least these sizes is got, with all its words, or it isn't given; the arena borrows what it did. Of an error `told` says why it came, where it comes of nothing that is read.
pub record GetsStructOrDefault (default : Option (List (List ℕ))) (old new : ArenaState) (slot : code.Place) (size : StructSize) (r : Result StructPlace Error) (told : Error → Type 0) : Type 0 where
  pub got : IfOk r (StructGot default (words_in old.segments) (words_in new.segments) (place_view slot) size)
  pub there : IfOk r (λ o. HasWords new.segments o.start (o.data_words + o.pointers))
  pub near : IfOk r (λ o. o.start.position + (o.data_words + o.pointers) < 2 ^ 61)
  pub refused : IfErr r (NoStructGot default (words_in old.segments) (words_in new.segments) (place_view slot) size)
  pub taken : OnOk r (StructTaken default old new slot size told)
  pub lacking : IfErr r (StructLacking default old new slot size told)
  pub books : new.books ≡ old.books

-- A list is got: the default is written, and nothing else. The returned place is where the pointer
-- leads, and the list lies whole; null's is the empty list at the pointer itself.
pub record ListGot (default : Option (List (List ℕ))) (s u : Segments) (slot : code.Place) (expected : ElementSize) (o : ListPlace) : Type 0 where
  pub begins : Begins default s u (place_view slot) (Ok tt)
  pub value : Gets default s u (place_view slot) (λ v. v)
  pub list : list_named taker.Builder u slot expected ≡ Ok o
  pub object : (word_at u (place_view slot) ≡ Some 0) ⊎ LeadsTo u (place_view slot) (object_of_list o)
  pub inside : IsNullOrWhole u (place_view slot) o

-- Why no list is given, and what stands then, as of structs.
abbrev pub NoListGot : Option (List (List ℕ)) → Segments → Segments → code.Place → ElementSize → Error → Type 0
NoListGot default s u slot expected e = Begins default s u (place_view slot) (Err e) ⊎ (Begins default s u (place_view slot) (Ok tt) × (list_named taker.Builder u slot expected ≡ Err (kind_of e.kind)))

-- A list is got or isn't given, and the arena borrows what it did. The default alone takes words, and of an error `told` says why it came, where it comes of nothing that is read.
pub record GetsListOrDefault (default : Option (List (List ℕ))) (old new : ArenaState) (slot : code.Place) (expected : ElementSize) (r : Result ListPlace Error) (told : Error → Type 0) : Type 0 where
  pub got : IfOk r (ListGot default (words_in old.segments) (words_in new.segments) slot expected)
  pub refused : IfErr r (NoListGot default (words_in old.segments) (words_in new.segments) slot expected)
  pub taken : OnOk r (BeginsTold default old new (place_view slot) (Ok tt) told)
  pub lacking : IfErr r (λ e. BeginsTold default old new (place_view slot) (Err e) told ⊎ BeginsTold default old new (place_view slot) (Ok tt) told)
  pub books : new.books ≡ old.books

-- A list of structs of at least these sizes is got: the default is written first, and then what is there widened, where its elements are narrower or no structs.
pub record StructListGot (default : Option (List (List ℕ))) (s u : Segments) (slot : code.Place) (size : StructSize) (o : ListPlace) : Type 0 where
  pub begun_with : Segments
  pub begins : Begins default s begun_with (place_view slot) (Ok tt)
  pub stays : HasWideList begun_with slot size.data_words size.pointers → u ≡ begun_with
  pub value : Gets default s u (place_view slot) (as_structs size.data_words size.pointers)
  pub list : StructsGot begun_with u slot size.data_words size.pointers o

-- Why no such list is given, and what stands then, as of structs.
abbrev pub NoStructListGot : Option (List (List ℕ)) → Segments → Segments → code.Place → StructSize → Error → Type 0
NoStructListGot default s u slot size e = Begins default s u (place_view slot) (Err e) ⊎ (Begins default s u (place_view slot) (Ok tt) × WideListRefused u (place_view slot) (list_there u slot) size.data_words size.pointers e)

-- What it takes behind the default.
pub record ListTaken (default : Option (List (List ℕ))) (old new : ArenaState) (slot : code.Place) (size : StructSize) (told : Error → Type 0) : Type 0 where
  pub begun_with : ArenaState
  pub begun : Begun default old begun_with (place_view slot) told
  pub takes : ListTakes (words_in begun_with.segments) begun_with.room (words_in new.segments) slot size.data_words size.pointers
  pub bound : ListTakesAtMost (words_in begun_with.segments) (words_in new.segments) slot size.data_words size.pointers

-- The default is refused; or it stands, where there was one to write, and there is no room for a
-- list of structs in place of what is there. `told` says of the error why it came where a list of
-- structs can be had.
abbrev pub ListLacking : Option (List (List ℕ)) → ArenaState → ArenaState → code.Place → StructSize → (Error → Type 0) → Error → Type 0
ListLacking default old new slot size told e =
    BeginsTold default old new (place_view slot) (Err e) told
    ⊎ ((m : ArenaState) × (new.segments ≡ m.segments) × Begun default old m (place_view slot) told
    × ListLacks (words_in m.segments) m.room slot.segment (list_there (words_in m.segments) slot) size.data_words size.pointers
    × (IsOk (list_there (words_in m.segments) slot) → told e))

-- A list of structs of at least these sizes is got or isn't given, and the arena borrows what it did. Of an error `told` says why it came, where it comes of nothing that is read.
pub record GetsStructListOrDefault (default : Option (List (List ℕ))) (old new : ArenaState) (slot : code.Place) (size : StructSize) (r : Result ListPlace Error) (told : Error → Type 0) : Type 0 where
  pub got : IfOk r (StructListGot default (words_in old.segments) (words_in new.segments) slot size)
  pub refused : IfErr r (NoStructListGot default (words_in old.segments) (words_in new.segments) slot size)
  pub taken : OnOk r (ListTaken default old new slot size told)
  pub lacking : IfErr r (ListLacking default old new slot size told)
  pub books : new.books ≡ old.books
