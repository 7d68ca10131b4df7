-- Untyped pointers that are built. (Encoding, "Pointers")
use Rattle.std.specs.Prelude.{◌≡◌, ◌↔◌, ◌==◌, ◌<◌, ◌^◌, ℕ, ℤ, Bool, true, List, map, length, unwrap_or, Option, Result, Ok, IfOk, IfErr, OnErr}
use Rattle.std.specs.Option.{is_some}
use Rattle.capnp_model.specs.Segments.{Segments, word_at, words_at}
use Rattle.capnp_units.specs.Segments.{words_in}
use Rattle.capnp_units.specs.declared.errors.Error.{Error}
use Rattle.capnp_units.specs.declared.kinds.ErrorKind.TheVariants.{SizeOverflow}
use Rattle.capnp_wire_objects.specs.declared.place.Place as code
use Rattle.capnp_wire_objects.specs.Places.{place_view}
use Rattle.capnp_wire.specs.Views.{PointerView, pointer_at}
use Rattle.capnp_copy_arenas.specs.Allocations.{total_words}
use Rattle.capnp_copy_arenas.specs.Clearing.{ClearsValue}
use Rattle.capnp_copy_arenas.specs.declared.arena.Memory.{Memory}
use Rattle.capnp_layout_builders.specs.Gets.{Begins}
use Rattle.capnp_layout_builders.specs.declared.pointer_builder.PointerBuilder.{PointerBuilder}
use Rattle.capnp_schema_values.specs.declared.any_pointer.Builder.{Builder}

-- The pointer's word is there.
pub record IsPointerThere (s : Segments) (p : code.Place) : Type 0 where
  pub word : is_some (words_at s (place_view p) 1) ≡ true
  pub near : p.position < 2 ^ 61

module _ {A : Type 0} (bytes : A → List (List ℕ)) where
  -- The words of the message.
  abbrev pub words_around_pointer : Builder A → Segments
  words_around_pointer b = words_in (bytes b.memory.now.arena)

  -- The pointer's word is there.
  abbrev pub IsReadyPointer : Builder A → Type 0
  IsReadyPointer b = IsPointerThere (words_around_pointer b) b.place

  -- It is null, a word of zeros.
  abbrev pub is_built_null : Builder A → Bool
  is_built_null b = unwrap_or (word_at (words_around_pointer b) (place_view b.place)) 0 == 0

  -- The pointer as readers see it, under the arena's nesting limit.
  abbrev pub pointer_view_of : (A → ℤ) → Builder A → PointerView
  pointer_view_of nesting b = pointer_at (bytes b.memory.now.arena) (nesting b.memory.now.arena) (place_view b.place)

  -- The value becomes null, all words behind the pointer become zero, and nothing else changes; no segment changes its length.
  pub record ClearsUntyped (old new : Builder A) : Type 0 where
    pub same : new.memory.ghost_name ≡ old.memory.ghost_name
    pub place : new.place ≡ old.place
    pub sizes : map length (words_around_pointer new) ≡ map length (words_around_pointer old)
    pub clears : ClearsValue (words_around_pointer old) (words_around_pointer new) (place_view old.place)

  -- A value is made there, with a count, and its handle returned. Or it is refused, with
  -- `SizeOverflow` exactly where it is too large, else as `told` says, and all words stand.
  pub record InitsAs {X : Type 0} (borrowed : A → List (List ℕ)) (told : Error → Type 0) (Made : Segments → Segments → code.Place → ℕ → X → Type 0) (TooLarge : ℕ → ℕ → Type 0) (count : ℕ) (old new : Builder A) (r : Result X Error) : Type 0 where
    pub made : IfOk r (Made (words_around_pointer old) (words_around_pointer new) old.place count)
    pub refused : OnErr r (bytes new.memory.now.arena ≡ bytes old.memory.now.arena)
    pub kind : IfErr r (λ e. (e.kind ≡ SizeOverflow) ↔ TooLarge count (total_words (words_around_pointer old)))
    pub cause : IfErr r told
    pub books : borrowed new.memory.now.arena ≡ borrowed old.memory.now.arena

  -- The pointer that was made null, by the handle that it was made of.
  abbrev pub IsMadeNull : PointerBuilder A → Builder A → Type 0
  IsMadeNull old o = ClearsValue (words_in (bytes old.memory.now.arena)) (words_around_pointer o) (place_view old.place) × (o.place ≡ old.place)

  -- The pointer that was got as what is there, with a default in place of null.
  abbrev pub IsGotAsItIs : Option (List (List ℕ)) → PointerBuilder A → Builder A → Type 0
  IsGotAsItIs default old o = Begins default (words_in (bytes old.memory.now.arena)) (words_around_pointer o) (place_view old.place) (Ok tt) × (o.place ≡ old.place)

  -- What a memory is left as: something of its words before and then, and nothing else is borrowed.
  abbrev pub LeavesAs : (A → List (List ℕ)) → Memory A → (Segments → Segments → Type 0) → Memory A → Type 0
  LeavesAs books old Left new = Left (words_in (bytes old.arena)) (words_in (bytes new.arena)) × (books new.arena ≡ books old.arena)
