-- Copies where the pointer's segment has room for them.
use Rattle.std.specs.Prelude.{◌≡◌, ◌⊎◌, ⊤, ℕ, ◌+◌, ◌^◌, ◌≤◌, List, length, map, Option, Some, Result, Ok, Err}
use Rattle.capnp_model.specs.Segments.{Segments}
use Rattle.capnp_model.specs.Sizes.{each_object_words}
use Rattle.capnp_model.specs.Trees.{Tree, null, capability, structure, plain_list, pointer_list, struct_list, Elements, no_elements, element}
use Rattle.capnp_model.specs.Visits.{Visit}
use Rattle.capnp_units.specs.declared.errors.Error.{Error}
use Rattle.capnp_units.specs.declared.kinds.ErrorKind.TheVariants.{SizeOverflow}
use Rattle.capnp_units.specs.declared.limiter.ReadLimiter.{ReadLimiter}
use Rattle.capnp_units.specs.Segments.{words_in}
use Rattle.capnp_wire_objects.specs.declared.object.Found.{Found}
use Rattle.capnp_wire_objects.specs.declared.object.Object as wire
use Rattle.capnp_model.specs.Segments as model
use Rattle.capnp_wire_objects.specs.Objects.{object_at}
use Rattle.capnp_wire_objects.specs.Walks.{Stopped}
use Rattle.capnp_model_writes.specs.Writes.{with_zeros}
use Rattle.capnp_copy_arenas.specs.Allocations.{HasRoom, UsesRoom}
use Rattle.capnp_copy_arenas.specs.States.{ArenaState, state_in}
use Rattle.capnp_copy_values.specs.Copies.{CopyOf}
use Rattle.capnp_copy_values.specs.Objects.{most_counted}

-- The words behind the objects of elements, at every depth.
unfoldable pub elements_behind : Elements → ℕ
elements_behind no_elements = 0
elements_behind (element section kids es) = each_object_words kids + elements_behind es

-- The words of a value behind its first object.
abbrev pub words_behind : Tree → ℕ
words_behind null = 0
words_behind (capability i) = 0
words_behind (structure words section kids) = each_object_words kids
words_behind (plain_list size n section) = 0
words_behind (pointer_list ts) = each_object_words ts
words_behind (struct_list words pointers es) = elements_behind es

-- The ith segment has room for n words.
abbrev pub HasRoomIn : ArenaState → ℕ → ℕ → Type 0
HasRoomIn s i n = HasRoom (words_in s.segments) s.room i n

-- n words are taken at the end of the ith segment, and none elsewhere, so that there is no new pad.
pub record TakesIn (s u : ArenaState) (i n : ℕ) : Type 0 where
  pub sizes : map length (words_in u.segments) ≡ map length (with_zeros (words_in s.segments) i n)
  pub room : UsesRoom s.room u.room i n

-- Some list of structs that is read has 2^29 elements or more, which no copy counts.
abbrev pub HasLongList : Segments → Type 0
HasLongList from = (at : model.Place) × (found : Found) × (object_at from at ≡ Ok found) × (2 ^ 29 ≤ most_counted found.object)

-- The object has n elements, or a list behind it.
abbrev pub IsLong : Segments → wire.Object → Type 0
IsLong from o = (2 ^ 29 ≤ most_counted o) ⊎ HasLongList from

-- An arena that is copied into, and what may still be read for it.
pub record LimitedArena : Type 0 where
  pub arena : ArenaState
  pub limiter : ReadLimiter

abbrev pub limited_arena : ArenaState → ReadLimiter → LimitedArena
limited_arena s limiter = record { arena = s; limiter = limiter }

-- By the members that tell the arena.
abbrev pub limited_in : {X : Type 0} → (X → List (List ℕ)) → (X → List ℕ) → (X → List (List ℕ)) → X → ReadLimiter → LimitedArena
limited_in segments room books arena limiter = limited_arena (state_in segments room books arena) limiter

-- What a copy takes: so many words of what is read, in the ith segment; and whether a list is too long for it.
pub record Wanted (X : Type 0) : Type 1 where
  pub words : X → ℕ
  pub Long : Type 0
  pub segment : ℕ

abbrev pub wanted : {X : Type 0} → (X → ℕ) → Type 0 → ℕ → Wanted X
wanted words Long i = record { words = words; Long = Long; segment = i }

-- Where its segment has room for the words of what is read, exactly these are taken, in it. Then
-- the copy is refused only where the walk is stopped, or with `SizeOverflow` since a list is too
-- long.
abbrev pub FitsWhereRoom : {X : Type 0} → Option X → List Visit → Wanted X → LimitedArena → Result ⊤ Error → LimitedArena → Type 0
FitsWhereRoom {X = X} there path w old (Ok _) new = (x : X) → there ≡ Some x → HasRoomIn old.arena w.segment (w.words x) → TakesIn old.arena new.arena w.segment (w.words x)
FitsWhereRoom {X = X} there path w old (Err e) new = (x : X) → there ≡ Some x → HasRoomIn old.arena w.segment (w.words x) → Stopped path old.limiter e new.limiter ⊎ ((e.kind ≡ SizeOverflow) × w.Long)

abbrev pub FitsCopy : {X : Type 0} → CopyOf X → Wanted X → LimitedArena → Result ⊤ Error → LimitedArena → Type 0
FitsCopy x = FitsWhereRoom x.there x.path
