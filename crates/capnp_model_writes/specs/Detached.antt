-- Objects that no pointer names yet, and values that move from one pointer to another.
use Rattle.std.specs.Prelude.{◌≡◌, ℕ, suc, ◌+◌, ◌^◌, ◌<◌, ◌≤◌, List, replicate, Some, Ok}
use Rattle.std.specs.List.{AllByRecursion}
use Rattle.capnp_model.specs.Segments.{Segments, Place, after, word_at, words_at}
use Rattle.capnp_model.specs.Pointers.{Object, begins, Found, found_at}
use Rattle.capnp_model.specs.Trees.{Tree, null}
use Rattle.capnp_model.specs.Traversal.{tree_of, tree_at}
use Rattle.capnp_model.specs.Coverage.{Span, times_held}
use Rattle.capnp_model_writes.specs.Footprints.{footprint, object_footprint, Owns}
use Rattle.capnp_model_writes.specs.Changes.{Changes}
use Rattle.capnp_model_writes.specs.NewObjects.{New, new_object, new_pointer, Fits}

-- What the value at a place, spare words and an object beside it take.
abbrev pub all_taken : ℕ → Segments → Place → List Span → Object → Place → ℕ
all_taken n s p spare o q = footprint (suc n) s p q + (times_held spare q + object_footprint n s o q)

-- The words of a span are there, and zero.
abbrev pub AreZero : Segments → Span → Type 0
AreZero s x = words_at s x.start x.words ≡ Some (replicate x.words 0)

-- From s to u the value at p became t; beside it stand zero words that are spare, and an object that no pointer names, with its value. Nothing else changed.
pub record Detached (n : ℕ) (s u : Segments) (p : Place) (t : Tree) (spare : List Span) (o : Object) (v : Tree) : Type 0 where
  pub value : tree_at (suc n) u p ≡ Some t
  pub object : tree_of u (tree_at n u) o ≡ Some v
  pub zeros : AllByRecursion (AreZero u) spare
  pub changes : Changes s u (footprint (suc n) s p) (all_taken n u p spare o)
  pub apart : (q : Place) → all_taken n u p spare o q ≤ 1

-- The pointer at p reaches the place by n words from its end on, of thirty bits with sign.
pub record Reaches (p r : Place) (offset : ℕ) : Type 0 where
  pub fits : offset < 2 ^ 30
  pub starts : begins (after p 1) offset ≡ Ok r

-- The value at a place is moved to another, where null was, with spare words taken for it. Nothing else changes.
pub record Moves (n : ℕ) (s u : Segments) (a b : Place) (spare : List Span) (t : Tree) : Type 0 where
  pub from : tree_at n u a ≡ Some null
  pub to : tree_at n u b ≡ Some t
  pub changes : Changes s u (λ q. footprint n s a q + (footprint n s b q + times_held spare q)) (λ q. footprint n u a q + footprint n u b q)

-- The value at a place can move to another: what its word leads to, no word taken twice, null at the other place, and spare zeros.
pub record IsMovable (n : ℕ) (s : Segments) (a b : Place) (spare : List Span) (w : ℕ) (f : Found) (t : Tree) : Type 0 where
  pub there : word_at s a ≡ Some w
  pub found : found_at s a ≡ Ok f
  pub owned : Owns n s a t
  pub null_there : word_at s b ≡ Some 0
  pub zeros : AllByRecursion (AreZero s) spare
  pub apart : (q : Place) → footprint n s a q + (footprint n s b q + times_held spare q) ≤ 1

-- The word of a pointer leads, without a pad, to an object as a new one, and this is its offset.
pub record IsDirect (p : Place) (w : ℕ) (f : Found) (r : Place) (offset : ℕ) (x : New) : Type 0 where
  pub found : f ≡ record { pads = 0; object = new_object r x }
  pub word : w ≡ new_pointer offset x
  pub fits : Fits x
  pub small : offset < 2 ^ 30
  pub starts : begins (after p 1) offset ≡ Ok r
