-- Why memory isn't had: who was asked for it refused.
use Rattle.std.specs.Prelude.{◌≡◌, ◌⊎◌, ℕ, ◌-◌, ◌^◌, ◌≤◌, length, vec_capacity}
use Rattle.capnp_units.specs.declared.errors.Error.{Error}
use Rattle.capnp_units.specs.declared.kinds.ErrorKind.{ErrorKind}
use Rattle.capnp_units.specs.declared.kinds.ErrorKind.TheVariants.{OutOfMemory, SizeOverflow}
use Rattle.capnp_copy_arenas.specs.declared.allocator.Allocator.{Ghosts as Allocator}
use Rattle.capnp_copy_arenas.specs.declared.allocator.SegmentBytes.{Ghosts as SegmentBytes}
use Rattle.capnp_copy_arenas.specs.declared.segments.BuilderArenaImpl.{BuilderArenaImpl}

-- Some state refuses some number of words with this kind.
abbrev pub IsRefusal : {X : Type 0} → (X → ℕ → ErrorKind → Type 0) → ErrorKind → Type 0
IsRefusal {X = X} refuses kind = (state : X) × (words : ℕ) × refuses state words kind

-- A size passes a limit of the format, or memory was asked for and refused with the error's very kind.
abbrev pub IsSizeOrRefusal : {X : Type 0} → (X → ℕ → ErrorKind → Type 0) → Error → Type 0
IsSizeOrRefusal refuses e = (e.kind ≡ SizeOverflow) ⊎ IsRefusal refuses e.kind

-- A list that has as many segments as it has room for is full, or 32 bits count no more.
abbrev pub CannotGrow : ℕ → ℕ → Type 0
CannotGrow capacity count = (capacity ≤ count) ⊎ (2 ^ 32 - 1 ≤ count)

-- Asked for n words, an arena refuses them as its allocator does, or with `OutOfMemory` where the
-- list of its segments can't grow.
abbrev pub arena_refuses : {A S : Type 0} {allocator : Allocator A S} {segment : SegmentBytes S} → BuilderArenaImpl A S allocator segment → ℕ → ErrorKind → Type 0
arena_refuses {allocator = allocator} arena words kind =
    allocator.refuses arena.allocator words kind ⊎ ((kind ≡ OutOfMemory) × CannotGrow (vec_capacity arena.segments) (length arena.segments.items))
