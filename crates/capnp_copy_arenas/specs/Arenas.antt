-- What an arena of segments uses and borrows.
use Rattle.std.specs.Prelude.{ℕ, List, ◌++◌}
use Rattle.capnp_copy_arenas.specs.Holding.{UsesMore, held_loans}
use Rattle.capnp_copy_arenas.specs.declared.allocator.Allocator.{Ghosts as Allocator}
use Rattle.capnp_copy_arenas.specs.declared.allocator.SegmentBytes.{Ghosts as SegmentBytes}
use Rattle.capnp_copy_arenas.specs.declared.segments.BuilderArenaImpl.{BuilderArenaImpl}

-- The names of the lent slices in all segments, and then those in the allocator.
abbrev pub arena_loans : {A S : Type 0} {allocator : Allocator A S} {segment : SegmentBytes S} → BuilderArenaImpl A S allocator segment → List ℕ
arena_loans {allocator = allocator} arena = held_loans arena.segments.items ++ allocator.loans arena.allocator

-- So many zero words more are used of the ith segment, and nothing else changes.
abbrev pub UsesInArena : {A S : Type 0} {allocator : Allocator A S} {segment : SegmentBytes S} → BuilderArenaImpl A S allocator segment → BuilderArenaImpl A S allocator segment → ℕ → ℕ → Type 0
UsesInArena old new i n = UsesMore old.segments.items new.segments.items i n
