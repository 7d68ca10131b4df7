-- Segments that an arena holds: their words, their room and their loans.
use Rattle.std.specs.Prelude.{◌≡◌, ◌⊎◌, ℕ, ◌+◌, ◌-◌, ◌^◌, ◌/◌, ◌<◌, ◌≤◌, List, length, map, get_or}
use Rattle.std.specs.List.{flat_map}
use Rattle.capnp_model.specs.Segments.{Segments}
use Rattle.capnp_model_writes.specs.Writes.{with_zeros, segment_end}
use Rattle.capnp_copy_arenas.specs.Allocations.{UsesRoom, total_of, words_used}
use Rattle.capnp_copy_arenas.specs.declared.allocator.SegmentBytes.{Ghosts}
use Rattle.capnp_copy_arenas.specs.declared.held.Held.{Held}

-- The used words of each segment.
abbrev pub held_words : {S : Type 0} {g : Ghosts S} → List (Held S g) → Segments
held_words {g = g} all = map (λ h. words_used h.used (g.bytes h.segment)) all

-- How many words of each segment are free.
abbrev pub free_words : {S : Type 0} {g : Ghosts S} → List (Held S g) → List ℕ
free_words {g = g} all = map (λ h. length (g.bytes h.segment) / 8 - h.used) all

-- The names of the lent slices in all segments.
abbrev pub held_loans : {S : Type 0} {g : Ghosts S} → List (Held S g) → List ℕ
held_loans {g = g} all = flat_map (λ h. g.loans h.segment) all

-- The ith segment is there, and its used words end at a position.
abbrev pub EndsAt : {S : Type 0} {g : Ghosts S} → List (Held S g) → ℕ → ℕ → Type 0
EndsAt all i at = (i < length all) × (at ≡ segment_end (held_words all) i)

-- n zero words more are used of the ith segment, and nothing else changes.
abbrev pub UsesMore : {S : Type 0} {g : Ghosts S} → List (Held S g) → List (Held S g) → ℕ → ℕ → Type 0
UsesMore old new i n = held_words new ≡ with_zeros (held_words old) i n

-- The ith segment isn't there, or fewer words of it are free.
abbrev pub IsFull : {S : Type 0} {g : Ghosts S} → List (Held S g) → ℕ → ℕ → Type 0
IsFull all i n = (length all ≤ i) ⊎ (get_or (free_words all) i 0 < n)

-- The ith segment isn't there, or fewer words of it are free, or 32 bits don't count all used words with these.
abbrev pub IsFullOrLong : {S : Type 0} {g : Ghosts S} → List (Held S g) → ℕ → ℕ → Type 0
IsFullOrLong all i n = (length all ≤ i) ⊎ (get_or (free_words all) i 0 < n) ⊎ (2 ^ 32 ≤ total_of (λ h. h.used) all + n)

-- The ith segment has so many free words.
abbrev pub HasFree : {S : Type 0} {g : Ghosts S} → List (Held S g) → ℕ → ℕ → Type 0
HasFree all i n = n ≤ get_or (free_words all) i 0

-- So many words fewer of the ith segment are free.
abbrev pub LeavesFree : {S : Type 0} {g : Ghosts S} → List (Held S g) → List (Held S g) → ℕ → ℕ → Type 0
LeavesFree old new i n = UsesRoom (free_words old) (free_words new) i n
