-- How many words the segments of a message have.
use Rattle.std.specs.Prelude.{◌≡◌, ℕ, ◌+◌, ◌-◌, ◌*◌, ◌^◌, length, min, max}
use Rattle.capnp_message_allocators.specs.declared.growth.Growth.{Growth}
use Rattle.capnp_message_allocators.specs.declared.growth.AllocationStrategy.{AllocationStrategy}
use Rattle.capnp_message_allocators.specs.declared.growth.AllocationStrategy.TheVariants.{FixedSize, GrowHeuristically}
use Rattle.capnp_message_allocators.specs.declared.segment.Segment.{Segment}
use Rattle.capnp_message_allocators.specs.declared.segment.Segment.TheVariants.{Lent, Owned}

-- 1024 words at first, then as many again as all before.
abbrev pub suggested_growth : Growth
suggested_growth = record { first = 1024; next = 1024; most = 2 ^ 29 - 1; strategy = GrowHeuristically }

-- The words of the next segment, of which at least n are asked for.
abbrev pub words_handed : Growth → ℕ → ℕ
words_handed g minimum = max minimum (min g.next g.most)

-- The words of the segment behind one of n, as far as 32 bits count.
abbrev pub words_after : AllocationStrategy → ℕ → ℕ → ℕ
words_after FixedSize next words = next
words_after GrowHeuristically next words = min (next + words) (2 ^ 32 - 1)

-- A segment of n words was handed out.
abbrev pub grown : Growth → ℕ → Growth
grown g words = record g { next = words_after g.strategy g.next words }

-- A segment of the heap has the words of the next, and a lent slice counts for none.
abbrev pub GrowsBy : Growth → Growth → ℕ → Segment → Type 0
GrowsBy old new minimum (Lent slice) = new ≡ old
GrowsBy old new minimum (Owned bytes) = (length bytes.items ≡ 8 * words_handed old minimum) × (new ≡ grown old (words_handed old minimum))

-- Where a segment of the heap is given back, segments begin again with the words of the first; a lent slice counts for none.
abbrev pub RestartsBy : Growth → Growth → Segment → Type 0
RestartsBy old new (Lent slice) = new ≡ old
RestartsBy old new (Owned bytes) = new ≡ record old { next = old.first }
