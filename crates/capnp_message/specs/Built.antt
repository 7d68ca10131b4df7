-- What is written of segments that are built.
use Rattle.std.specs.Prelude.{◌≡◌, ◌⊎◌, ℕ, ◌*◌, true, false, List, [], ◌∷◌, ◌++◌, map, flat_map, take}
use Rattle.std.specs.Option.{is_some}
use Rattle.capnp_model.specs.Segments.{Segments, root, words_at}
use Rattle.capnp_units.specs.declared.kinds.ErrorKind.TheVariants.{OutOfBounds}
use Rattle.capnp_units.specs.Segments.{words_in, whole_words}
use Rattle.capnp_copy_arenas.specs.declared.allocator.Allocator.{Ghosts as Allocator}
use Rattle.capnp_copy_arenas.specs.declared.allocator.SegmentBytes.{Ghosts as SegmentBytes}
use Rattle.capnp_copy_arenas.specs.declared.segments.BuilderArenaImpl.{BuilderArenaImpl}
use Rattle.capnp_copy_arenas.specs.Refusals.{IsRefusal, IsSizeOrRefusal, arena_refuses}
use Rattle.capnp_units.specs.declared.errors.Error.{Error}

-- The bytes of the used words of each segment, by how many are used and what its bytes are.
abbrev pub used_bytes : {X : Type 0} → (X → ℕ) → (X → List ℕ) → List X → List (List ℕ)
used_bytes used bytes segments = map (λ x. take (8 * used x) (bytes x)) segments

-- The used words of each segment.
abbrev pub used_words : {X : Type 0} → (X → ℕ) → (X → List ℕ) → List X → Segments
used_words used bytes segments = words_in (used_bytes used bytes segments)

-- The used words of the segments that an arena holds.
abbrev pub words_held : {A S : Type 0} {allocator : Allocator A S} {segment : SegmentBytes S} → BuilderArenaImpl A S allocator segment → Segments
words_held {segment = segment} arena = used_words (λ h. h.used) (λ h. segment.bytes h.segment) arena.segments.items

-- The slices that were lent to the segments of an arena and to its allocator.
abbrev pub loans_held : {A S : Type 0} {allocator : Allocator A S} {segment : SegmentBytes S} → BuilderArenaImpl A S allocator segment → List ℕ
loans_held {allocator = allocator} {segment = segment} arena = flat_map (λ h. segment.loans h.segment) arena.segments.items ++ allocator.loans arena.allocator

-- What the allocator of an arena borrows and never hands out.
abbrev pub place_held : {A S : Type 0} {allocator : Allocator A S} {segment : SegmentBytes S} → BuilderArenaImpl A S allocator segment → List ℕ
place_held {allocator = allocator} arena = allocator.place arena.allocator

-- The slices that were lent to a segment and to the allocator of an arena.
abbrev pub lent_with : {A S : Type 0} {allocator : Allocator A S} {segment : SegmentBytes S} → S → BuilderArenaImpl A S allocator segment → List ℕ
lent_with {allocator = allocator} {segment = segment} x arena = segment.loans x ++ allocator.loans arena.allocator

-- Memory was asked for, for such an arena, and refused with the error's very kind.
abbrev pub IsRefusalOf : {A S : Type 0} {allocator : Allocator A S} {segment : SegmentBytes S} → BuilderArenaImpl A S allocator segment → Error → Type 0
IsRefusalOf {A = A} {S = S} {allocator = allocator} {segment = segment} arena e = IsRefusal (λ (a : BuilderArenaImpl A S allocator segment) n kind. arena_refuses a n kind) e.kind

-- Memory was asked for, for such an arena, and refused with the error's very kind; or a size passes
-- a limit of the format.
abbrev pub IsSizeOrRefusalOf : {A S : Type 0} {allocator : Allocator A S} {segment : SegmentBytes S} → BuilderArenaImpl A S allocator segment → Error → Type 0
IsSizeOrRefusalOf {A = A} {S = S} {allocator = allocator} {segment = segment} arena e = IsSizeOrRefusal (λ (a : BuilderArenaImpl A S allocator segment) n kind. arena_refuses a n kind) e

-- The first segment is there and has no word for the root pointer.
abbrev pub HasNoRootWord : Segments → Error → Type 0
HasNoRootWord s e = (e.kind ≡ OutOfBounds) × (is_some (words_at s root 0) ≡ true) × (is_some (words_at s root 1) ≡ false)

-- No root pointer is had: the first segment has no word for it, or the arena refuses the one word of a first segment.
abbrev pub NoRootMade : {A S : Type 0} {allocator : Allocator A S} {segment : SegmentBytes S} → BuilderArenaImpl A S allocator segment → Error → Type 0
NoRootMade arena e = HasNoRootWord (words_held arena) e ⊎ arena_refuses arena 1 e.kind

-- The segments with a root pointer, which is null where there was none. (Encoding, "Messages")
abbrev pub rooted : Segments → Segments
rooted [] = (0 ∷ []) ∷ []
rooted (words ∷ segments) = words ∷ segments

-- All words of an arena stand, but that a root pointer that is null may have been made.
abbrev pub StaysRooted : {A S : Type 0} {allocator : Allocator A S} {segment : SegmentBytes S} → BuilderArenaImpl A S allocator segment → BuilderArenaImpl A S allocator segment → Type 0
StaysRooted old new = rooted (words_held new) ≡ rooted (words_held old)

-- Why a root isn't set: no root pointer is had, or its value is refused for a size or for want of memory.
abbrev pub RootNotSet : {A S : Type 0} {allocator : Allocator A S} {segment : SegmentBytes S} → BuilderArenaImpl A S allocator segment → Error → Type 0
RootNotSet arena e = NoRootMade arena e ⊎ IsSizeOrRefusalOf arena e

-- The segments of a message that goes on in memory with these bytes of words: one, or no segment
-- where there are no words. (Encoding, "Messages")
abbrev pub opened_words : List ℕ → Segments
opened_words [] = []
opened_words (byte ∷ bytes) = whole_words (byte ∷ bytes) ∷ []
