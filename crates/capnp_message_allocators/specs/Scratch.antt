-- What a clause reads of an allocator over scratch space.
use Rattle.std.specs.Prelude.{◌≡◌, ◌⊎◌, ℕ, ◌*◌, ◌<◌, ◌≤◌, List, [], ◌∷◌, true, false, length, Result}
use Rattle.std.specs.Result.{IsOkAnd}
use Rattle.capnp_units.specs.declared.errors.Error.{Error}
use Rattle.capnp_units.specs.declared.kinds.ErrorKind.{ErrorKind}
use Rattle.capnp_units.specs.declared.kinds.ErrorKind.TheVariants.{OutOfMemory}
use Rattle.capnp_message_allocators.specs.declared.scratch.ScratchSpaceHeapAllocator.{ScratchSpaceHeapAllocator}
use Rattle.capnp_message_allocators.specs.declared.segment.Segment.{Segment}
use Rattle.capnp_message_allocators.specs.Segments.{loans_of_segment}
use Rattle.capnp_message_allocators.specs.Loans.{loans_of, opened_in}

-- The names of the lent slices that it holds.
abbrev pub scratch_loans : ScratchSpaceHeapAllocator → List ℕ
scratch_loans s = loans_of s.taken s.region.ghost_name

-- The bytes of the words that it was opened with and hasn't handed out.
abbrev pub scratch_opened : ScratchSpaceHeapAllocator → List ℕ
scratch_opened s = opened_in s.taken s.used s.region.now

-- The heap refuses a segment of n words where the slice is out, holds words, or is too short for n.
abbrev pub scratch_refuses : ScratchSpaceHeapAllocator → ℕ → ErrorKind → Type 0
scratch_refuses s words kind = (kind ≡ OutOfMemory) × ((s.taken ≡ true) ⊎ (0 < s.used) ⊎ (length s.region.now < 8 * words))

-- Where the slice is here and holds no words, it is handed out for so many words as fit into it.
abbrev pub LendsFirst : ScratchSpaceHeapAllocator → ℕ → Result Segment Error → Type 0
LendsFirst s words result = s.taken ≡ false → s.used ≡ 0 → 8 * words ≤ length s.region.now → IsOkAnd result (λ x. loans_of_segment x ≡ s.region.ghost_name ∷ [])
