-- What a clause reads of an allocator of one slice.
use Rattle.std.specs.Prelude.{◌≡◌, ◌⊎◌, ℕ, ◌*◌, ◌<◌, true, length}
use Rattle.capnp_units.specs.declared.kinds.ErrorKind.{ErrorKind}
use Rattle.capnp_units.specs.declared.kinds.ErrorKind.TheVariants.{BufferNotLargeEnough}
use Rattle.capnp_message_allocators.specs.declared.single.SingleSegmentAllocator.{SingleSegmentAllocator}

-- It refuses a segment where its slice is out, or is too short for n words.
abbrev pub single_refuses : SingleSegmentAllocator → ℕ → ErrorKind → Type 0
single_refuses s words kind = (kind ≡ BufferNotLargeEnough) × ((s.taken ≡ true) ⊎ (length s.region.now < 8 * words))
