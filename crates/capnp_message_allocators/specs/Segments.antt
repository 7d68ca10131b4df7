-- What a clause reads of a segment that may be lent.
use Rattle.std.specs.Prelude.{ℕ, List, [], ◌∷◌}
use Rattle.capnp_message_allocators.specs.declared.segment.Segment.{Segment}
use Rattle.capnp_message_allocators.specs.declared.segment.Segment.TheVariants.{Lent, Owned}

-- Its bytes.
abbrev pub bytes_of : Segment → List ℕ
bytes_of (Lent slice) = slice.now
bytes_of (Owned bytes) = bytes.items

-- The names of the lent slices in it.
abbrev pub loans_of_segment : Segment → List ℕ
loans_of_segment (Lent slice) = slice.ghost_name ∷ []
loans_of_segment (Owned bytes) = []
