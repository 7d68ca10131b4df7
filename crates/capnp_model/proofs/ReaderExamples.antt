-- Worked segments, as a reader meets them.
use Rattle.std.proofs.Common.{◌≡◌, ℕ, ◌+◌, ◌*◌, true, false, Some, Ok, Err, [], ◌∷◌, refl}
use Rattle.capnp_model.specs.Kinds.{OutOfBounds, NestingLimitExceeded}
use Rattle.capnp_model.specs.Segments.{Segments, place, root}
use Rattle.capnp_model.specs.Pointers.{a_struct, a_list, a_capability, found_at, begins_inside}
use Rattle.capnp_model.specs.Trees.{structure, null, capability, none, ◌▸◌}
use Rattle.capnp_model.specs.Traversal.{tree_at}
use Rattle.capnp_model.specs.Visits.{visits, pointers_of}

-- The word of eight bytes, the lowest first.
word : ℕ → ℕ → ℕ → ℕ → ℕ → ℕ → ℕ → ℕ → ℕ
word a b c d e f g h = a + 256 * (b + 256 * (c + 256 * (d + 256 * (e + 256 * (f + 256 * (g + 256 * h))))))

-- ---- a pad of two words before a capability: the segment that its first word names needn't be there

far_to_capability : Segments
far_to_capability = (word 6 0 0 0 1 0 0 0 ∷ []) ∷ (word 2 0 0 0 5 0 0 0 ∷ word 3 0 0 0 0 0 0 0 ∷ []) ∷ []

capability_is_found : found_at far_to_capability root ≡ Ok (record { pads = 2; object = a_capability 0 })
unfolding far_to_capability word
capability_is_found = refl

capability_is_read : tree_at 0 far_to_capability root ≡ Some (capability 0)
unfolding tree_at far_to_capability word
capability_is_read = refl

-- ---- where an object may begin

-- a struct without words that would begin a word behind the segment's end
outside : Segments
outside = (word 4 0 0 0 0 0 0 0 ∷ []) ∷ []

outside_is_named : found_at outside root ≡ Ok (record { pads = 0; object = a_struct (place 0 2) 0 0 })
unfolding outside word
outside_is_named = refl

outside_begins_nowhere : begins_inside outside (a_struct (place 0 2) 0 0) ≡ false
unfolding outside word
outside_begins_nowhere = refl

-- behind the last word there is room for no word
just_behind_is_inside : begins_inside outside (a_struct (place 0 1) 0 0) ≡ true
unfolding outside word
just_behind_is_inside = refl

-- the segment isn't there
missing_segment : begins_inside outside (a_list (place 1 0) 2 0) ≡ false
unfolding outside word
missing_segment = refl

-- ---- walks

-- a struct of a data word and three pointers: a text of two bytes, null, and a list whose words aren't there
faulty : Segments
faulty = (word 0 0 0 0 1 0 3 0 ∷ 7 ∷ word 9 0 0 0 26 0 0 0 ∷ 0 ∷ word 1 0 0 0 255 255 0 0 ∷ word 65 0 0 0 0 0 0 0 ∷ []) ∷ []

faulty_is_walked : visits 2 faulty root ≡ Ok 4 ∷ Ok 1 ∷ Ok 0 ∷ Err OutOfBounds ∷ []
unfolding visits faulty word
faulty_is_walked = refl

-- at the last level a struct or a list is refused, and null is not
faulty_at_the_last_level : visits 1 faulty root ≡ Ok 4 ∷ Err NestingLimitExceeded ∷ Ok 0 ∷ Err NestingLimitExceeded ∷ []
unfolding visits faulty word
faulty_at_the_last_level = refl

-- seven structs without words: their tag and seven more, and no pointer is followed in them
empty_structs : Segments
empty_structs = (word 1 0 0 0 7 0 0 0 ∷ word 28 0 0 0 0 0 0 0 ∷ []) ∷ []

empty_structs_are_walked : visits 1 empty_structs root ≡ Ok 8 ∷ []
unfolding visits empty_structs word
empty_structs_are_walked = refl

-- a struct with a null pointer and one to a capability: three pointers are followed
three_pointers : pointers_of (structure 1 7 (null ▸ (capability 2 ▸ none))) ≡ 3
unfolding pointers_of
three_pointers = refl
