-- Worked groups that are set to structs.
use Rattle.std.proofs.Common.{◌≡◌, ◌+◌, ◌*◌, ◌^◌, List, [], ◌∷◌, Some, None, refl}
use Rattle.capnp_model.specs.Trees.{null, none, ◌▸◌}
use Rattle.capnp_model.specs.Calls.{text_tree}
use Rattle.capnp_model.specs.Schemas.{uint, text, Shape, shape, no_fields, field, plain_slot, pointer_slot, group_slot, Schema}
use Rattle.capnp_model.specs.Readings.{just_bits}
use Rattle.capnp_model.specs.Edits.{Edit, cleared, after_writes}
use Rattle.capnp_schema_structs.specs.GroupWrites.{GroupSource, in_words, writes_of_group}
use Rattle.capnp_schema_structs.specs.GroupSets.{entry_writes}

-- x UInt16 with default 5, a group of y UInt16, and a union of m UInt16 and t Text, whose discriminant is the fourth number
g : Shape
g = shape 11 1 1 (Some 48) (field [] None (plain_slot (uint 16) 0 5) (field [] None (group_slot (shape 12 1 0 None (field [] None (plain_slot (uint 16) 16 0) no_fields)))
    (field [] (Some 0) (plain_slot (uint 16) 32 0) (field [] (Some 1) (pointer_slot 0 text None) no_fields))))

writes : Schema → GroupSource → List Edit
writes s from = entry_writes s None (Some (record { name = []; member = None; body = group_slot g })) from

-- the active member t is copied, m is cleared, and what lies beside the group stays
text_copied : (s : Schema) → after_writes (writes s (in_words (record { section = 2 + 9 * 2 ^ 16 + 3 * 2 ^ 32 + 2 ^ 48; kids = text_tree (104 ∷ []) ▸ none }))) (record { section = 7 * 2 ^ 64; kids = null ▸ null ▸ none })
    ≡ record { section = 2 + 9 * 2 ^ 16 + 2 ^ 48 + 7 * 2 ^ 64; kids = text_tree (104 ∷ []) ▸ null ▸ none }
unfolding writes_of_group cleared g writes
text_copied s = refl

-- a null member becomes the empty text
null_copied : (s : Schema) → after_writes (writes s (in_words (record { section = 2 ^ 48; kids = null ▸ none }))) (record { section = 7; kids = null ▸ none }) ≡ record { section = 2 ^ 48; kids = text_tree [] ▸ none }
unfolding writes_of_group cleared g writes
null_copied s = refl

-- an unknown member is as the member 0, and a pointer of another member stays
other_copied : (s : Schema) → after_writes (writes s (in_words (record { section = 9 * 2 ^ 48 + 2; kids = null ▸ none }))) (record { section = 7; kids = text_tree [] ▸ none }) ≡ record { section = 2; kids = text_tree [] ▸ none }
unfolding writes_of_group cleared g writes
other_copied s = refl

-- an element of a list of numbers of 32 bits: its numbers are copied, and the discriminant and m behind them are zero
four_bytes_copied : (s : Schema) → after_writes (writes s (record { extent = just_bits 32; section = 2 + 9 * 2 ^ 16; kids = none })) (record { section = 7 + 3 * 2 ^ 32 + 2 ^ 48 + 7 * 2 ^ 64; kids = null ▸ none }) ≡ record { section = 2 + 9 * 2 ^ 16 + 7 * 2 ^ 64; kids = null ▸ none }
unfolding writes_of_group cleared g writes
four_bytes_copied s = refl

-- an element of a list of bytes: x isn't wholly in it, and so is zero
byte_copied : (s : Schema) → after_writes (writes s (record { extent = just_bits 8; section = 2; kids = none })) (record { section = 7; kids = null ▸ none }) ≡ record { section = 0; kids = null ▸ none }
unfolding writes_of_group cleared g writes
byte_copied s = refl
