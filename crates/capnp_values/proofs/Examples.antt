-- A null text with the default "hi" reads as it, and a union of u and v in which v is active.
use Rattle.std.proofs.Common.{◌≡◌, false, true, Some, None, [], codes, refl}
use Rattle.capnp_model.specs.Schemas.{uint, text, blob, plain_slot, pointer_slot, Fields, no_fields, field, Schema}
use Rattle.capnp_model.specs.Calls.{text_tree, blob_tree}
use Rattle.capnp_model.specs.Readings.{inactive, null_pointer, number, text_of, blob_of, Record, no_more, entry, read}
use Rattle.capnp_values.specs.Standing.{or_default, defaulted_field}
use Rattle.capnp_values.specs.Records.{reading_at_index, is_live, is_there, active_place}

default_text : (s : Schema) → or_default s text (text_tree (codes "hi")) null_pointer ≡ text_of (codes "hi")
unfolding read
default_text s = refl

own_text : (s : Schema) → or_default s text (text_tree (codes "hi")) (text_of (codes "ho")) ≡ text_of (codes "ho")
own_text s = refl

no_text : (s : Schema) → defaulted_field s (pointer_slot 0 text None) null_pointer ≡ text_of []
unfolding read
no_text s = refl

empty_data : (s : Schema) → defaulted_field s (pointer_slot 0 blob (Some (blob_tree []))) null_pointer ≡ blob_of []
unfolding read
empty_data s = refl

members : Fields
members = field (codes "z") None (pointer_slot 0 text None) (field (codes "u") (Some 0) (plain_slot (uint 16) 0 0) (field (codes "v") (Some 1) (plain_slot (uint 16) 0 0) no_fields))

has_v : Record
has_v = entry (codes "z") null_pointer (entry (codes "u") inactive (entry (codes "v") (number 9) no_more))

v_is_active : active_place members has_v ≡ Some 2
unfolding members has_v
v_is_active = refl

u_is_not_there : is_there (reading_at_index 1 has_v) ≡ false
unfolding has_v
u_is_not_there = refl

z_is_null : is_live (reading_at_index 0 has_v) ≡ true
unfolding has_v
z_is_null = refl
