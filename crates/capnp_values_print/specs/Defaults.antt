-- Defaults that are entered in place of null pointers.
use Rattle.std.specs.Prelude.{ℕ, pos, Bool, true, false, not, Option, Some, None, List, [], ◌∷◌, Ok, Err}
use Rattle.capnp_model.specs.Schemas.{Value, no_value, bits, text_bytes, blob_bytes, list_segment, struct_segment, untyped_value, interface_value, FieldKind, slot, group}
use Rattle.capnp_wire.specs.Reads.{is_null_pointer, root_of}

-- The root of a default's bytes is null.
abbrev pub is_null_segment : List ℕ → Bool
is_null_segment bytes = elim (root_of (bytes ∷ []) (pos 64)) [ Ok p ↦ is_null_pointer p | Err kind ↦ false ]

-- The default's root is there and isn't null.
abbrev pub is_entered : Option Value → Bool
is_entered None = false
is_entered (Some no_value) = false
is_entered (Some (bits p n)) = false
is_entered (Some (text_bytes bytes)) = true
is_entered (Some (blob_bytes bytes)) = true
is_entered (Some (list_segment bytes)) = not (is_null_segment bytes)
is_entered (Some (struct_segment bytes)) = not (is_null_segment bytes)
is_entered (Some untyped_value) = false
is_entered (Some interface_value) = false

-- The field is a slot with such a default.
abbrev pub enters : FieldKind → Bool
enters (slot offset ty d) = is_entered d
enters (group id) = false
