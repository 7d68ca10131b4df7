-- Defaults that keep the schema rules. (Schema language, "Structs")
use Rattle.std.specs.Prelude.{◌≡◌, ◌<◌, ◌^◌, true, Option, Some, None}
use Rattle.std.specs.List.{AllByRecursion}
use Rattle.capnp_model.specs.Schemas.{Ty, type_of, Value, no_value, bits, text_bytes, blob_bytes, list_segment, struct_segment, untyped_value, interface_value, FieldKind, slot, group}
use Rattle.capnp_model.specs.Accepted.{is_default_of, opens_as, is_good_value}

-- The bytes of a text or of data are bytes.
abbrev pub HoldsOnlyBytes : Value → Type 0
HoldsOnlyBytes (text_bytes bytes) = AllByRecursion (λ b. b < 2 ^ 8) bytes
HoldsOnlyBytes (blob_bytes bytes) = AllByRecursion (λ b. b < 2 ^ 8) bytes
HoldsOnlyBytes no_value = Unit {0}
HoldsOnlyBytes (bits p n) = Unit {0}
HoldsOnlyBytes (list_segment bytes) = Unit {0}
HoldsOnlyBytes (struct_segment bytes) = Unit {0}
HoldsOnlyBytes untyped_value = Unit {0}
HoldsOnlyBytes interface_value = Unit {0}

-- The default, if there is one, is of the type, and a struct or a list a canonical value that reads as it.
abbrev pub IsGoodDefault : Ty → Option Value → Type 0
IsGoodDefault ty None = Unit {0}
IsGoodDefault ty (Some d) = (is_default_of ty (Some d) ≡ true) × (is_good_value (λ t. opens_as t ty) (Some d) ≡ true) × HoldsOnlyBytes d

-- The field's default does so.
abbrev pub KeepsDefault : FieldKind → Type 0
KeepsDefault (slot offset ty d) = IsGoodDefault (type_of ty) d
KeepsDefault (group id) = Unit {0}
