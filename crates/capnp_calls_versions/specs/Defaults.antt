-- What decides whether the defaults of related types are equal.
use Rattle.std.specs.Prelude.{ℕ, Bool, true, false, ◌&&◌, ◌==◌, Option, Some, None, List}
use Rattle.std.specs.Str.{bytes_eq}
use Rattle.capnp_model.specs.Bytes.{AreBytes}
use Rattle.capnp_model.specs.Schemas.{Value, text_bytes, blob_bytes, list_segment, struct_segment}
use Rattle.capnp_model.specs.Accepted.{default_bits}

-- The bytes of a text, of data, of a list or of a struct.
abbrev pub default_value_bytes : Option Value → Option (List ℕ)
default_value_bytes (Some (text_bytes bs)) = Some bs
default_value_bytes (Some (blob_bytes bs)) = Some bs
default_value_bytes (Some (list_segment bs)) = Some bs
default_value_bytes (Some (struct_segment bs)) = Some bs
default_value_bytes _ = None

-- Equal bytes, or none of both.
abbrev pub same_bytes : Option (List ℕ) → Option (List ℕ) → Bool
same_bytes None None = true
same_bytes (Some a) (Some b) = bytes_eq a b
same_bytes _ _ = false

-- Equal values of defaults.
abbrev pub same_value : Option Value → Option Value → Bool
same_value d e = default_bits d == default_bits e && same_bytes (default_value_bytes d) (default_value_bytes e)

-- Numbers that bytes hold, if there are any.
abbrev pub AllBytes : Option (List ℕ) → Type 0
AllBytes None = Unit {0}
AllBytes (Some bs) = AreBytes bs
