-- The words of defaults. (Encoding, "Default Values")
use Rattle.std.specs.Prelude.{ℕ, ◌/◌, List, length, Option, Some, None}
use Rattle.std.specs.Simd.{first_chunks}
use Rattle.capnp_model.specs.Schemas.{Value, no_value, bits, text_bytes, blob_bytes, list_segment, struct_segment, untyped_value, interface_value}

-- The words of a default's bytes.
abbrev pub default_chunks : List ℕ → List (List ℕ)
default_chunks bytes = first_chunks 8 (length bytes / 8) bytes

-- The words of the default of a struct or a list, if there is one.
abbrev pub default_words : Option Value → Option (List (List ℕ))
default_words None = None
default_words (Some no_value) = None
default_words (Some (bits p n)) = None
default_words (Some (text_bytes bytes)) = None
default_words (Some (blob_bytes bytes)) = None
default_words (Some (list_segment bytes)) = Some (default_chunks bytes)
default_words (Some (struct_segment bytes)) = Some (default_chunks bytes)
default_words (Some untyped_value) = None
default_words (Some interface_value) = None
