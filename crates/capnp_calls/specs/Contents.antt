-- What calls put into slots, as the code has it.
use Rattle.std.specs.Prelude.{ℕ, Option, Some, None}
use Rattle.capnp_model.specs.Kinds.{TypeMismatch}
use Rattle.capnp_model.specs.Calls.{Content, refused_by, bits_of}

-- The bits that a value has in a slot; `None` where it has another sort or is out of range.
abbrev pub bits_content : Option ℕ → Content
bits_content None = refused_by TypeMismatch
bits_content (Some n) = bits_of n
