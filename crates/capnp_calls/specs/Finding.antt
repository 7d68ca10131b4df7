-- What the field of a name is.
use Rattle.std.specs.Prelude.{Option, None}
use Rattle.capnp_model.specs.Schemas.{Value, FieldKind, slot, group}

-- The default that a node says of a slot.
abbrev pub default_in : FieldKind → Option Value
default_in (slot offset ty d) = d
default_in (group id) = None
