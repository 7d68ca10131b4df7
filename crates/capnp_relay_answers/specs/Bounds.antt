-- What a clause reads of bounds.
use Rattle.std.specs.Prelude.{pos, Some}
use Rattle.capnp_model.specs.Answers.{Limits}
use Rattle.capnp_relay_answers.specs.declared.bounds.Bounds.{Bounds}

-- The limits.
abbrev pub limits_view : Bounds → Limits
limits_view b = record { words = Some b.words; nesting = pos b.nesting }
