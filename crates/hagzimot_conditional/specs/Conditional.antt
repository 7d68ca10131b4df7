-- What goes out for a message that may keep an expression.
use Rattle.std.specs.Prelude.{◌≡◌, ◌⊎◌, []}
use Rattle.capnp_model.specs.Segments.{Segments}
use Rattle.capnp_model.specs.Answers.{Answer, refused_value, written}

-- One of these answers; or the message as it came; or it is refused, since a value can't be read.
abbrev pub IsConditional : (Segments → Answer → Type 0) → Segments → Answer → Type 0
IsConditional is_answer s a = is_answer s a ⊎ ((a ≡ written s []) ⊎ (a ≡ refused_value))
