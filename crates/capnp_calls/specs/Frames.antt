-- The values of messages that calls set.
use Rattle.std.specs.Prelude.{ℕ, pos, Option, Some, None, Result, Ok, List, []}
use Rattle.capnp_model.specs.Kinds.{Kind}
use Rattle.capnp_model.specs.Chains.{◌>>=◌}
use Rattle.capnp_model.specs.Segments.{Segments}
use Rattle.capnp_model.specs.Trees.{Tree}
use Rattle.capnp_model.specs.Trimming.{trim}
use Rattle.capnp_model.specs.Messages.{frame_at}
use Rattle.capnp_model.specs.Answers.{Limits, value_within}

-- The limits of readers that are told no others: 2^23 words, 64 levels.
abbrev pub default_limits : Limits
default_limits = record { words = Some 8388608; nesting = pos 64 }

-- The segments that are read, where nothing is left.
abbrev pub lone : Result (Segments × List ℕ) Kind → Option Segments
lone (Ok (s, [])) = Some s
lone _ = None

-- The segments of bytes that are one frame. (Encoding, "Serialization Over a Stream")
abbrev pub one_frame : List ℕ → Option Segments
one_frame bytes = lone (frame_at default_limits.words bytes)

-- The trimmed value of bytes that are one frame, where it is within the limits and has no capability. (Encoding, "Canonicalization")
unfoldable pub value_in : List ℕ → Option Tree
value_in bytes = one_frame bytes >>= λ s. value_within default_limits s >>= λ t. Some (trim t)
