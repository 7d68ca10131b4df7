-- The words that are kept of a message.
use Rattle.std.specs.Prelude.{ℕ, List, Option, option_map}
use Rattle.capnp_model.specs.Segments.{Segments}
use Rattle.capnp_model.specs.Trimming.{trim}
use Rattle.capnp_model.specs.Encoding.{canonical_words}
use Rattle.capnp_model.specs.Answers.{value_within}
use Rattle.capnp_calls.specs.Frames.{default_limits}

-- The canonical words of a message's value, where it is within the limits and has no capability. (Encoding, "Canonicalization")
abbrev pub canonical_words_in : Segments → Option (List ℕ)
canonical_words_in s = option_map (λ t. canonical_words (trim t)) (value_within default_limits s)
