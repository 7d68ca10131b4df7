-- What is shown of a framed message.
use Rattle.std.specs.Prelude.{ℕ, Option, Some, None, List, [], ◌∷◌, Result, Ok, Err}
use Rattle.capnp_model.specs.Kinds.{Kind, PrematureEndOfFile}
use Rattle.capnp_model.specs.Segments.{Segments}
use Rattle.capnp_model.specs.Trees.{Tree, null, structure}
use Rattle.capnp_model.specs.Trimming.{trim}
use Rattle.capnp_model.specs.Messages.{frame_at}
use Rattle.capnp_model.specs.Answers.{Limits, value_within}
use Rattle.capnp_model.specs.Schemas.{Schema}
use Rattle.capnp_model.specs.Readings.{record_of}
use Rattle.capnp_model.specs.Printing.{on_one_line, record_text}

-- Why nothing is shown.
pub data NotShown : Type 0 where
  -- the bytes begin with no message, by the kind of the first part that can't be read
  not_framed : Kind → NotShown
  -- there is no value within the limits, or one with a capability
  no_value : NotShown
  -- the root is a list
  no_struct : NotShown
  -- a fault is met in the record
  no_text : NotShown

-- The message at the front of bytes, with the bytes behind it. (Encoding, "Serialization Over a Stream")
abbrev pub first_message : Option ℕ → List ℕ → Result (Segments × List ℕ) Kind
first_message limit [] = Err PrematureEndOfFile
first_message limit (b ∷ bytes) = frame_at limit (b ∷ bytes)

-- A text, if there is one.
abbrev pub text_or_none : Option (List ℕ) → Result (List ℕ) NotShown
text_or_none (Some text) = Ok text
text_or_none None = Err no_text

-- The text of the record of a struct's value under the schema of an id, a null as the empty struct.
abbrev pub record_shown : Schema → (List ℕ → List ℕ) → ℕ → Tree → Result (List ℕ) NotShown
record_shown s quoted id null = text_or_none (record_text s quoted on_one_line id (record_of s id null))
record_shown s quoted id (structure words section kids) = text_or_none (record_text s quoted on_one_line id (record_of s id (structure words section kids)))
record_shown s quoted id _ = Err no_struct

-- What is shown of a value, trimmed, if there is one.
abbrev pub trimmed_shown : Schema → (List ℕ → List ℕ) → ℕ → Option Tree → Result (List ℕ) NotShown
trimmed_shown s quoted id None = Err no_value
trimmed_shown s quoted id (Some t) = record_shown s quoted id (trim t)

-- What is shown of a message.
abbrev pub message_shown : Schema → (List ℕ → List ℕ) → ℕ → Limits → Result (Segments × List ℕ) Kind → Result (List ℕ) NotShown
message_shown s quoted id limits (Ok m) = trimmed_shown s quoted id (value_within limits m.0)
message_shown s quoted id limits (Err kind) = Err (not_framed kind)

-- What is shown of the message at the front of bytes, under the schema of the root's id; `quoted` is what stands between the quotes of a text past ASCII.
abbrev pub front_message_shown : Schema → (List ℕ → List ℕ) → ℕ → Limits → List ℕ → Result (List ℕ) NotShown
front_message_shown s quoted id limits bytes = message_shown s quoted id limits (first_message limits.words bytes)
