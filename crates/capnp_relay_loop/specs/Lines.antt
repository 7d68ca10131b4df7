-- The line of the log, which is kept from message to message.
use Rattle.std.specs.Prelude.{◌≡◌, ℕ, ◌+◌, ◌^◌, ◌<◌, List, [], length, decimal, replicate}
use Rattle.capnp_model.specs.Answers.{Answer, reply_done, written}
use Rattle.capnp_model.specs.Runs.{line_of}
use Rattle.capnp_relay_loop.specs.declared.answer.MessageAnswer.{MessageAnswer}
use Rattle.capnp_relay_loop.specs.declared.line.Line.{Line}
use Rattle.capnp_relay_loop.specs.MessageAnswers.{answer_view}

-- An answer of which the log says that n calls are done.
abbrev pub all_done : ℕ → Answer
all_done calls = written [] (replicate calls reply_done)

-- The bytes are the line of a message whose calls are all done, of which the last digit of its number stands there.
pub record IsDoneLine (line : Line) : Type 0 where
  pub number : line.number < 2 ^ 64
  pub digit : line.digit + 1 ≡ 8 + length (decimal line.number)
  pub says : line.bytes.items ≡ line_of line.number (all_done line.calls)

-- What is kept beside the bytes is true of them, where a digit is told.
abbrev pub KeepsLine : Line → Type 0
KeepsLine line = 0 < line.digit → IsDoneLine line

-- The bytes are the line of the answer to message n, and what is kept beside them is true.
abbrev pub IsLine : ℕ → Answer → Line → Type 0
IsLine n a line = (line.bytes.items ≡ line_of n a) × KeepsLine line

-- The same of an answer whose segments stand in these words.
abbrev pub IsLineOf : ℕ → List (List ℕ) → Line → MessageAnswer → Type 0
IsLineOf n words line a = IsLine n (answer_view words a) line
