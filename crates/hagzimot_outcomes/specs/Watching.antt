-- Answers that are watched.
use Rattle.std.specs.Prelude.{◌≡◌, ℕ, Bool, true, false, Option, Some, None, List, map}
use Rattle.std.specs.List.{position}
use Rattle.capnp_model.specs.Segments.{Segments}
use Rattle.capnp_model.specs.Answers.{Answer, refused_value, refused_root, refused_depth, written}
use Rattle.capnp_calls.specs.declared.reply.Reply.{Reply}
use Rattle.capnp_relay_loop.specs.declared.answer.MessageAnswer.{MessageAnswer}
use Rattle.capnp_relay_loop.specs.declared.answer.MessageAnswer.TheVariants as made
use Rattle.hagzimot_outcomes.specs.Outcomes.{is_refusal, reply_told, told_each}
use Rattle.hagzimot_outcomes.specs.declared.outcomes.Cause.TheVariants as cause
use Rattle.hagzimot_outcomes.specs.declared.outcomes.Outcome.{Outcome}
use Rattle.hagzimot_outcomes.specs.declared.outcomes.Outcome.TheVariants as outcome

-- The place of the first call of an answer that is refused.
abbrev pub refused_call : Answer → Option ℕ
refused_call (written segments replies) = position is_refusal replies
refused_call refused_value = None
refused_call refused_root = None
refused_call refused_depth = None

-- An answer if no call is refused, or else the refusal of the message.
abbrev pub answer_unless : Option ℕ → Answer → Answer
answer_unless None a = a
answer_unless (Some place) a = refused_value

-- What goes out for an answer if no call may be refused.
abbrev pub strict_answer : Answer → Answer
strict_answer a = answer_unless (refused_call a) a

-- The answers of a message that are watched, if it has these answers. If they are strict: exactly what goes out for one of them.
abbrev pub IsWatched : Bool → (Segments → Answer → Type 0) → Segments → Answer → Type 0
IsWatched false is_answer = is_answer
IsWatched true is_answer = λ s a. (b : Answer) × is_answer s b × (a ≡ strict_answer b)

-- A message was written after calls with these replies.
abbrev pub TellsReplies : List Reply → Outcome → Type 0
TellsReplies replies (outcome.Written calls) = map reply_told calls.items ≡ told_each replies
TellsReplies replies (outcome.Done n) = ⊥
TellsReplies replies (outcome.Unedited c) = ⊥
TellsReplies replies (outcome.Refused c) = ⊥

-- What became of a message with this answer, whose calls all ran.
abbrev pub IsOutcomeOf : MessageAnswer → Outcome → Type 0
IsOutcomeOf (made.Written count replies) o = TellsReplies replies.items o
IsOutcomeOf (made.Done count calls) o = o ≡ outcome.Done calls
IsOutcomeOf (made.Several segments replies) o = TellsReplies replies.items o
IsOutcomeOf (made.Refused reason) o = o ≡ outcome.Refused (cause.Message reason)
