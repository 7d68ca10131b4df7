-- What became of messages and calls, and the lines of the log that say so.
use Rattle.std.specs.Prelude.{ℕ, Bool, true, false, Option, Some, None, List, map, filter, length}
use Rattle.std.specs.List.{position}
use Rattle.capnp_model.specs.Answers.{Reply as ModelReply, reply_text, reply_done, reply_refused}
use Rattle.capnp_units.specs.Errors.{kind_of}
use Rattle.capnp_calls.specs.Replies.{reply_view}
use Rattle.capnp_calls.specs.declared.reply.Reply.{Reply}
use Rattle.hagzimot_outcomes.specs.declared.outcomes.CallOutcome.{CallOutcome}
use Rattle.hagzimot_outcomes.specs.declared.outcomes.CallOutcome.TheVariants as call

-- The reply of a call that ran.
abbrev pub reply_told : CallOutcome → Option ModelReply
reply_told (call.Text bytes) = Some (reply_text bytes.items)
reply_told call.Done = Some reply_done
reply_told (call.Refused kind) = Some (reply_refused (kind_of kind))
reply_told call.Skipped = None

-- The replies of calls that all ran.
abbrev pub told_each : List Reply → List (Option ModelReply)
told_each replies = map (λ r. Some (reply_view r)) replies

-- A call that is refused.
abbrev pub is_refusal : ModelReply → Bool
is_refusal (reply_text t) = false
is_refusal reply_done = false
is_refusal (reply_refused k) = true

-- How many calls are refused.
abbrev pub refused_count : List Reply → ℕ
refused_count replies = length (filter (λ r. is_refusal (reply_view r)) replies)

-- The place of the first call that is refused.
abbrev pub refused_place : List Reply → Option ℕ
refused_place replies = position (λ r. is_refusal (reply_view r)) replies
