-- Messages that are passed on as they came where they would be skipped.
use Rattle.std.specs.Prelude.{◌≡◌, ℕ, ◌⊎◌, Some, []}
use Rattle.capnp_model.specs.Segments.{Segments}
use Rattle.capnp_model.specs.Messages.{Reader, Writer}
use Rattle.capnp_model.specs.Answers.{Answer, refused_value, refused_root, refused_depth, written}
use Rattle.capnp_relay_loop.specs.Work.{LoopWork, work}
use Rattle.hagzimot_commands.specs.Answers.{IsNoMessage}

-- What goes out in place of an answer to the message of these segments: where it would be skipped, the message as it came.
abbrev pub passed_on : Segments → Answer → Answer
passed_on s refused_value = written s []
passed_on s refused_root = written s []
passed_on s refused_depth = written s []
passed_on s (written segments replies) = written segments replies

-- This goes out for a message of these segments, where the answer to it is one of these.
abbrev pub IsPassedOn : (Segments → Answer → Type 0) → Segments → Answer → Type 0
IsPassedOn is_answer s a = (b : Answer) × is_answer s b × (a ≡ passed_on s b)

-- The message is too large to be answered, or is none that could be passed on.
abbrev pub IsTooLargeToPass : (Segments → Type 0) → Segments → Type 0
IsTooLargeToPass is_too_large s = is_too_large s ⊎ IsNoMessage s

-- Each message is answered so, and goes out as it came where it would be skipped.
abbrev pub passing_work : (Segments → Answer → Type 0) → (Segments → Type 0) → Reader → Writer → ℕ → Type 0 → Type 0 → LoopWork
passing_work is_answer is_too_large read write limit out_grows log_grows =
    work read write (Some limit) (IsPassedOn is_answer) (IsTooLargeToPass is_too_large) out_grows log_grows
