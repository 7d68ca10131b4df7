-- What is asked of a relay.
use Rattle.std.specs.Prelude.{ℕ, Some}
use Rattle.std.specs.declared.option.Option.{Option}
use Rattle.capnp_model.specs.Segments.{Segments}
use Rattle.capnp_model.specs.Messages.{Reader, Writer}
use Rattle.capnp_model.specs.Answers.{Answer}
use Rattle.capnp_relay_loop.specs.declared.answers.Answers.{Ghosts as Answers}

-- How messages are read and written, how many words they may have, which answers are theirs, which are too large to be answered, and whether the sinks may want memory.
pub record LoopWork : Type 1 where
  pub read : Reader
  pub write : Writer
  pub limit : Option ℕ
  pub is_answer : Segments → Answer → Type 0
  pub is_too_large : Segments → Type 0
  pub out_grows : Type 0
  pub log_grows : Type 0

-- The work by its parts, in the order of the record.
abbrev pub work : Reader → Writer → Option ℕ → (Segments → Answer → Type 0) → (Segments → Type 0) → Type 0 → Type 0 → LoopWork
work read write limit is_answer is_too_large out_grows log_grows =
    record { read = read; write = write; limit = limit; is_answer = is_answer; is_too_large = is_too_large; out_grows = out_grows; log_grows = log_grows }

-- The work of a way to answer messages, each of at most n words.
abbrev pub work_by : {A : Type 0} → Answers A → A → Reader → Writer → ℕ → Type 0 → Type 0 → LoopWork
work_by by a read write limit out_grows log_grows = work read write (Some limit) (by.is_answer a) (by.is_too_large a) out_grows log_grows
