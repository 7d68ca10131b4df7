-- What `hagzimot relay` is asked to do with the messages of an input.
use Rattle.std.specs.Prelude.{Bool, true, false, Some, map}
use Rattle.capnp_model.specs.Messages.{Reader, Writer}
use Rattle.capnp_calls.specs.CallViews.{call_view}
use Rattle.capnp_relay_loop.specs.Work.{LoopWork, work}
use Rattle.capnp_relay_streams.specs.Messages.{IsAnswerInForm, IsTooLargeIn}
use Rattle.hagzimot_commands.specs.Passing.{IsPassedOn, IsTooLargeToPass}
use Rattle.hagzimot_outcomes.specs.Watching.{IsWatched}
use Rattle.hagzimot_runs.specs.declared.asked.Asked.{Asked}

-- The relay's own work: each message has the answer of the calls to it, in the form that is asked.
abbrev pub asked_work : Asked → Reader → Writer → Type 0 → Type 0 → LoopWork
asked_work asked read write out_grows log_grows =
    let calls = map call_view asked.calls.now in
    work read write (Some asked.bounds.words) (IsAnswerInForm asked.is_plain asked.root calls asked.bounds) (IsTooLargeIn asked.is_plain asked.root calls asked.bounds) out_grows log_grows

-- The work if messages that are refused go out as they came, or else as it is.
abbrev pub work_passing : Bool → LoopWork → LoopWork
work_passing false w = w
work_passing true w = record w { is_answer = IsPassedOn w.is_answer; is_too_large = IsTooLargeToPass w.is_too_large }

-- The work if no call may be refused, and if messages that are refused go out as they came.
abbrev pub work_watched : Bool → Bool → LoopWork → LoopWork
work_watched is_strict passes w = work_passing passes (record w { is_answer = IsWatched is_strict w.is_answer })
