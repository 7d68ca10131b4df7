-- Which calls run, and what is answered then.
use Rattle.std.specs.Prelude.{◌≡◌, ℕ, ◌⊎◌, Bool, true, false, not, Option, Some, None, slice_get, List, map, filter}
use Rattle.capnp_model.specs.Kinds.{Kind, InactiveMember}
use Rattle.capnp_model.specs.Segments.{Segments}
use Rattle.capnp_model.specs.Answers.{Answer, Reply, reply_text, reply_done, reply_refused, written, refused_value, refused_root, refused_depth}
use Rattle.capnp_model.specs.Calls.{Call as ModelCall}
use Rattle.capnp_relay_answers.specs.RootCalls.{root_schema, root_calls}
use Rattle.capnp_relay_streams.specs.Messages.{IsAnswerBy, IsAnswerInForm, IsTooLargeIn}
use Rattle.capnp_relay_answers.specs.Answers.{MakesTooLarge}
use Rattle.hagzimot_clears.specs.Planned.{planned_view}
use Rattle.hagzimot_clears.specs.declared.planned.PlannedCall.{PlannedCall}
use Rattle.hagzimot_clears.specs.declared.active.ActiveClears.{ActiveClears}

-- A refusal at an inactive member.
abbrev pub is_inactive_kind : Kind → Bool
is_inactive_kind InactiveMember = true
is_inactive_kind _ = false

-- The reply of a call that met an inactive member, or that didn't run.
abbrev pub is_inactive_reply : Option Reply → Bool
is_inactive_reply None = true
is_inactive_reply (Some (reply_text t)) = false
is_inactive_reply (Some reply_done) = false
is_inactive_reply (Some (reply_refused k)) = is_inactive_kind k

-- Whether the call of a number met an inactive member; so it is in a message that has no answer.
abbrev pub is_inactive_at : Answer → ℕ → Bool
is_inactive_at (written segments replies) n = is_inactive_reply (slice_get replies n)
is_inactive_at refused_value n = true
is_inactive_at refused_root n = true
is_inactive_at refused_depth n = true

-- Whether a call runs where the probes were answered so.
abbrev pub runs_by : Answer → Option ℕ → Bool
runs_by probed None = true
runs_by probed (Some n) = not (is_inactive_at probed n)

abbrev pub runs_after : Answer → PlannedCall → Bool
runs_after probed c = runs_by probed c.probe

-- The calls that run.
abbrev pub running : Answer → List PlannedCall → List ModelCall
running probed planned = map planned_view (filter (runs_after probed) planned)

-- The answer of the calls that run, where this is the answer of the probes to the message.
abbrev pub IsClearedAnswer : ActiveClears → Segments → Answer → Type 0
IsClearedAnswer c s a = (probed : Answer) × IsAnswerBy (root_schema c.probes.calls) (root_calls c.probes.calls) c.probes.bounds s probed
    × IsAnswerInForm c.is_plain c.schema (running probed c.planned.now) c.bounds s a

-- The message is too large for the probes, or for the calls that run.
abbrev pub IsTooLargeToClear : ActiveClears → Segments → Type 0
IsTooLargeToClear c s = MakesTooLarge (root_schema c.probes.calls) (root_calls c.probes.calls) c.probes.bounds s
    ⊎ ((probed : Answer) × IsTooLargeIn c.is_plain c.schema (running probed c.planned.now) c.bounds s)
