-- the calls so far that run are copied
use Rattle.std.proofs.Common.{◌≡◌, ℕ, List, map, take}
use Rattle.capnp_calls.specs.CallViews.{call_view}
use Rattle.capnp_relay_loop.specs.MessageAnswers.{answer_view}
use Rattle.hagzimot_clears.specs.Clears.{running}
use Rattle.hagzimot_clears.proofs.clears.running_calls.Given as goal

abbrev pub invariant-loop-call : goal.invariant-loop-call
invariant-loop-call l = (words : List (List ℕ)) → map call_view l.calls.items ≡ running (answer_view words l.probed) (take l.call-index l.planned)
