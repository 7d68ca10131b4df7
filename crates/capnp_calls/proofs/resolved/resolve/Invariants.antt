-- The calls so far are resolved.
use Rattle.std.proofs.Common.{◌≡◌, take, map}
use Rattle.capnp_calls.specs.CallViews.{call_view}
use Rattle.capnp_calls.specs.Resolved.{calls_of, AreResolved, KnowSplices}
use Rattle.capnp_calls.proofs.resolved.resolve.Given as goal

abbrev pub invariant-loop-call : goal.invariant-loop-call
invariant-loop-call l = record {
  each : AreResolved l.root l.found.items;
  splices : KnowSplices l.root l.found.items;
  calls : calls_of l.found.items ≡ map call_view (take l.call-index l.calls);
}
