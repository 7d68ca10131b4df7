use Rattle.std.proofs.Common.{◌≡◌, ◌≤◌, None, length, drop}
use Rattle.capnp_relay_requests.specs.Names.{after_colon}
use Rattle.capnp_relay_requests.proofs.names.behind_colon.Given as goal

abbrev pub invariant-loop-at : goal.invariant-loop-at
invariant-loop-at l = record {
  inside : l.at ≤ length l.fn.bytes;
  none : after_colon (drop l.at l.fn.bytes) ≡ None;
}

abbrev pub decreases-loop-at : goal.decreases-loop-at
decreases-loop-at l = l.at
