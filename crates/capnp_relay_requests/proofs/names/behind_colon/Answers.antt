use Rattle.std.proofs.Common.{arith}
use Rattle.capnp_relay_requests.proofs.Colons.{found_here, found_nowhere}
use Rattle.capnp_relay_requests.proofs.names.behind_colon.Goals as goal
use Rattle.capnp_relay_requests.proofs.names.behind_colon.Goals.{then-loop-at-test+else-bytes-at-ne58, else-loop-at-test}

pub returns : goal.returns
returns c =
    elim c.loop-at-test.branch [
      | then-loop-at-test+else-bytes-at-ne58 w ↦ found_here c.args.bytes.now c.loop-at.at w.loop-at-test.true c.loop-at.invariant.inside w.if-bytes-at-ne58.false c.loop-at.invariant.none
      | else-loop-at-test w ↦ found_nowhere c.args.bytes.now c.loop-at.at (omega (arith, w.loop-at-test.false)) c.loop-at.invariant.none
    ]
