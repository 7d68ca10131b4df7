-- The calls so far have splices.
use Rattle.std.proofs.Common.{◌≡◌, true, take}
use Rattle.capnp_calls_in_place.specs.CallSplices.{have_splices}
use Rattle.capnp_calls_in_place.proofs.splices.are_spliced.Given as goal

abbrev pub invariant-loop-call : goal.invariant-loop-call
invariant-loop-call l = have_splices (take l.call-index l.calls) ≡ true
