-- What the call's path leads to.
use Rattle.capnp_calls_in_place.proofs.CallWays.{is_found}
use Rattle.capnp_calls_in_place.proofs.splices.call_splice.Goals as goal

pub returns-clause-splice : goal.returns-clause-splice
returns-clause-splice c = λ schema known. is_found schema c.args.call.now c.splice.result c.splice.ensures known
