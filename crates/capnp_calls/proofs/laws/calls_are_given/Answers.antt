use Rattle.capnp_calls.proofs.GivenCalls.{given_calls}
use Rattle.capnp_calls.proofs.laws.calls_are_given.Goals as goal

pub returns : goal.returns
returns c root calls = given_calls calls
