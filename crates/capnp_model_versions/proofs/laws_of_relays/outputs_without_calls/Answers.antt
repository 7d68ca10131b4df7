use Rattle.capnp_model_versions.proofs.OutputLengths.{framed-without-calls, run-without-calls}
use Rattle.capnp_model_versions.proofs.laws_of_relays.outputs_without_calls.Goals as goal

pub returns : goal.returns
returns c = record {
  one = λ w message segments words none_called is writes. framed-without-calls w words none_called is message segments writes;
  each = λ w read bytes output log end words none_called is x. run-without-calls w words none_called is read bytes output log end x;
}
