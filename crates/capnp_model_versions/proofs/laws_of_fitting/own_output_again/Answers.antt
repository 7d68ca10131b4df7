use Rattle.capnp_model_versions.proofs.OwnOutput.{own-output-again}
use Rattle.capnp_model_versions.proofs.laws_of_fitting.own_output_again.Goals as goal

pub returns : goal.returns
returns c = own-output-again
