use Rattle.capnp_model_versions.proofs.Versions.{steps-across-versions}
use Rattle.capnp_model_versions.proofs.laws.steps_across_versions.Goals as goal

pub returns : goal.returns
returns c = steps-across-versions
