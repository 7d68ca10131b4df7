use Rattle.capnp_model_versions.proofs.Versions.{edits-across-versions}
use Rattle.capnp_model_versions.proofs.laws.edits_across_versions.Goals as goal

pub returns : goal.returns
returns c = edits-across-versions
