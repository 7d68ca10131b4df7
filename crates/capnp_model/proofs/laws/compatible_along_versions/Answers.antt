use Rattle.capnp_model.proofs.Transitive.{compatible_along_versions}
use Rattle.capnp_model.proofs.laws.compatible_along_versions.Goals as goal

pub returns : goal.returns
returns c = compatible_along_versions
