use Rattle.capnp_model_versions.proofs.SufficientSizes.{suffice-each}
use Rattle.capnp_model_versions.proofs.laws_of_fitting.sizes_that_suffice_each.Goals as goal

pub returns : goal.returns
returns c = suffice-each
