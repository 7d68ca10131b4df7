use Rattle.capnp_model_versions.proofs.lemmas.WrittenValues.{sizes-fit}
use Rattle.capnp_model_versions.proofs.SufficientSizes.{sizes-suffice}
use Rattle.capnp_model_versions.proofs.laws_of_fitting.sizes_that_suffice.Goals as goal

pub returns : goal.returns
returns c = record { sizes = sizes-suffice; fits = sizes-fit }
