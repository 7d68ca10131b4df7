use Rattle.capnp_model_versions.proofs.lemmas.WholeValues.{fits-whole}
use Rattle.capnp_model_versions.proofs.laws.fitting_values_are_whole.Goals as goal

pub returns : goal.returns
returns c = fits-whole
