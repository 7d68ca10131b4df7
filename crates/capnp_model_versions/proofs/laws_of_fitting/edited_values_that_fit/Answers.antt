use Rattle.capnp_model_versions.proofs.FittingSchemas.{edits-fit}
use Rattle.capnp_model_versions.proofs.laws_of_fitting.edited_values_that_fit.Goals as goal

pub returns : goal.returns
returns c = edits-fit
