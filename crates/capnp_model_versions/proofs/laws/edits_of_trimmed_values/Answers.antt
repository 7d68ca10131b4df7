use Rattle.capnp_model_versions.proofs.TrimmedEdits.{trimmed-edit}
use Rattle.capnp_model_versions.proofs.laws.edits_of_trimmed_values.Goals as goal

pub returns : goal.returns
returns c = trimmed-edit
