use Rattle.capnp_model.proofs.lemmas.RunLaws.{over_equal_values}
use Rattle.capnp_model.proofs.laws_of_runs.runs_over_equal_values.Goals as goal

pub returns : goal.returns
returns c = over_equal_values
