use Rattle.capnp_model.proofs.FaultKinds.{tree_at_clean, clean_tree_at}
use Rattle.capnp_model.proofs.laws.faults_of_values.Goals as goal

pub returns : goal.returns
returns c = record { read = tree_at_clean; none = clean_tree_at }
