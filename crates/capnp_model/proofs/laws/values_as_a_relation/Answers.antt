use Rattle.capnp_model.proofs.Meaning.{means_tree_at, tree_at_means, means_one}
use Rattle.capnp_model.proofs.laws.values_as_a_relation.Goals as goal

pub returns : goal.returns
returns c = record { read = means_tree_at; meant = tree_at_means; one = means_one }
