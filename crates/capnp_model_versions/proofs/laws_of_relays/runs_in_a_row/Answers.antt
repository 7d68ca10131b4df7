use Rattle.capnp_model_versions.proofs.RunsInARow.{runs-by-words, runs-by-values}
use Rattle.capnp_model_versions.proofs.laws_of_relays.runs_in_a_row.Goals as goal

pub returns : goal.returns
returns c = record { by_words = runs-by-words; by_values = runs-by-values }
