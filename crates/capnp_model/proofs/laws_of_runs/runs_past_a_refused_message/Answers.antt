use Rattle.capnp_model.proofs.lemmas.RunLaws.{past_a_refused_message}
use Rattle.capnp_model.proofs.laws_of_runs.runs_past_a_refused_message.Goals as goal

pub returns : goal.returns
returns c = past_a_refused_message
