use Rattle.capnp_model.proofs.lemmas.RunLaws.{in_two_forms, of_same_messages}
use Rattle.capnp_model.proofs.laws_of_runs.runs_in_two_forms.Goals as goal

pub returns : goal.returns
returns c = record { spelled = in_two_forms; read = of_same_messages }
