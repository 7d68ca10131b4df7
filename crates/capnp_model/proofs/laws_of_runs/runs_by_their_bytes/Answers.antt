use Rattle.capnp_model.proofs.lemmas.RunLaws.{by_bytes}
use Rattle.capnp_model.proofs.laws_of_runs.runs_by_their_bytes.Goals as goal

pub returns : goal.returns
returns c = by_bytes
