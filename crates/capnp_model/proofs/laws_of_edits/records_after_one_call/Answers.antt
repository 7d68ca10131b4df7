use Rattle.capnp_model.proofs.lemmas.EditLaws.{one_call, next_start}
use Rattle.capnp_model.proofs.laws_of_edits.records_after_one_call.Goals as goal

pub returns : goal.returns
returns c = record { reads = one_call; next = next_start }
