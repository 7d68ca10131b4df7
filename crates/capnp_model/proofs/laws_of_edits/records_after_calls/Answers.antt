use Rattle.capnp_model.proofs.lemmas.EditLaws.{record_after_calls, replies_to_calls, last_start}
use Rattle.capnp_model.proofs.laws_of_edits.records_after_calls.Goals as goal

pub returns : goal.returns
returns c = record { reads = record_after_calls; replied = replies_to_calls; next = last_start }
