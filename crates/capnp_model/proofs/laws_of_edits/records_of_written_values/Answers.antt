use Rattle.capnp_model.proofs.lemmas.TrimmedKinds.{in_kind-trim, opened_start, written_record, written_replies}
use Rattle.capnp_model.proofs.laws_of_edits.records_of_written_values.Goals as goal

pub returns : goal.returns
returns c = record { kinds = in_kind-trim; start = opened_start; reads = written_record; replied = written_replies }
