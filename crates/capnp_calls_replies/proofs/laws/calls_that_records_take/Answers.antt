use Rattle.capnp_calls_replies.proofs.Takes.{all_refuse, one_takes}
use Rattle.capnp_calls_replies.proofs.laws.calls_that_records_take.Goals as goal

pub returns : goal.returns
returns c = record { refused = all_refuse; taken = one_takes }
