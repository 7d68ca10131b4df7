use Rattle.capnp_calls.proofs.AcceptedSlots.{root_is_no_group}
use Rattle.capnp_calls.proofs.laws.roots_are_no_groups.Goals as goal

pub returns : goal.returns
returns c root h = root_is_no_group root h
