use Rattle.capnp_model.proofs.lemmas.ActiveMembers.{stays_active}
use Rattle.capnp_model.proofs.laws_of_calls.members_that_stay_active.Goals as goal

pub returns : goal.returns
returns c = stays_active
