use Rattle.capnp_model.proofs.lemmas.Visits.{follows_few, row_follows_few}
use Rattle.capnp_model.proofs.laws.refused_walks.Goals as goal

pub returns : goal.returns
returns c = record { value = follows_few; row = row_follows_few }
