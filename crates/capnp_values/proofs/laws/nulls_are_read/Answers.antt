use Rattle.capnp_values.proofs.lemmas.Nulls.{nulls}
use Rattle.capnp_values.proofs.laws.nulls_are_read.Goals as goal

pub returns : goal.returns
returns c = nulls
