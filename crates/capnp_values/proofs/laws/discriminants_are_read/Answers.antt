use Rattle.capnp_values.proofs.lemmas.FieldReadings.{discriminants}
use Rattle.capnp_values.proofs.laws.discriminants_are_read.Goals as goal

pub returns : goal.returns
returns c = discriminants
