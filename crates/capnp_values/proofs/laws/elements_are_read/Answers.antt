use Rattle.capnp_values.proofs.lemmas.ElementReadings.{elements}
use Rattle.capnp_values.proofs.laws.elements_are_read.Goals as goal

pub returns : goal.returns
returns c = elements c.pointers_are_read.ensures
