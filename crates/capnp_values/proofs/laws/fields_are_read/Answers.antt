use Rattle.capnp_values.proofs.lemmas.DefaultReadings.{fields}
use Rattle.capnp_values.proofs.laws.fields_are_read.Goals as goal

pub returns : goal.returns
returns c = fields c.pointers_are_read.ensures
