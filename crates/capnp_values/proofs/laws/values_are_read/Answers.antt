use Rattle.capnp_values.proofs.ValueReadings.{values}
use Rattle.capnp_values.proofs.laws.values_are_read.Goals as goal

pub returns : goal.returns
returns c = values c.pointers_are_read.ensures
