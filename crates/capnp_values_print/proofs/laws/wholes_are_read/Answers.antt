use Rattle.capnp_values_print.proofs.WholeReadings.{wholes}
use Rattle.capnp_values_print.proofs.laws.wholes_are_read.Goals as goal

pub returns : goal.returns
returns c = wholes c.pointers_are_read.ensures
