use Rattle.capnp_values.proofs.PointerReadings.{pointers}
use Rattle.capnp_values.proofs.laws.pointers_are_read.Goals as goal

pub returns : goal.returns
returns c = pointers c.values_by_levels.ensures.trees c.gets_are_readings.ensures.bytes c.gets_are_readings.ensures.structs c.gets_are_readings.ensures.lists
