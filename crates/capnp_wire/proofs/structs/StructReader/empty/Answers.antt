-- No byte and no pointer is the empty struct.
use Rattle.std.proofs.Common.{refl}
use Rattle.capnp_wire.proofs.structs.StructReader.empty.Goals as goal

pub returns : goal.returns
returns g c = refl
