use Rattle.capnp_source_layout.proofs.Layouts.{each_bit}
use Rattle.capnp_source_layout.proofs.laws.each_bit_once.Goals as goal

pub returns : goal.returns
returns c = each_bit
