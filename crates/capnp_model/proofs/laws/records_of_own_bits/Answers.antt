use Rattle.capnp_model.proofs.Views.{shape_record-same}
use Rattle.capnp_model.proofs.laws.records_of_own_bits.Goals as goal

pub returns : goal.returns
returns c = shape_record-same
