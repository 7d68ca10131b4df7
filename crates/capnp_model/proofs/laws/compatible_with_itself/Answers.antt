use Rattle.capnp_model.proofs.Reflexive.{compatible_with_itself}
use Rattle.capnp_model.proofs.laws.compatible_with_itself.Goals as goal

pub returns : goal.returns
returns c = compatible_with_itself
