use Rattle.capnp_model_writes.proofs.Depths.{owned_depth, owned_object_depth}
use Rattle.capnp_model_writes.proofs.laws_of_depths.depths_of_owned_values.Goals as goal

pub returns : goal.returns
returns c = record { values = owned_depth; objects = owned_object_depth }
