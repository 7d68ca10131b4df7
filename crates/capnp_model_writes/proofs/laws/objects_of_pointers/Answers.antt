use Rattle.capnp_model_writes.proofs.lemmas.Lift.{object_of_pointer, pointer_of_object}
use Rattle.capnp_model_writes.proofs.laws.objects_of_pointers.Goals as goal

pub returns : goal.returns
returns c = record { down = object_of_pointer; up = pointer_of_object }
