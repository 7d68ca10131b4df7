use Rattle.capnp_model_writes.proofs.lemmas.Lift.{child_of_struct, struct_of_child}
use Rattle.capnp_model_writes.proofs.laws.children_of_structs.Goals as goal

pub returns : goal.returns
returns c = record { down = child_of_struct; up = struct_of_child }
