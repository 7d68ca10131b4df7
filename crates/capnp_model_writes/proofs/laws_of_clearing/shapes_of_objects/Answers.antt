use Rattle.capnp_model_writes.proofs.lemmas.Turns.{struct_shape, list_shape, structs_shape}
use Rattle.capnp_model_writes.proofs.laws_of_clearing.shapes_of_objects.Goals as goal

pub returns : goal.returns
returns c = record { structs = struct_shape; lists = list_shape; structs_in_lists = structs_shape }
