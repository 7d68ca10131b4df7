use Rattle.capnp_model_writes.proofs.lemmas.Lift.{object_replaced_then, object_replaced_owned}
use Rattle.capnp_model_writes.proofs.laws.changes_of_objects.Goals as goal

pub returns : goal.returns
returns c = record { again = object_replaced_then; owned = object_replaced_owned }
