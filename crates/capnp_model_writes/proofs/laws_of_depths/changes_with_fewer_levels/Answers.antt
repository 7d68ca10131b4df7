use Rattle.capnp_model_writes.proofs.FewerLevels.{owned_at, replaced_at, owned_object_at, replaced_object_at}
use Rattle.capnp_model_writes.proofs.laws_of_depths.changes_with_fewer_levels.Goals as goal

pub returns : goal.returns
returns c = record { owned = owned_at; replaced = replaced_at; object_owned = owned_object_at; object_replaced = replaced_object_at }
