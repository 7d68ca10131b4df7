use Rattle.capnp_model_writes.proofs.lemmas.Levels.{owned_more, replaced_more}
use Rattle.capnp_model_writes.proofs.laws.changes_with_more_levels.Goals as goal

pub returns : goal.returns
returns c = record { owned = owned_more; replaced = replaced_more }
