use Rattle.capnp_model.proofs.lemmas.EditLaws.{beside_calls}
use Rattle.capnp_model.proofs.laws_of_edits.root_beside_its_schema.Goals as goal

pub returns : goal.returns
returns c = beside_calls
