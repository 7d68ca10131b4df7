use Rattle.capnp_model.proofs.lemmas.Paths.{entry_of-fields_of}
use Rattle.capnp_model.proofs.laws.fields_by_name.Goals as goal

pub returns : goal.returns
returns c = entry_of-fields_of
