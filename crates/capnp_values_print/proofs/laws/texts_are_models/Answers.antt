use Rattle.capnp_values_print.proofs.lemmas.ModelTexts.{texts}
use Rattle.capnp_values_print.proofs.laws.texts_are_models.Goals as goal

pub returns : goal.returns
returns c = texts c.pointers_are_read.ensures
