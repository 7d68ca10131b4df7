use Rattle.capnp_values_print.proofs.FieldModels.{fields}
use Rattle.capnp_values_print.proofs.laws.fields_are_models.Goals as goal

pub returns : goal.returns
returns c = fields c.pointers_are_read.ensures
