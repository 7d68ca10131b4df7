use Rattle.capnp_model.proofs.EditDepth.{edit_deepens, edits_deepen}
use Rattle.capnp_model.proofs.laws_of_calls.depths_of_edited_values.Goals as goal

pub returns : goal.returns
returns c = record { one = edit_deepens; all = edits_deepen }
