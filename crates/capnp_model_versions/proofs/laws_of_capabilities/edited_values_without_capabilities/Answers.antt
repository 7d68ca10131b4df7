use Rattle.capnp_model.proofs.lemmas.CanonicalCopies.{free_trim}
use Rattle.capnp_model_versions.proofs.BareSchemas.{edit-puts-none, edits-put-none, opening-puts-none, kept-has-none}
use Rattle.capnp_model_versions.proofs.laws_of_capabilities.edited_values_without_capabilities.Goals as goal

pub returns : goal.returns
returns c = record { one = edit-puts-none; all = edits-put-none; opened = opening-puts-none; kept = kept-has-none; trimmed = free_trim }
