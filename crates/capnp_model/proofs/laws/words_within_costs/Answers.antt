use Rattle.capnp_model.proofs.lemmas.Size.{tree_at_size}
use Rattle.capnp_model.proofs.lemmas.Canonical.{canonical_size}
use Rattle.capnp_model.proofs.laws.words_within_costs.Goals as goal

pub returns : goal.returns
returns c = record { whole = tree_at_size; trimmed = canonical_size }
