use Rattle.capnp_model.proofs.lemmas.Canonical.{canonical_means, canonical_is, canonical_same, canonical_again}
use Rattle.capnp_model.proofs.laws.canonical_messages.Goals as goal

pub returns : goal.returns
returns c = record { means = canonical_means; equal = canonical_is; same = canonical_same; again = canonical_again }
