use Rattle.capnp_model_writes.proofs.Lengths.{owned_length, trimmed_length}
use Rattle.capnp_model_writes.proofs.laws_of_canonical_words.lengths_of_canonical_words.Goals as goal

pub returns : goal.returns
returns c = record { whole = owned_length; trimmed = trimmed_length }
