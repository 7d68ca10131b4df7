use Rattle.capnp_model_writes.proofs.CanonicalWords.{canonical_words_owned, canonical_words_taken}
use Rattle.capnp_model_writes.proofs.laws_of_canonical_words.canonical_words_in_place.Goals as goal

pub returns : goal.returns
returns c = record { owned = canonical_words_owned; takes = canonical_words_taken }
