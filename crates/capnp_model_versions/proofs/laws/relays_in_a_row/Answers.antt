use Rattle.capnp_model_versions.proofs.lemmas.TrimmedRelays.{relays-by-words, relays-by-values}
use Rattle.capnp_model_versions.proofs.laws.relays_in_a_row.Goals as goal

pub returns : goal.returns
returns c = record { by_words = relays-by-words; by_values = relays-by-values }
