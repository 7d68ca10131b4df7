use Rattle.capnp_model.proofs.lemmas.SizesOfValues.{words_length_of, none_counted, none_there}
use Rattle.capnp_model.proofs.laws.sizes_of_values.Goals as goal

pub returns : goal.returns
returns c = record { words = words_length_of; none = none_counted; no_count = none_there }
