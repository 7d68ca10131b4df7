use Rattle.capnp_model.proofs.lemmas.WordBits.{bits_at-section_of, bits_at-behind, section_of-put}
use Rattle.capnp_model.proofs.laws.bits_in_words.Goals as goal

pub returns : goal.returns
returns c = record { read = bits_at-section_of; behind = bits_at-behind; written = section_of-put }
