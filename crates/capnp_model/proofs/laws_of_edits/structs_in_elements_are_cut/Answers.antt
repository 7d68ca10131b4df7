use Rattle.capnp_model.proofs.ElementEnds.{cut_words, cut_pointers}
use Rattle.capnp_model.proofs.laws_of_edits.structs_in_elements_are_cut.Goals as goal

pub returns : goal.returns
returns c = record { words = cut_words; pointers = cut_pointers }
