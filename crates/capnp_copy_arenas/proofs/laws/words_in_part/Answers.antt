use Rattle.capnp_copy_arenas.proofs.lemmas.Parts.{section_there, front_there}
use Rattle.capnp_copy_arenas.proofs.laws.words_in_part.Goals as goal

pub returns-clause-behind : goal.returns-clause-behind
returns-clause-behind c = section_there

pub returns-clause-front : goal.returns-clause-front
returns-clause-front c = front_there
