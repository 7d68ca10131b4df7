use Rattle.capnp_copy_arenas.proofs.lemmas.RoomLaws.{words_stay}
use Rattle.capnp_copy_arenas.proofs.laws.words_that_stay.Goals as goal

pub returns : goal.returns
returns c = words_stay
