-- A pointer and the words behind it are the canonical words.
use Rattle.capnp_wire_canonical.proofs.Telling.{stands_words, words_stand}
use Rattle.capnp_wire_canonical.proofs.laws.standing_is_canonical.Goals as goal

pub returns : goal.returns
returns c = record { words = stands_words; stand = words_stand }
