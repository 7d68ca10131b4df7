use Rattle.capnp_model.proofs.PackingGrammar.{piece_read, piece_spelled}
use Rattle.capnp_model.proofs.laws_of_packing.packing_as_a_relation.Goals as goal

pub returns-clause-read : goal.returns-clause-read
returns-clause-read c = piece_read

pub returns-clause-spelled : goal.returns-clause-spelled
returns-clause-spelled c = piece_spelled
