-- Each law is proved of the definitions.
use Rattle.capnp_wire_objects.proofs.lemmas.LevelLaws.{trees, costs, visited, refused}
use Rattle.capnp_wire_objects.proofs.laws.values_by_levels.Goals as goal

pub returns : goal.returns
returns c = record { trees = trees; costs = costs; visits = visited; refused = refused }
