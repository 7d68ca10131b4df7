-- A copy visits what a walk visits.
use Rattle.capnp_wire_canonical.proofs.SameVisits.{visits_alike}
use Rattle.capnp_wire_canonical.proofs.laws.copies_as_walks.Goals as goal

pub returns : goal.returns
returns c = visits_alike
