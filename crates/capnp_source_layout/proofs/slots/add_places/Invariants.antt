-- the slots so far begin with those that there were
use Rattle.capnp_source_layout.specs.Certificates.{Extends}
use Rattle.capnp_source_layout.proofs.slots.add_places.Given as goal

abbrev pub invariant-loop-union : goal.invariant-loop-union
invariant-loop-union l = Extends l.fn.slots.items l.slots.items
