-- the slots so far begin with those that there were
use Rattle.capnp_source_layout.specs.Certificates.{Extends}
use Rattle.capnp_source_layout.proofs.slots.add_places_of.Given as goal

abbrev pub invariant-loop-location : goal.invariant-loop-location
invariant-loop-location l = Extends l.fn.slots.items l.slots.items

abbrev pub invariant-loop-index : goal.invariant-loop-index
invariant-loop-index l = Extends l.fn.slots.items l.slots.items
