-- each scope comes after those around it
use Rattle.capnp_source_layout.proofs.draft.places_around.Given as goal

abbrev pub decreases-outward : goal.decreases-outward
decreases-outward l = l.at
