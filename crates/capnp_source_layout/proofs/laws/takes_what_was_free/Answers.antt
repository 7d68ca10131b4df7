use Rattle.capnp_source_layout.proofs.Places.{takes}
use Rattle.capnp_source_layout.proofs.laws.takes_what_was_free.Goals as goal

pub returns : goal.returns
returns c = takes
