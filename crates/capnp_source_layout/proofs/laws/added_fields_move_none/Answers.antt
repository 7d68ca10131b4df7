use Rattle.capnp_source_layout.proofs.Layouts.{keeps}
use Rattle.capnp_source_layout.proofs.laws.added_fields_move_none.Goals as goal

pub returns : goal.returns
returns c = keeps
