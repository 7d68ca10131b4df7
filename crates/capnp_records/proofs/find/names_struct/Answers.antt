use Rattle.std.proofs.Common.{◌∙◌, ap}
use Rattle.capnp_model.specs.Accepted.{is_struct_node}
use Rattle.capnp_records.proofs.FoundNodes.{passes}
use Rattle.capnp_records.proofs.find.names_struct.Goals as goal

pub returns-in-None : goal.returns-in-None
returns-in-None c = ap (passes is_struct_node) c.in-None.ensures

pub returns-in-Some : goal.returns-in-Some
returns-in-Some c = c.is_struct.ensures ∙ ap (passes is_struct_node) c.in-Some.ensures
