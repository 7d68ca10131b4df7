use Rattle.std.proofs.Common.{sym, ap}
use Rattle.capnp_model.specs.Accepted.{is_group_node}
use Rattle.capnp_records.specs.declared.node.NodeBody.{NodeBody}
use Rattle.capnp_records.proofs.FoundNodes.{node_with}
use Rattle.capnp_records.proofs.find.is_group.Goals as goal

pub returns-in-Struct : goal.returns-in-Struct
returns-in-Struct c = sym (ap (λ (b : NodeBody). is_group_node (node_with b)) c.in-Struct.is)

pub returns-in-Enum : goal.returns-in-Enum
returns-in-Enum c = sym (ap (λ (b : NodeBody). is_group_node (node_with b)) c.in-Enum.is)
