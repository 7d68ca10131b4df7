-- What the refusal of node records says.
use Rattle.std.specs.Prelude.{◌≡◌, Some, List, ⊤}
use Rattle.capnp_model.specs.Schemas.{Node}
use Rattle.capnp_model.specs.Accepted.{fault_of}
use Rattle.capnp_records.specs.declared.fault.SchemaFault.{SchemaFault}
use Rattle.capnp_records.specs.declared.fault.SchemaFault.TheVariants.{Rule, Memory}

-- The fault is the first broken rule and the first node that breaks it, or want of memory.
abbrev pub IsSchemaRefusal : List Node → SchemaFault → Type 0
IsSchemaRefusal nodes (Rule rule node) = fault_of nodes ≡ Some (rule, node)
IsSchemaRefusal nodes Memory = ⊤
