-- What contracts see of schema sets.
use Rattle.std.specs.Prelude.{ℕ, Bool, ◌≡◌, true, false, ◌&&◌, ◌==◌, Option, Some, None, slice_get, List, map}
use Rattle.capnp_model.specs.Schemas.{Enumerant, StructNode, NodeKind, struct_node, enum_node, Node}
use Rattle.capnp_model.specs.Accepted.{find_node, is_struct_node, is_enum_node}
use Rattle.capnp_records.specs.NodeViews.{node_of}
use Rattle.capnp_records.specs.declared.set.SchemaSet.{SchemaSet}
use Rattle.capnp_records.specs.declared.raw.RawBrandedStructSchema.{RawBrandedStructSchema}
use Rattle.capnp_records.specs.declared.raw.RawEnumSchema.{RawEnumSchema}

-- The nodes of a set.
abbrev pub nodes_of : SchemaSet → List Node
nodes_of set = map node_of set.nodes.items

-- At the raw schema's place stands the struct of its id, which is no group.
abbrev pub IsStructOf : List Node → RawBrandedStructSchema → Type 0
IsStructOf nodes raw = elim (slice_get nodes raw.number) [ None ↦ false | Some n ↦ n.id == raw.id && is_struct_node n ] ≡ true

-- A struct or a group.
abbrev pub has_struct : Node → Bool
has_struct n = elim n.kind [ struct_node s ↦ true | enum_node es ↦ false ]

-- At a place stands the node of an id, and it passes the test.
abbrev pub is_at : (Node → Bool) → List Node → ℕ → ℕ → Bool
is_at test nodes number id = elim (slice_get nodes number) [ None ↦ false | Some n ↦ n.id == id && test n ]

-- At the raw schema's place stands the struct or the group of its id.
abbrev pub IsNodeOf : List Node → RawBrandedStructSchema → Type 0
IsNodeOf nodes raw = is_at has_struct nodes raw.number raw.id ≡ true

-- At the raw schema's place stands the enum of its id.
abbrev pub IsEnumOf : List Node → RawEnumSchema → Type 0
IsEnumOf nodes raw = is_at is_enum_node nodes raw.number raw.id ≡ true

-- What a node says of a struct or a group.
abbrev pub struct_of_kind : NodeKind → Option StructNode
struct_of_kind (struct_node s) = Some s
struct_of_kind (enum_node es) = None

-- The struct or the group of an id.
abbrev pub struct_found : List Node → ℕ → Option StructNode
struct_found nodes id = elim (find_node nodes id) [ None ↦ None | Some n ↦ struct_of_kind n.kind ]

-- The enumerants of an enum.
abbrev pub enumerants_in : NodeKind → Option (List Enumerant)
enumerants_in (struct_node s) = None
enumerants_in (enum_node es) = Some es

-- The enumerants of the enum of an id.
abbrev pub enumerants_found : List Node → ℕ → Option (List Enumerant)
enumerants_found nodes id = elim (find_node nodes id) [ None ↦ None | Some n ↦ enumerants_in n.kind ]
