-- The two forms of schema files.
use Rattle.std.specs.Prelude.{◌≡◌, ℕ, ◌==◌, Bool, true, false, Option, Some, List, [], ◌∷◌, map}
use Rattle.std.specs.Option.{option_or}
use Rattle.capnp_model.specs.Schemas.{Enumerant, Field, StructNode, NodeKind, struct_node, enum_node, Node}
use Rattle.capnp_relay_files.specs.SchemaFiles.{schema_nodes_in}
use Rattle.capnp_relay_requests.specs.Requests.{AreRecordsOf, AreFloatsOf}
use Rattle.capnp_relay_requests.specs.declared.request.Floats.{Floats}
use Rattle.hagzimot_forms.specs.Ids.{ids_as_numbers}
use Rattle.hagzimot_schemas.specs.declared.schema_text.IdForm.{IdForm}
use Rattle.hagzimot_schemas.specs.declared.schema_text.IdForm.TheVariants.{Numbers, Texts}

-- Whether a file is a request of the compiler and no JSON. A frame has at most 511 segments, so the fourth byte of their count is zero; JSON has no zero byte. (Encoding, "Serialization Over a Stream")
abbrev pub is_request : List ℕ → Bool
is_request (a ∷ b ∷ c ∷ d ∷ rest) = d == 0
is_request _ = false

-- The nodes that JSON tells. Its ids are numbers; where it tells none so, an id may be the text of its digits too.
abbrev pub json_nodes : List ℕ → Option (List Node)
json_nodes bytes = option_or (schema_nodes_in bytes) (schema_nodes_in (ids_as_numbers bytes))

-- Nodes are those of a file that is a request, with its generic types bound, or of another, which is JSON.
abbrev pub AreNodesOf : Bool → Floats → List ℕ → List Node → Type 0
AreNodesOf true floats bytes nodes = AreRecordsOf floats bytes nodes
AreNodesOf false floats bytes nodes = json_nodes bytes ≡ Some nodes

-- Nodes are those that a schema file of either form tells.
abbrev pub AreNodesTold : Floats → List ℕ → List Node → Type 0
AreNodesTold floats bytes nodes = AreNodesOf (is_request bytes) floats bytes nodes

-- The same of fields that are floats, by their nodes' ids and their indices; JSON tells none.
abbrev pub AreFloatsIn : Bool → List ℕ → List (ℕ × ℕ) → Type 0
AreFloatsIn true bytes fields = AreFloatsOf bytes fields
AreFloatsIn false bytes fields = fields ≡ []

abbrev pub AreFloatsTold : List ℕ → List (ℕ × ℕ) → Type 0
AreFloatsTold bytes fields = AreFloatsIn (is_request bytes) bytes fields

-- What a reader that takes ids as numbers reads, by how they are written.
abbrev pub readable : IdForm → List ℕ → List ℕ
readable Numbers bytes = bytes
readable Texts bytes = ids_as_numbers bytes

-- A field, an enumerant and a node without annotations, which JSON files don't hold.
abbrev pub bare_field : Field → Field
bare_field f = record f { annotations = [] }

abbrev pub bare_enumerant : Enumerant → Enumerant
bare_enumerant e = record e { annotations = [] }

abbrev pub bare_struct : StructNode → StructNode
bare_struct s = record s { fields = map bare_field s.fields }

abbrev pub bare_kind : NodeKind → NodeKind
bare_kind (struct_node s) = struct_node (bare_struct s)
bare_kind (enum_node es) = enum_node (map bare_enumerant es)

abbrev pub bare_node : Node → Node
bare_node n = record n { annotations = []; kind = bare_kind n.kind }
