-- Nodes. (schema.capnp, Node)
use Rattle.std.specs.Prelude.{ℕ, ◌==◌, nat_lt, if◌then◌else◌, Option, Some, None, List, [], ◌∷◌, ◌++◌, Result, Ok, Err}
use Rattle.std.specs.Option.{ok_or}
use Rattle.capnp_model.specs.Schemas.{Enumerant, StructNode, NodeKind, struct_node, enum_node, Node as NodeRecord}
use Rattle.capnp_wire.specs.Views.{StructView, ListView, pointer_field, element_as_struct}
use Rattle.capnp_relay_requests.specs.declared.fault.Part.TheVariants.{Kind, Name, Members}
use Rattle.capnp_relay_requests.specs.declared.fault.RequestFault.{RequestFault}
use Rattle.capnp_relay_requests.specs.declared.fault.RequestFault.TheVariants.{Unread}
use Rattle.capnp_relay_requests.specs.declared.fault.Spot.{Spot}
use Rattle.capnp_relay_requests.specs.declared.fault.Spot.TheVariants.{Node, Member}
use Rattle.capnp_relay_requests.specs.Steps.{◌and_read◌, gathered, read_each}
use Rattle.capnp_relay_requests.specs.Places.{number, bit, structs_behind}
use Rattle.capnp_relay_requests.specs.Names.{member_name, node_name}
use Rattle.capnp_relay_requests.specs.Annotations.{ContextView, annotations_at}
use Rattle.capnp_relay_requests.specs.Fields.{fields_among}

-- A struct or a group. (Node.struct.dataWordCount: bits 112 to 127; pointerCount: 192 to 207; isGroup: 224; discriminantCount: 240 to 255; discriminantOffset: 256 to 287; fields: pointer 3)
abbrev pub request_struct : ContextView → ℕ → StructView → Result StructNode RequestFault
request_struct g id v =
    ok_or (structs_behind (pointer_field v 3)) (Unread (Node id) Members) and_read λ l.
    fields_among g id l l.count and_read λ fields.
    Ok (record {
      words = number 16 7 v;
      pointers = number 16 12 v;
      is_group = bit 224 v;
      discriminant_count = number 16 15 v;
      discriminant_offset = number 32 8 v;
      fields = fields;
    })

-- An enumerant. (Enumerant.name: pointer 0; annotations: pointer 1)
abbrev pub request_enumerant : ContextView → Spot → StructView → Result Enumerant RequestFault
request_enumerant g spot v =
    member_name (Unread spot Name) v and_read λ name.
    annotations_at g spot 1 v and_read λ annotations.
    Ok (record { name = name; annotations = annotations })

-- The first n enumerants of the enum of an id.
abbrev pub enumerants_among : ContextView → ℕ → ListView → ℕ → Result (List Enumerant) RequestFault
enumerants_among g id l n = read_each (λ i. request_enumerant g (Member id i) (element_as_struct l i)) n

-- An enum. (Node.enum.enumerants: pointer 3)
abbrev pub request_enum : ContextView → ℕ → StructView → Result (List Enumerant) RequestFault
request_enum g id v = ok_or (structs_behind (pointer_field v 3)) (Unread (Node id) Members) and_read λ l. enumerants_among g id l l.count

-- What a node is, by its tag in bits 96 to 111; none of a file (0), an interface (3), a constant (4) and an annotation (5). (Node.struct: 1; Node.enum: 2)
abbrev pub request_node_kind : ContextView → ℕ → StructView → Result (Option NodeKind) RequestFault
request_node_kind g id v =
    if number 16 6 v == 1 then (request_struct g id v and_read λ s. Ok (Some (struct_node s))) else
    (if number 16 6 v == 2 then (request_enum g id v and_read λ es. Ok (Some (enum_node es))) else
    (if nat_lt (number 16 6 v) 6 then Ok None else Err (Unread (Node id) Kind)))

-- A node of a kind. (Node.displayName: pointer 0; annotations: pointer 2)
abbrev pub node_of_kind : ContextView → ℕ → StructView → NodeKind → Result NodeRecord RequestFault
node_of_kind g id v kind =
    node_name (Unread (Node id) Name) v and_read λ name.
    annotations_at g (Node id) 2 v and_read λ annotations.
    Ok (record { id = id; name = name; annotations = annotations; kind = kind })

-- A node, where it has a kind.
abbrev pub node_if : ContextView → ℕ → StructView → Option NodeKind → Result (Option NodeRecord) RequestFault
node_if g id v None = Ok None
node_if g id v (Some kind) = node_of_kind g id v kind and_read λ n. Ok (Some n)

-- A node; none of another than a struct, a group or an enum. (Node.id: bits 0 to 63)
abbrev pub request_node : ContextView → StructView → Result (Option NodeRecord) RequestFault
request_node g v = request_node_kind g (number 64 0 v) v and_read node_if g (number 64 0 v) v

-- One more node, if there is one.
abbrev pub with_node : List NodeRecord → Option NodeRecord → List NodeRecord
with_node ns None = ns
with_node ns (Some n) = ns ++ (n ∷ [])

-- The structs, groups and enums among the first n nodes.
abbrev pub nodes_among : ContextView → ListView → ℕ → Result (List NodeRecord) RequestFault
nodes_among g l n = gathered with_node (λ i. request_node g (element_as_struct l i)) n
