-- Fields. (schema.capnp, Field)
use Rattle.std.specs.Prelude.{ℕ, ◌==◌, if◌then◌else◌, bit_xor, List, Result, Ok, Err}
use Rattle.std.specs.Option.{ok_or}
use Rattle.capnp_model.specs.Schemas.{Field, FieldKind, slot, group}
use Rattle.capnp_records.specs.NodeViews.{member_of}
use Rattle.capnp_wire.specs.Views.{StructView, ListView, pointer_field, element_as_struct}
use Rattle.capnp_relay_requests.specs.declared.fault.Part.TheVariants.{Kind, Name, FieldType, Default, Float}
use Rattle.capnp_relay_requests.specs.declared.fault.RequestFault.{RequestFault}
use Rattle.capnp_relay_requests.specs.declared.fault.RequestFault.TheVariants.{Unread}
use Rattle.capnp_relay_requests.specs.declared.fault.Spot.{Spot}
use Rattle.capnp_relay_requests.specs.declared.fault.Spot.TheVariants.{Member}
use Rattle.capnp_relay_requests.specs.Steps.{◌and_read◌, read_each}
use Rattle.capnp_relay_requests.specs.Places.{number, struct_behind}
use Rattle.capnp_relay_requests.specs.Names.{member_name}
use Rattle.capnp_relay_requests.specs.Types.{pointed_type}
use Rattle.capnp_relay_requests.specs.Values.{request_value}
use Rattle.capnp_relay_requests.specs.Floats.{stored_type}
use Rattle.capnp_relay_requests.specs.Annotations.{ContextView, annotations_at}

-- A slot. (Field.slot.type: pointer 2; defaultValue: pointer 3; offset: bits 32 to 63)
abbrev pub request_slot : ContextView → Spot → StructView → Result FieldKind RequestFault
request_slot g spot v =
    ok_or (pointed_type 2 v) (Unread spot FieldType) and_read λ t.
    ok_or (stored_type g.floats t) (Unread spot Float) and_read λ stored.
    ok_or (struct_behind (pointer_field v 3)) (Unread spot Default) and_read λ x.
    request_value (Unread spot Default) t x and_read λ value.
    Ok (slot (number 32 1 v) stored value)

-- What a field is; its tag is bits 64 to 79. (Field.slot: 0; Field.group: 1, whose typeId is bits 128 to 191)
abbrev pub field_kind : ContextView → Spot → StructView → Result FieldKind RequestFault
field_kind g spot v =
    if number 16 4 v == 0 then request_slot g spot v else
    (if number 16 4 v == 1 then Ok (group (number 64 2 v)) else Err (Unread spot Kind))

-- A field. (Field.name: pointer 0; annotations: pointer 1; discriminantValue: bits 16 to 31, exclusive or its default 65535, which is no member's)
abbrev pub request_field : ContextView → Spot → StructView → Result Field RequestFault
request_field g spot v =
    member_name (Unread spot Name) v and_read λ name.
    annotations_at g spot 1 v and_read λ annotations.
    field_kind g spot v and_read λ kind.
    Ok (record { name = name; member = member_of (bit_xor (number 16 1 v) 65535); annotations = annotations; kind = kind })

-- The first n fields of the struct of an id.
abbrev pub fields_among : ContextView → ℕ → ListView → ℕ → Result (List Field) RequestFault
fields_among g id l n = read_each (λ i. request_field g (Member id i) (element_as_struct l i)) n
