-- Annotations, whose types their own nodes tell.
use Rattle.std.specs.Prelude.{ℕ, zero, suc, ◌==◌, nat_eq, if◌then◌else◌, Option, Some, None, option_map, List, Result, Ok}
use Rattle.std.specs.HashMap.{get}
use Rattle.std.specs.Option.{ok_or}
use Rattle.capnp_model.specs.Schemas.{TypeRecord, Value, Annotation}
use Rattle.capnp_records.specs.NodeViews.{type_record_of}
use Rattle.capnp_wire.specs.Views.{StructView, ListView, pointer_field, element_as_struct}
use Rattle.capnp_relay_requests.specs.declared.annotations.Context.{Context}
use Rattle.capnp_relay_requests.specs.declared.fault.Part.TheVariants.{Annotations, Float}
use Rattle.capnp_relay_requests.specs.declared.fault.RequestFault.{RequestFault}
use Rattle.capnp_relay_requests.specs.declared.fault.RequestFault.TheVariants.{Unread}
use Rattle.capnp_relay_requests.specs.declared.fault.Spot.{Spot}
use Rattle.capnp_relay_requests.specs.declared.request.Floats.{Floats}
use Rattle.capnp_relay_requests.specs.Steps.{◌and_read◌, read_each}
use Rattle.capnp_relay_requests.specs.Places.{number, struct_behind, structs_behind}
use Rattle.capnp_relay_requests.specs.Types.{pointed_type}
use Rattle.capnp_relay_requests.specs.Values.{request_value, null_value}
use Rattle.capnp_relay_requests.specs.Floats.{stored_type}

-- What floats become, and the types of annotations by the ids of their nodes.
pub record ContextView : Type 0 where
  pub floats : Floats
  pub types : ℕ → Option TypeRecord

-- What floats become, and the types of annotations, as the code has them.
abbrev pub context_view : Context → ContextView
context_view c = record { floats = c.floats; types = λ id. option_map type_record_of (get nat_eq c.types id) }

-- The type that a node declares, where it is an annotation's. (schema.capnp, Node.annotation: tag 5 in bits 96 to 111; annotation.type: pointer 3)
abbrev pub declared_type : StructView → Option TypeRecord
declared_type v = if number 16 6 v == 5 then pointed_type 3 v else None

-- The type for an id that a node declares, else another's. (Node.id: bits 0 to 63)
abbrev pub declared_or : ℕ → StructView → Option TypeRecord → Option TypeRecord
declared_or id v others = if number 64 0 v == id then elim (declared_type v) [ Some t ↦ Some t | None ↦ others ] else others

-- The type of the annotation of an id: that of the first node of n, from one on, that declares it.
abbrev pub declared_from : ListView → ℕ → ℕ → ℕ → Option TypeRecord
declared_from l id i zero = None
declared_from l id i (suc n) = declared_or id (element_as_struct l i) (declared_from l id (suc i) n)

-- The value that is read, and in place of a null pointer that of the type.
abbrev pub value_or_null : TypeRecord → Option Value → Value
value_or_null t (Some x) = x
value_or_null t None = null_value t

-- An annotation. (Annotation.id: bits 0 to 63; Annotation.value: pointer 0)
abbrev pub annotation_in : ContextView → Spot → StructView → Result Annotation RequestFault
annotation_in g spot v =
    ok_or (g.types (number 64 0 v)) (Unread spot Annotations) and_read λ t.
    ok_or (stored_type g.floats t) (Unread spot Float) and_read λ stored.
    ok_or (struct_behind (pointer_field v 0)) (Unread spot Annotations) and_read λ x.
    request_value (Unread spot Annotations) t x and_read λ value.
    Ok (record { id = number 64 0 v; type = stored; value = value_or_null t value })

-- The first n annotations of a list.
abbrev pub annotations_among : ContextView → Spot → ListView → ℕ → Result (List Annotation) RequestFault
annotations_among g spot l n = read_each (λ i. annotation_in g spot (element_as_struct l i)) n

-- The annotations behind a pointer of a node or a member.
abbrev pub annotations_at : ContextView → Spot → ℕ → StructView → Result (List Annotation) RequestFault
annotations_at g spot index v = ok_or (structs_behind (pointer_field v index)) (Unread spot Annotations) and_read λ l. annotations_among g spot l l.count
