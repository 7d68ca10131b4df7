-- Values of defaults and annotations. (schema.capnp, Value)
use Rattle.std.specs.Prelude.{ℕ, ◌==◌, Bool, false, ◌&&◌, ◌||◌, if◌then◌else◌, Option, Some, None, replicate, [], Result, Ok, Err}
use Rattle.std.specs.Option.{ok_or}
use Rattle.capnp_model.specs.Schemas.{bool, int, uint, «enum», BaseType, TypeRecord, Value, no_value, bits, text_bytes, blob_bytes, list_segment, struct_segment, untyped_value, interface_value}
use Rattle.capnp_wire.specs.Reads.{is_null_pointer}
use Rattle.capnp_wire.specs.Views.{StructView, pointer_field}
use Rattle.capnp_relay_requests.specs.declared.fault.RequestFault.{RequestFault}
use Rattle.capnp_relay_requests.specs.Steps.{◌and_read◌}
use Rattle.capnp_relay_requests.specs.Places.{number, bit, text_behind, data_behind, segment_behind}

-- The member of the union for a base. (Value.void @0 to data @13, enum @15 to anyPointer @18)
abbrev pub member_of_base : BaseType → ℕ
member_of_base BaseType.Void = 0
member_of_base BaseType.Boolean = 1
member_of_base BaseType.Int8 = 2
member_of_base BaseType.Int16 = 3
member_of_base BaseType.Int32 = 4
member_of_base BaseType.Int64 = 5
member_of_base BaseType.UInt8 = 6
member_of_base BaseType.UInt16 = 7
member_of_base BaseType.UInt32 = 8
member_of_base BaseType.UInt64 = 9
member_of_base BaseType.Float32 = 10
member_of_base BaseType.Float64 = 11
member_of_base BaseType.Text = 12
member_of_base BaseType.Data = 13
member_of_base (BaseType.Enum id) = 15
member_of_base (BaseType.Struct id) = 16
member_of_base BaseType.Capability = 17
member_of_base BaseType.AnyPointer = 18

-- The member of the union for a type. (Value.list @14)
abbrev pub member_of_type : TypeRecord → ℕ
member_of_type t = if t.list_count == 0 then member_of_base t.base else 14

-- A type is that of any capability, whose value is told as an untyped pointer.
abbrev pub is_untyped_capability : TypeRecord → Bool
is_untyped_capability t = elim t.base [ BaseType.Capability ↦ t.list_count == 0 | _ ↦ false ]

-- A member of the union is for a type. (Value.anyPointer @18)
abbrev pub is_member_of : ℕ → TypeRecord → Bool
is_member_of m t = ((m == 18) && is_untyped_capability t) || (m == member_of_type t)

-- A plain value: a bool is bit 16, a number lies behind the tag at the first offset of its width. A float is told as the number of its bits.
abbrev pub plain_value : BaseType → StructView → Option Value
plain_value BaseType.Void v = Some no_value
plain_value BaseType.Boolean v = Some (bits bool (if bit 16 v then 1 else 0))
plain_value BaseType.Int8 v = Some (bits (int 8) (number 8 2 v))
plain_value BaseType.Int16 v = Some (bits (int 16) (number 16 1 v))
plain_value BaseType.Int32 v = Some (bits (int 32) (number 32 1 v))
plain_value BaseType.Int64 v = Some (bits (int 64) (number 64 1 v))
plain_value BaseType.UInt8 v = Some (bits (uint 8) (number 8 2 v))
plain_value BaseType.UInt16 v = Some (bits (uint 16) (number 16 1 v))
plain_value BaseType.UInt32 v = Some (bits (uint 32) (number 32 1 v))
plain_value BaseType.UInt64 v = Some (bits (uint 64) (number 64 1 v))
plain_value BaseType.Float32 v = Some (bits (uint 32) (number 32 1 v))
plain_value BaseType.Float64 v = Some (bits (uint 64) (number 64 1 v))
plain_value (BaseType.Enum id) v = Some (bits («enum» 0) (number 16 1 v))
plain_value BaseType.Text v = None
plain_value BaseType.Data v = None
plain_value (BaseType.Struct id) v = None
plain_value BaseType.AnyPointer v = None
plain_value BaseType.Capability v = None

-- A value behind pointer 0; an untyped one and a capability aren't told.
abbrev pub pointed_value : RequestFault → BaseType → StructView → Result Value RequestFault
pointed_value fault BaseType.Text v = ok_or (text_behind (pointer_field v 0)) fault and_read λ bytes. Ok (text_bytes bytes)
pointed_value fault BaseType.Data v = ok_or (data_behind (pointer_field v 0)) fault and_read λ bytes. Ok (blob_bytes bytes)
pointed_value fault (BaseType.Struct id) v = ok_or (segment_behind (pointer_field v 0)) fault and_read λ bytes. Ok (struct_segment bytes)
pointed_value fault _ v = Err fault

-- What is told of a value unless its pointer is null.
abbrev pub value_unless_null : StructView → Result Value RequestFault → Result (Option Value) RequestFault
value_unless_null v told = if is_null_pointer (pointer_field v 0) then Ok None else (told and_read λ x. Ok (Some x))

-- The value of a base; none where it is a null pointer.
abbrev pub base_value : RequestFault → BaseType → StructView → Result (Option Value) RequestFault
base_value fault b v = elim (plain_value b v) [ Some x ↦ Ok (Some x) | None ↦ value_unless_null v (pointed_value fault b v) ]

-- The value of a list; none where it is a null pointer.
abbrev pub list_value : RequestFault → StructView → Result (Option Value) RequestFault
list_value fault v = value_unless_null v (ok_or (segment_behind (pointer_field v 0)) fault and_read λ bytes. Ok (list_segment bytes))

-- The value of a type, whose tag, bits 0 to 15, has to be the type's.
abbrev pub request_value : RequestFault → TypeRecord → StructView → Result (Option Value) RequestFault
request_value fault t v =
    if is_member_of (number 16 0 v) t then (if t.list_count == 0 then base_value fault t.base v else list_value fault v) else Err fault

-- What a null pointer is of a base: no bytes, or the word of a null pointer.
abbrev pub null_base_value : BaseType → Value
null_base_value BaseType.Text = text_bytes []
null_base_value BaseType.Data = blob_bytes []
null_base_value (BaseType.Struct id) = struct_segment (replicate 8 0)
null_base_value BaseType.Capability = interface_value
null_base_value _ = untyped_value

-- What a null pointer is of a type.
abbrev pub null_value : TypeRecord → Value
null_value t = if t.list_count == 0 then null_base_value t.base else list_segment (replicate 8 0)
