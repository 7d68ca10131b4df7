-- Types. (schema.capnp, Type)
use Rattle.std.specs.Prelude.{ℕ, zero, suc, ◌==◌, nat_lt, if◌then◌else◌, Option, Some, None, option_map}
use Rattle.capnp_model.specs.Chains.{◌>>=◌}
use Rattle.capnp_model.specs.Schemas.{BaseType, TypeRecord}
use Rattle.capnp_wire.specs.Views.{StructView, pointer_field}
use Rattle.capnp_relay_requests.specs.Places.{number, struct_behind}

-- An untyped pointer, of any kind (0), a struct (1) or a list (2), or a capability (3); parameters (members 1 and 2) are untyped. (Type.anyPointer, whose tag is bits 64 to 79, and Type.anyPointer.unconstrained, bits 80 to 95)
abbrev pub untyped_of : ℕ → ℕ → Option BaseType
untyped_of member kind =
    if member == 0 then
    (if nat_lt kind 3 then Some BaseType.AnyPointer else (if kind == 3 then Some BaseType.Capability else None)) else
    (if nat_lt member 3 then Some BaseType.AnyPointer else None)

-- A type with an id, in bits 64 to 127, or an untyped one. (Type.enum @15, struct @16, interface @17, anyPointer @18)
abbrev pub other_base : ℕ → StructView → Option BaseType
other_base member v =
    if member == 15 then Some (BaseType.Enum (number 64 1 v)) else
    (if member == 16 then Some (BaseType.Struct (number 64 1 v)) else
    (if member == 17 then Some BaseType.Capability else
    (if member == 18 then untyped_of (number 16 4 v) (number 16 5 v) else None)))

-- A type that is no list. (Type.void @0 to data @13)
abbrev pub base_in : ℕ → StructView → Option BaseType
base_in member v =
    if member == 0 then Some BaseType.Void else
    (if member == 1 then Some BaseType.Boolean else
    (if member == 2 then Some BaseType.Int8 else
    (if member == 3 then Some BaseType.Int16 else
    (if member == 4 then Some BaseType.Int32 else
    (if member == 5 then Some BaseType.Int64 else
    (if member == 6 then Some BaseType.UInt8 else
    (if member == 7 then Some BaseType.UInt16 else
    (if member == 8 then Some BaseType.UInt32 else
    (if member == 9 then Some BaseType.UInt64 else
    (if member == 10 then Some BaseType.Float32 else
    (if member == 11 then Some BaseType.Float64 else
    (if member == 12 then Some BaseType.Text else
    (if member == 13 then Some BaseType.Data else other_base member v)))))))))))))

-- A type without a list.
abbrev pub unlisted_type : BaseType → TypeRecord
unlisted_type b = record { list_count = 0; base = b }

-- A list of a type.
abbrev pub list_type_of : TypeRecord → TypeRecord
list_type_of t = record { list_count = suc t.list_count; base = t.base }

-- A type within which n lists may be nested; its tag is bits 0 to 15. (Type.list @14, elementType:
-- pointer 0)
abbrev pub type_within : ℕ → StructView → Option TypeRecord
type_within zero v = if number 16 0 v == 14 then None else option_map unlisted_type (base_in (number 16 0 v) v)
type_within (suc n) v =
    if number 16 0 v == 14 then (struct_behind (pointer_field v 0) >>= λ e. type_within n e >>= λ t. Some (list_type_of t)) else
    option_map unlisted_type (base_in (number 16 0 v) v)

-- The type behind a pointer of a struct; null is Void. At most 64 lists are nested.
abbrev pub pointed_type : ℕ → StructView → Option TypeRecord
pointed_type index v = struct_behind (pointer_field v index) >>= λ t. type_within 64 t
