-- What contracts see of types. (Schema language, "Types")
use Rattle.std.specs.Prelude.{ℕ, ◌+◌, ◌-◌, ◌^◌, min, Bool, true, false, List}
use Rattle.capnp_model.specs.Schemas.{bool, int, uint, «enum», Ty, void, plain, text, blob, untyped, interface, struct, list, lists_of, Node}
use Rattle.capnp_model.specs.Accepted.{is_enum_node}
use Rattle.capnp_records.specs.Sets.{has_struct, is_at}
use Rattle.capnp_values_queries.specs.declared.introspect.Base.{Base}
use Rattle.capnp_values_queries.specs.declared.introspect.Base.TheVariants as B
use Rattle.capnp_values_queries.specs.declared.introspect.«Type».{«Type» as SchemaType}
use Rattle.capnp_values_queries.specs.declared.introspect.TypeVariant.{TypeVariant}
use Rattle.capnp_values_queries.specs.declared.introspect.TypeVariant.TheVariants as V

-- A type that is no list.
abbrev pub ty_of_base : Base → Ty
ty_of_base B.Void = void
ty_of_base B.Bool = plain bool
ty_of_base B.Int8 = plain (int 8)
ty_of_base B.Int16 = plain (int 16)
ty_of_base B.Int32 = plain (int 32)
ty_of_base B.Int64 = plain (int 64)
ty_of_base B.UInt8 = plain (uint 8)
ty_of_base B.UInt16 = plain (uint 16)
ty_of_base B.UInt32 = plain (uint 32)
ty_of_base B.UInt64 = plain (uint 64)
ty_of_base B.Text = text
ty_of_base B.Data = blob
ty_of_base (B.Struct raw) = struct raw.id
ty_of_base B.AnyPointer = untyped
ty_of_base B.Capability = interface
ty_of_base (B.Enum raw) = plain («enum» raw.id)

-- The type.
abbrev pub ty_of : SchemaType → Ty
ty_of t = lists_of t.list_count (ty_of_base t.base)

-- The type of which a variant is one level.
abbrev pub ty_of_variant : TypeVariant → Ty
ty_of_variant V.Void = void
ty_of_variant V.Bool = plain bool
ty_of_variant V.Int8 = plain (int 8)
ty_of_variant V.Int16 = plain (int 16)
ty_of_variant V.Int32 = plain (int 32)
ty_of_variant V.Int64 = plain (int 64)
ty_of_variant V.UInt8 = plain (uint 8)
ty_of_variant V.UInt16 = plain (uint 16)
ty_of_variant V.UInt32 = plain (uint 32)
ty_of_variant V.UInt64 = plain (uint 64)
ty_of_variant V.Text = text
ty_of_variant V.Data = blob
ty_of_variant (V.Struct raw) = struct raw.id
ty_of_variant V.AnyPointer = untyped
ty_of_variant V.Capability = interface
ty_of_variant (V.Enum raw) = plain («enum» raw.id)
ty_of_variant (V.List t) = list (ty_of t)

-- A type that is no list, as a type.
abbrev pub no_list : Base → SchemaType
no_list b = record { base = b; list_count = 0 }

-- The type that a variant makes. The count of lists stops at 2^32 - 1.
abbrev pub type_of_variant : TypeVariant → SchemaType
type_of_variant V.Void = no_list B.Void
type_of_variant V.Bool = no_list B.Bool
type_of_variant V.Int8 = no_list B.Int8
type_of_variant V.Int16 = no_list B.Int16
type_of_variant V.Int32 = no_list B.Int32
type_of_variant V.Int64 = no_list B.Int64
type_of_variant V.UInt8 = no_list B.UInt8
type_of_variant V.UInt16 = no_list B.UInt16
type_of_variant V.UInt32 = no_list B.UInt32
type_of_variant V.UInt64 = no_list B.UInt64
type_of_variant V.Text = no_list B.Text
type_of_variant V.Data = no_list B.Data
type_of_variant (V.Struct raw) = no_list (B.Struct raw)
type_of_variant V.AnyPointer = no_list B.AnyPointer
type_of_variant V.Capability = no_list B.Capability
type_of_variant (V.Enum raw) = no_list (B.Enum raw)
type_of_variant (V.List t) = record { base = t.base; list_count = min (t.list_count + 1) (2 ^ 32 - 1) }

-- Values of the type stand behind a pointer.
abbrev pub is_pointer : Ty → Bool
is_pointer void = false
is_pointer (plain p) = false
is_pointer ty = true

-- The struct or the enum that a type names, if it names one, is of the set of the nodes.
abbrev pub is_base_of : List Node → Base → Bool
is_base_of nodes (B.Struct raw) = is_at has_struct nodes raw.number raw.id
is_base_of nodes (B.Enum raw) = is_at is_enum_node nodes raw.number raw.id
is_base_of nodes _ = true

-- The type is of the set of the nodes.
abbrev pub is_type_of : List Node → SchemaType → Bool
is_type_of nodes t = is_base_of nodes t.base
