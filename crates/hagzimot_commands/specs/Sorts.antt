-- The sorts of values, in words.
use Rattle.std.specs.Prelude.{ℕ, ◌==◌, if◌then◌else◌, List, codes}
use Rattle.capnp_records.specs.declared.node.BaseType.{BaseType}
use Rattle.capnp_records.specs.declared.node.BaseType.TheVariants as base
use Rattle.capnp_records.specs.declared.node.TypeRecord.{TypeRecord}

-- The name of a base type, or of its sort.
abbrev pub base_told : BaseType → List ℕ
base_told base.Void = codes "Void"
base_told base.Bool = codes "a Bool"
base_told base.Int8 = codes "an Int8"
base_told base.Int16 = codes "an Int16"
base_told base.Int32 = codes "an Int32"
base_told base.Int64 = codes "an Int64"
base_told base.UInt8 = codes "a UInt8"
base_told base.UInt16 = codes "a UInt16"
base_told base.UInt32 = codes "a UInt32"
base_told base.UInt64 = codes "a UInt64"
base_told base.Float32 = codes "a Float32"
base_told base.Float64 = codes "a Float64"
base_told base.Text = codes "a text"
base_told base.Data = codes "data"
base_told (base.Enum id) = codes "an enum"
base_told (base.Struct id) = codes "a struct"
base_told base.AnyPointer = codes "an untyped pointer"
base_told base.Capability = codes "a capability"

-- The sort of a type: every list is one.
abbrev pub sort_told : TypeRecord → List ℕ
sort_told ty = if ty.list_count == 0 then base_told ty.base else codes "a list"
