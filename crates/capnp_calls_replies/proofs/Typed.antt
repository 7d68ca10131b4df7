-- The types of schemas are types that node records name.
use Rattle.std.proofs.Common.{◌≡◌, ap, refl}
use Rattle.capnp_model.specs.Schemas.{Ty, BaseType, TypeRecord, base_type, lists_of, type_of}
use Rattle.capnp_values_queries.specs.Types.{ty_of, ty_of_base}
use Rattle.capnp_values_queries.specs.declared.introspect.Base.{Base}
use Rattle.capnp_values_queries.specs.declared.introspect.Base.TheVariants as B
use Rattle.capnp_values_queries.specs.declared.introspect.«Type».{«Type» as SchemaType}

based : (b : Base) → (t : BaseType) × (ty_of_base b ≡ base_type t)
based B.Void = (BaseType.Void, refl)
based B.Bool = (BaseType.Boolean, refl)
based B.Int8 = (BaseType.Int8, refl)
based B.Int16 = (BaseType.Int16, refl)
based B.Int32 = (BaseType.Int32, refl)
based B.Int64 = (BaseType.Int64, refl)
based B.UInt8 = (BaseType.UInt8, refl)
based B.UInt16 = (BaseType.UInt16, refl)
based B.UInt32 = (BaseType.UInt32, refl)
based B.UInt64 = (BaseType.UInt64, refl)
based B.Text = (BaseType.Text, refl)
based B.Data = (BaseType.Data, refl)
based (B.Struct raw) = (BaseType.Struct raw.id, refl)
based B.AnyPointer = (BaseType.AnyPointer, refl)
based B.Capability = (BaseType.Capability, refl)
based (B.Enum raw) = (BaseType.Enum raw.id, refl)

-- a type of a schema
pub typed : (t : SchemaType) → (r : TypeRecord) × (ty_of t ≡ type_of r)
typed t = let b = based t.base in (record { list_count = t.list_count; base = b.0 }, ap (λ (x : Ty). lists_of t.list_count x) b.1)
