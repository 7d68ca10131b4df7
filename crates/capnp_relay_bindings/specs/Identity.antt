-- The ids of generic nodes whose parameters are bound.
use Rattle.std.specs.Prelude.{ℕ, ◌^◌, ◌==◌, if◌then◌else◌, bit_or, take, length, List, [], ◌∷◌, ◌++◌}
use Rattle.std.specs.Int.{w64, to_le_bytes, from_le_bytes}
use Rattle.sha2.specs.Sha256.{sha256}
use Rattle.capnp_records.specs.declared.node.BaseType.{BaseType}
use Rattle.capnp_records.specs.declared.node.BaseType.TheVariants as T
use Rattle.capnp_relay_bindings.specs.declared.types.Binding.{Binding}
use Rattle.capnp_relay_bindings.specs.declared.types.BoundType.{BoundType}

-- The number of a base, that of its member in the union of types. (schema.capnp, Type)
abbrev pub base_number : BaseType → ℕ
base_number T.Void = 0
base_number T.Bool = 1
base_number T.Int8 = 2
base_number T.Int16 = 3
base_number T.Int32 = 4
base_number T.Int64 = 5
base_number T.UInt8 = 6
base_number T.UInt16 = 7
base_number T.UInt32 = 8
base_number T.UInt64 = 9
base_number T.Float32 = 10
base_number T.Float64 = 11
base_number T.Text = 12
base_number T.Data = 13
base_number (T.Enum id) = 15
base_number (T.Struct id) = 16
base_number T.Capability = 17
base_number T.AnyPointer = 18

-- The id that a base names; 0 if it names none.
abbrev pub base_id : BaseType → ℕ
base_id (T.Enum id) = id
base_id (T.Struct id) = id
base_id _ = 0

-- A number in eight bytes, the lowest first.
unfoldable pub number_bytes : ℕ → List ℕ
number_bytes n = to_le_bytes w64 n

-- A key with a type behind it: four numbers.
abbrev pub with_type : List ℕ → BoundType → List ℕ
with_type key t = (((key ++ number_bytes t.ty.list_count) ++ number_bytes (base_number t.ty.base)) ++ number_bytes (base_id t.ty.base)) ++ number_bytes t.interface

-- A key with a binding behind it: its scope, its index and its type.
abbrev pub with_binding : List ℕ → Binding → List ℕ
with_binding key b = with_type ((key ++ number_bytes b.scope) ++ number_bytes b.index) b.to

-- A key with bindings behind it.
abbrev pub with_bindings : List ℕ → List Binding → List ℕ
with_bindings key [] = key
with_bindings key (b ∷ bs) = with_bindings (with_binding key b) bs

-- What is digested of a generic node with bindings.
abbrev pub key_of : ℕ → List Binding → List ℕ
key_of generic bindings = with_bindings (number_bytes generic) bindings

-- The id of a key: the first eight bytes of its digest, the lowest first, with the top bit set.
abbrev pub id_of_key : List ℕ → ℕ
id_of_key key = bit_or (from_le_bytes w64 (take 8 (sha256 key))) (2 ^ 63)

-- The id of a generic node with bindings: its own where nothing is bound.
abbrev pub bound_id : ℕ → List Binding → ℕ
bound_id generic bindings = if length bindings == 0 then generic else id_of_key (key_of generic bindings)
