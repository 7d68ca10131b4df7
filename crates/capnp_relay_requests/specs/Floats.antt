-- Floats, and the whole numbers of their bits.
use Rattle.std.specs.Prelude.{ℕ, zero, suc, ◌==◌, Bool, false, ◌&&◌, if◌then◌else◌, Option, Some, None, List, [], ◌∷◌, ◌++◌}
use Rattle.capnp_model.specs.Schemas.{BaseType, TypeRecord}
use Rattle.capnp_model.specs.Accepted.{is_float}
use Rattle.capnp_wire.specs.Views.{StructView, ListView, pointer_field, element_as_struct}
use Rattle.capnp_relay_requests.specs.declared.request.Floats.{Floats}
use Rattle.capnp_relay_requests.specs.declared.request.Floats.TheVariants.{Refused, AsBits}
use Rattle.capnp_relay_requests.specs.declared.request.FloatField.{FloatField}
use Rattle.capnp_relay_requests.specs.Places.{number, structs_behind}
use Rattle.capnp_relay_requests.specs.Types.{pointed_type}

-- The whole number of a float's bits; another base stays as it is.
abbrev pub base_as_bits : BaseType → BaseType
base_as_bits BaseType.Float32 = BaseType.UInt32
base_as_bits BaseType.Float64 = BaseType.UInt64
base_as_bits b = b

-- The type with whole numbers in place of floats.
abbrev pub type_as_bits : TypeRecord → TypeRecord
type_as_bits t = record { list_count = t.list_count; base = base_as_bits t.base }

-- The type, where floats of it aren't refused.
abbrev pub stored_type : Floats → TypeRecord → Option TypeRecord
stored_type Refused t = if is_float t.base then None else Some (type_as_bits t)
stored_type AsBits t = Some (type_as_bits t)

-- A type that is read is a float.
abbrev pub is_float_type : Option TypeRecord → Bool
is_float_type None = false
is_float_type (Some t) = is_float t.base

-- A field is a slot of a float, or of lists of floats. (schema.capnp, Field.slot: tag 0 in bits 64 to 79; slot.type: pointer 2)
abbrev pub is_float_field : StructView → Bool
is_float_field v = (number 16 4 v == 0) && is_float_type (pointed_type 2 v)

-- The node's id and the index of each float among the first n fields.
abbrev pub floats_among : ℕ → ListView → ℕ → List (ℕ × ℕ)
floats_among id l zero = []
floats_among id l (suc n) = floats_among id l n ++ (if is_float_field (element_as_struct l n) then (id, n) ∷ [] else [])

-- The floats of a list of fields that may be none.
abbrev pub floats_of_fields : ℕ → Option ListView → List (ℕ × ℕ)
floats_of_fields id None = []
floats_of_fields id (Some l) = floats_among id l l.count

-- Those of a node that is a struct or a group. (Node.struct: tag 1 in bits 96 to 111; struct.fields: pointer 3; Node.id: bits 0 to 63)
abbrev pub floats_of_node : StructView → List (ℕ × ℕ)
floats_of_node v = if number 16 6 v == 1 then floats_of_fields (number 64 0 v) (structs_behind (pointer_field v 3)) else []

-- Those of the first n nodes.
abbrev pub floats_of_nodes : ListView → ℕ → List (ℕ × ℕ)
floats_of_nodes l zero = []
floats_of_nodes l (suc n) = floats_of_nodes l n ++ floats_of_node (element_as_struct l n)

-- A float field that is told.
abbrev pub float_told : FloatField → ℕ × ℕ
float_told f = (f.node, f.index)
