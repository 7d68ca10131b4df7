-- What contracts see of node records: each `Vec` as its list, each `String` as its bytes.
use Rattle.std.specs.Prelude.{ℕ, ◌==◌, Option, Some, None, option_map, map, string_bytes, if◌then◌else◌}
use Rattle.std.specs.Int.{cast_unsigned, w8, w16, w32, w64}
use Rattle.capnp_model.specs.Schemas.{bool, int, uint, «enum», BaseType as ModelBase, TypeRecord as ModelType, Value as ModelValue, no_value, bits, text_bytes, blob_bytes, list_segment, struct_segment, untyped_value, interface_value, Annotation, Enumerant, FieldKind, slot, group, Field, StructNode, NodeKind, struct_node, enum_node, Node}
use Rattle.capnp_records.specs.declared.node.BaseType.{BaseType}
use Rattle.capnp_records.specs.declared.node.BaseType.TheVariants as T
use Rattle.capnp_records.specs.declared.node.TypeRecord.{TypeRecord}
use Rattle.capnp_records.specs.declared.node.Value.{Value}
use Rattle.capnp_records.specs.declared.node.Value.TheVariants as V
use Rattle.capnp_records.specs.declared.node.AnnotationRecord.{AnnotationRecord}
use Rattle.capnp_records.specs.declared.node.EnumerantRecord.{EnumerantRecord}
use Rattle.capnp_records.specs.declared.node.FieldBody.{FieldBody}
use Rattle.capnp_records.specs.declared.node.FieldBody.TheVariants as B
use Rattle.capnp_records.specs.declared.node.FieldRecord.{FieldRecord}
use Rattle.capnp_records.specs.declared.node.StructRecord.{StructRecord}
use Rattle.capnp_records.specs.declared.node.NodeBody.{NodeBody}
use Rattle.capnp_records.specs.declared.node.NodeBody.TheVariants as K
use Rattle.capnp_records.specs.declared.node.NodeRecord.{NodeRecord}

-- The base of a type.
abbrev pub base_of : BaseType → ModelBase
base_of T.Void = ModelBase.Void
base_of T.Bool = ModelBase.Boolean
base_of T.Int8 = ModelBase.Int8
base_of T.Int16 = ModelBase.Int16
base_of T.Int32 = ModelBase.Int32
base_of T.Int64 = ModelBase.Int64
base_of T.UInt8 = ModelBase.UInt8
base_of T.UInt16 = ModelBase.UInt16
base_of T.UInt32 = ModelBase.UInt32
base_of T.UInt64 = ModelBase.UInt64
base_of T.Float32 = ModelBase.Float32
base_of T.Float64 = ModelBase.Float64
base_of T.Text = ModelBase.Text
base_of T.Data = ModelBase.Data
base_of (T.Enum id) = ModelBase.Enum id
base_of (T.Struct id) = ModelBase.Struct id
base_of T.AnyPointer = ModelBase.AnyPointer
base_of T.Capability = ModelBase.Capability

-- A type.
abbrev pub type_record_of : TypeRecord → ModelType
type_record_of t = record { list_count = t.list_count; base = base_of t.base }

-- The value of a default or an annotation.
abbrev pub value_of : Value → ModelValue
value_of V.Void = no_value
value_of (V.Bool b) = bits bool (if b then 1 else 0)
value_of (V.Int8 z) = bits (int 8) (cast_unsigned w8 z)
value_of (V.Int16 z) = bits (int 16) (cast_unsigned w16 z)
value_of (V.Int32 z) = bits (int 32) (cast_unsigned w32 z)
value_of (V.Int64 z) = bits (int 64) (cast_unsigned w64 z)
value_of (V.UInt8 n) = bits (uint 8) n
value_of (V.UInt16 n) = bits (uint 16) n
value_of (V.UInt32 n) = bits (uint 32) n
value_of (V.UInt64 n) = bits (uint 64) n
value_of (V.Enum n) = bits («enum» 0) n
value_of (V.Text v) = text_bytes v.items
value_of (V.Data v) = blob_bytes v.items
value_of (V.List v) = list_segment v.items
value_of (V.Struct v) = struct_segment v.items
value_of V.AnyPointer = untyped_value
value_of V.Interface = interface_value

-- An annotation.
abbrev pub annotation_of : AnnotationRecord → Annotation
annotation_of a = record { id = a.id; type = type_record_of a.ty; value = value_of a.value }

-- An enumerant.
abbrev pub enumerant_of : EnumerantRecord → Enumerant
enumerant_of e = record { name = string_bytes e.name; annotations = map annotation_of e.annotations.items }

-- What a field is.
abbrev pub kind_of_field : FieldBody → FieldKind
kind_of_field (B.Slot offset ty default) = slot offset (type_record_of ty) (option_map value_of default)
kind_of_field (B.Group node) = group node

-- The member's value; 65535 stands for none.
abbrev pub member_of : ℕ → Option ℕ
member_of d = if d == 65535 then None else Some d

-- A field.
abbrev pub field_of : FieldRecord → Field
field_of f = record {
  name = string_bytes f.name;
  member = member_of f.discriminant_value;
  annotations = map annotation_of f.annotations.items;
  kind = kind_of_field f.body;
}

-- A struct or a group.
abbrev pub struct_of : StructRecord → StructNode
struct_of s = record {
  words = s.data_word_count;
  pointers = s.pointer_count;
  is_group = s.is_group;
  discriminant_count = s.discriminant_count;
  discriminant_offset = s.discriminant_offset;
  fields = map field_of s.fields.items;
}

-- What a node is.
abbrev pub node_kind : NodeBody → NodeKind
node_kind (K.Struct s) = struct_node (struct_of s)
node_kind (K.Enum v) = enum_node (map enumerant_of v.items)

-- A node.
abbrev pub node_of : NodeRecord → Node
node_of n = record { id = n.id; name = string_bytes n.display_name; annotations = map annotation_of n.annotations.items; kind = node_kind n.body }
