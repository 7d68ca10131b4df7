-- Rules that the nodes of a schema keep. (schema.capnp, "Node" and "Field"; encoding document, "Structs")
use Rattle.std.specs.Prelude.{ℕ, ◌≡◌, ◌+◌, ◌*◌, ◌^◌, ◌<◌, ◌≤◌, ◌⊎◌, ◌==◌, if◌then◌else◌, Bool, true, false, List, [], ◌∷◌, ◌++◌, length, All}
use Rattle.std.specs.List.{range_with_len}
use Rattle.capnp_source_layout.specs.declared.sections.DataSize.TheVariants.{Bit, Byte, TwoBytes, FourBytes, EightBytes}
use Rattle.capnp_source_layout.specs.declared.structs.FieldSize.{FieldSize}
use Rattle.capnp_source_layout.specs.declared.structs.FieldSize.TheVariants as F
use Rattle.capnp_source_layout.specs.Slots.{bits_of}
use Rattle.capnp_source_nodes.specs.declared.nodes.Annotation.{Annotation}
use Rattle.capnp_source_nodes.specs.declared.nodes.Enumerant.{Enumerant}
use Rattle.capnp_source_nodes.specs.declared.nodes.Field.{Field}
use Rattle.capnp_source_nodes.specs.declared.nodes.FieldBody.{FieldBody}
use Rattle.capnp_source_nodes.specs.declared.nodes.FieldBody.TheVariants as B
use Rattle.capnp_source_nodes.specs.declared.nodes.Node.{Node}
use Rattle.capnp_source_nodes.specs.declared.nodes.NodeBody.{NodeBody}
use Rattle.capnp_source_nodes.specs.declared.nodes.NodeBody.TheVariants as N
use Rattle.capnp_source_nodes.specs.declared.nodes.Struct.{Struct}
use Rattle.capnp_source_nodes.specs.declared.types.«Type» as T
use Rattle.capnp_source_nodes.specs.declared.values.Value.{Value}
use Rattle.capnp_source_nodes.specs.declared.values.Value.TheVariants as V

-- The size of a field of a type.
abbrev pub size_of_field : T.«Type» → FieldSize
size_of_field T.Void = F.Void
size_of_field T.Bool = F.Data Bit
size_of_field T.Int8 = F.Data Byte
size_of_field T.UInt8 = F.Data Byte
size_of_field T.Int16 = F.Data TwoBytes
size_of_field T.UInt16 = F.Data TwoBytes
size_of_field (T.Enum' id shape brand) = F.Data TwoBytes
size_of_field T.Int32 = F.Data FourBytes
size_of_field T.UInt32 = F.Data FourBytes
size_of_field T.Float32 = F.Data FourBytes
size_of_field T.Int64 = F.Data EightBytes
size_of_field T.UInt64 = F.Data EightBytes
size_of_field T.Float64 = F.Data EightBytes
size_of_field T.Text = F.Pointer
size_of_field T.Data = F.Pointer
size_of_field (T.List' shape element) = F.Pointer
size_of_field (T.Struct' id shape brand) = F.Pointer
size_of_field (T.Interface' id shape brand) = F.Pointer
size_of_field T.AnyPointer = F.Pointer
size_of_field T.AnyStruct = F.Pointer
size_of_field T.AnyList = F.Pointer
size_of_field T.Capability = F.Pointer
size_of_field (T.Parameter scope index) = F.Pointer
size_of_field (T.MethodParameter index) = F.Pointer

-- Whether a field of a size is a pointer.
abbrev pub is_pointer : FieldSize → Bool
is_pointer F.Pointer = true
is_pointer F.Void = false
is_pointer (F.Data size) = false

-- A field of a size and an offset is in the sections of a struct, with their words and pointers.
abbrev pub FitsIn : ℕ → ℕ → ℕ → FieldSize → Type 0
FitsIn words pointers offset F.Void = Unit {0}
FitsIn words pointers offset (F.Data size) = (offset + 1) * bits_of size ≤ words * 64
FitsIn words pointers offset F.Pointer = offset < pointers

-- The eighth rule, of one field.
abbrev pub HasPlace : ℕ → ℕ → FieldBody → Type 0
HasPlace words pointers (B.Slot offset ty default has_default) = FitsIn words pointers offset (size_of_field ty)
HasPlace words pointers (B.Group id) = Unit {0}

-- The number of a type in the union of schema.capnp's `Type`. The union of `Value` has the same numbers.
abbrev pub type_number : T.«Type» → ℕ
type_number T.Void = 0
type_number T.Bool = 1
type_number T.Int8 = 2
type_number T.Int16 = 3
type_number T.Int32 = 4
type_number T.Int64 = 5
type_number T.UInt8 = 6
type_number T.UInt16 = 7
type_number T.UInt32 = 8
type_number T.UInt64 = 9
type_number T.Float32 = 10
type_number T.Float64 = 11
type_number T.Text = 12
type_number T.Data = 13
type_number (T.List' shape element) = 14
type_number (T.Enum' id shape brand) = 15
type_number (T.Struct' id shape brand) = 16
type_number (T.Interface' id shape brand) = 17
type_number T.AnyPointer = 18
type_number T.AnyStruct = 18
type_number T.AnyList = 18
type_number T.Capability = 18
type_number (T.Parameter scope index) = 18
type_number (T.MethodParameter index) = 18

abbrev pub value_number : Value → ℕ
value_number V.Void = 0
value_number (V.Bool holds) = 1
value_number (V.Int8 x) = 2
value_number (V.Int16 x) = 3
value_number (V.Int32 x) = 4
value_number (V.Int64 x) = 5
value_number (V.UInt8 x) = 6
value_number (V.UInt16 x) = 7
value_number (V.UInt32 x) = 8
value_number (V.UInt64 x) = 9
value_number (V.Float32 bits) = 10
value_number (V.Float64 bits) = 11
value_number (V.Text bytes) = 12
value_number (V.Data bytes) = 13
value_number (V.List object) = 14
value_number (V.Enum x) = 15
value_number (V.Struct object) = 16
value_number V.Interface = 17
value_number (V.AnyPointer object) = 18

-- The tenth rule: a default is of the field's type.
abbrev pub HasDefault : FieldBody → Type 0
HasDefault (B.Slot offset ty default has_default) = type_number ty ≡ value_number default
HasDefault (B.Group id) = Unit {0}

-- A list has fewer than 2 ^ 29 annotations.
abbrev pub AreFew : List Annotation → Type 0
AreFew annotations = length annotations < 2 ^ 29

pub record IsGoodField (words pointers : ℕ) (f : Field) : Type 0 where
  pub place : HasPlace words pointers f.body
  pub default : HasDefault f.body
  pub annotations : AreFew f.annotations.items

-- The number of a member of a union; 65535 is that of a field that is not in the union.
abbrev pub number_of : Field → List ℕ
number_of f = if f.discriminant == 65535 then [] else f.discriminant ∷ []

-- The numbers of the members of a struct's union, in the order of its fields.
abbrev pub member_numbers : List Field → List ℕ
member_numbers [] = []
member_numbers (f ∷ fs) = number_of f ++ member_numbers fs

-- A struct or a group: at most 65535 fields, each in the sections and with a default of its type; members of the union numbered in their order; a discriminant in the data section.
pub record IsGoodStruct (s : Struct) : Type 0 where
  pub few : length s.fields.items ≤ 65535
  pub fields : All (IsGoodField s.data_words s.pointers) s.fields.items
  pub members : member_numbers s.fields.items ≡ range_with_len 0 s.discriminant_count
  pub discriminant : (s.discriminant_count ≡ 0) ⊎ ((s.discriminant_offset + 1) * 16 ≤ s.data_words * 64)

-- An enum: at most 65535 enumerants.
pub record IsGoodEnum (es : List Enumerant) : Type 0 where
  pub few : length es ≤ 65535
  pub annotations : All (λ e. AreFew e.annotations.items) es

abbrev pub IsGoodBody : NodeBody → Type 0
IsGoodBody N.File = Unit {0}
IsGoodBody (N.Struct s) = IsGoodStruct s
IsGoodBody (N.Enum es) = IsGoodEnum es.items
IsGoodBody (N.Interface i) = Unit {0}
IsGoodBody (N.Constant ty value) = type_number ty ≡ value_number value
IsGoodBody (N.Annotation ty targets) = Unit {0}

-- The rules of one node.
pub record KeepsRules (n : Node) : Type 0 where
  pub body : IsGoodBody n.body
  pub annotations : AreFew n.annotations.items
