-- What contracts see of fields.
use Rattle.std.specs.Prelude.{ℕ, ◌≡◌, ◌<◌, Bool, true, ⊤, List, Option, Some, IfSome, option_map, option_copied, length, slice_get, slice_index, ◌*◌}
use Rattle.capnp_model.specs.Schemas.{PlainType, bool, int, uint, «enum», width, Field as FieldNode, Body, void_slot, plain_slot, pointer_slot, group_slot, Node}
use Rattle.capnp_model.specs.Accepted.{is_enum_node, default_tree}
use Rattle.capnp_records.specs.Sets.{is_at}
use Rattle.capnp_records.specs.NodeViews.{value_of}
use Rattle.capnp_values_queries.specs.Types.{ty_of, is_type_of}
use Rattle.capnp_values_queries.specs.Fields.{Entry, field_at, place_of_member, union_member_count, others_at, entry_in, is_named}
use Rattle.capnp_values_queries.specs.Structs.{nodes_around, schema_around, shape_of_struct, fields_of_struct, fields_recorded}
use Rattle.capnp_values_queries.specs.declared.structs.StructSchema.{StructSchema}
use Rattle.capnp_values_queries.specs.declared.fields.Field.{Field}
use Rattle.capnp_values_queries.specs.declared.fields.FieldList.{FieldList}
use Rattle.capnp_values_queries.specs.declared.subsets.FieldSubset.{FieldSubset}
use Rattle.capnp_values_queries.specs.declared.slots.PlainType.{PlainType as Plain}
use Rattle.capnp_values_queries.specs.declared.slots.PlainType.TheVariants as P
use Rattle.capnp_values_queries.specs.declared.slots.FieldPlace.{FieldPlace}
use Rattle.capnp_values_queries.specs.declared.slots.FieldPlace.TheVariants as F

-- The field of a shape that a handle stands for.
abbrev pub entry_of_field : Field → Option Entry
entry_of_field f = field_at (fields_of_struct f.parent) f.index

-- What the node says of the field of an index.
pub record IsFieldRecord (s : StructSchema) (index : ℕ) (f : FieldNode) : Type 0 where
  pub recorded : slice_get (fields_recorded s) index ≡ Some f
  pub entry : field_at (fields_of_struct s) index ≡ Some (entry_in (schema_around s) f)
  pub named : is_named (nodes_around s) f ≡ true

-- The type of plain values.
abbrev pub plain_of : Plain → PlainType
plain_of P.Bool = bool
plain_of P.Int8 = int 8
plain_of P.Int16 = int 16
plain_of P.Int32 = int 32
plain_of P.Int64 = int 64
plain_of P.UInt8 = uint 8
plain_of P.UInt16 = uint 16
plain_of P.UInt32 = uint 32
plain_of P.UInt64 = uint 64
plain_of (P.Enum raw) = «enum» raw.id

-- What a field is, as the model has it.
abbrev pub body_of_place : FieldPlace → Body
body_of_place (F.Void offset) = void_slot offset
body_of_place (F.Plain ty offset bits) = plain_slot (plain_of ty) (width (plain_of ty) * offset) bits
body_of_place (F.Pointer index ty default) = pointer_slot index (ty_of ty) (default_tree (option_map value_of (option_copied default)))
body_of_place (F.Group g) = group_slot (shape_of_struct g)

-- The plain type is of the set of the nodes, if it is an enum.
abbrev pub is_plain_of : List Node → Plain → Bool
is_plain_of nodes (P.Enum raw) = is_at is_enum_node nodes raw.number raw.id
is_plain_of nodes _ = true

-- What the place names is of the set of the nodes.
abbrev pub IsPlaceIn : List Node → FieldPlace → Type 0
IsPlaceIn nodes (F.Void offset) = ⊤
IsPlaceIn nodes (F.Plain ty offset bits) = is_plain_of nodes ty ≡ true
IsPlaceIn nodes (F.Pointer index ty default) = is_type_of nodes ty ≡ true
IsPlaceIn nodes (F.Group g) = nodes_around g ≡ nodes

-- The field of an index of the struct was found, or `None` where there is no index.
pub record IsFieldAt (s : StructSchema) (place : Option ℕ) (found : Option Field) : Type 0 where
  pub index : option_map (λ f. f.index) found ≡ place
  pub parent : IfSome found (λ f. f.parent ≡ s)

-- The struct's union members, by value.
pub record AreUnionMembers (s : StructSchema) (subset : FieldSubset) : Type 0 where
  pub parent : subset.parent ≡ s
  pub count : length subset.indices.now ≡ union_member_count (fields_of_struct s)
  pub places : (d : ℕ) → d < length subset.indices.now → place_of_member d (fields_of_struct s) ≡ Some (slice_index subset.indices.now d)

-- The struct's other fields, by index.
pub record AreOthers (s : StructSchema) (subset : FieldSubset) : Type 0 where
  pub parent : subset.parent ≡ s
  pub indices : subset.indices.now ≡ others_at 0 (fields_of_struct s)

-- What a clause reads of a field: its struct and its index.
abbrev pub SeenField : Type 0
SeenField = StructSchema × ℕ

abbrev pub seen_field : Field → SeenField
seen_field f = (f.parent, f.index)

-- The field at an index of a list.
abbrev pub listed_at : FieldList → ℕ → SeenField
listed_at list i = (list.parent, i)

-- The field at an index of some fields.
abbrev pub chosen_at : FieldSubset → ℕ → SeenField
chosen_at subset i = (subset.parent, slice_index subset.indices.now i)
