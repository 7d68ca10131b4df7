-- What contracts see of the schema of a struct or a group.
use Rattle.std.specs.Prelude.{ℕ, ◌≡◌, ◌≤◌, ◌<◌, nat_lt, slice_index, true, Option, Some, None, option_map, List, [], length, slice_get}
use Rattle.std.specs.List.{list_all}
use Rattle.capnp_model.specs.Schemas.{Annotation, Field as FieldNode, StructNode, Node, Shape, shape, Fields, Schema}
use Rattle.capnp_model.specs.Printing.{fields_in}
use Rattle.capnp_model.specs.Accepted.{find_node, union_place, fields_from, schema_of}
use Rattle.capnp_records.specs.Sets.{nodes_of, struct_found}
use Rattle.capnp_records.specs.declared.tables.FieldTables.{FieldTables}
use Rattle.capnp_values_queries.specs.Fields.{field_count, place_of_name, place_of_member, union_member_count, others_at, is_named}
use Rattle.capnp_values_queries.specs.declared.structs.StructSchema.{StructSchema}

-- The nodes of the struct's set.
abbrev pub nodes_around : StructSchema → List Node
nodes_around s = nodes_of s.set.now

-- The schema that they make.
abbrev pub schema_around : StructSchema → Schema
schema_around s = schema_of (nodes_around s)

-- The id of the struct.
abbrev pub id_of : StructSchema → ℕ
id_of s = s.raw.id

-- The struct's shape.
abbrev pub shape_of_struct : StructSchema → Shape
shape_of_struct s = (schema_around s).shape_of (id_of s)

-- The struct's fields.
abbrev pub fields_of_struct : StructSchema → Fields
fields_of_struct s = fields_in (shape_of_struct s)

-- The fields as the node says them.
abbrev pub fields_recorded : StructSchema → List FieldNode
fields_recorded s = elim (struct_found (nodes_around s) (id_of s)) [ None ↦ [] | Some n ↦ n.fields ]

-- The annotations of the node of an id.
abbrev pub annotations_found : List Node → ℕ → List Annotation
annotations_found nodes id = elim (find_node nodes id) [ None ↦ [] | Some n ↦ n.annotations ]

-- The annotations of the struct as the node says them.
abbrev pub annotations_recorded : StructSchema → List Annotation
annotations_recorded s = annotations_found (nodes_around s) (id_of s)

-- The annotations of the field of an index as the node says them.
abbrev pub field_annotations : StructSchema → ℕ → Option (List Annotation)
field_annotations s i = option_map (λ f. f.annotations) (slice_get (fields_recorded s) i)

-- The index of the first field of a name.
abbrev pub index_named : StructSchema → List ℕ → Option ℕ
index_named s name = place_of_name name (fields_of_struct s)

-- The index of the union's member of a value.
abbrev pub index_of_member : StructSchema → ℕ → Option ℕ
index_of_member s d = place_of_member d (fields_of_struct s)

-- What a node says of the struct or the group of an id, in nodes that are accepted.
pub record IsRecordOf (nodes : List Node) (id : ℕ) (r : StructNode) : Type 0 where
  pub found : struct_found nodes id ≡ Some r
  pub shape : (schema_of nodes).shape_of id ≡ shape id r.words r.pointers (union_place r) (fields_from (schema_of nodes).shape_of r.fields)
  pub few : length r.fields ≤ 65535
  pub named : list_all (is_named nodes) r.fields ≡ true

-- The tables of a struct's fields, by the fields of its shape.
pub record IsTabled (fs : Fields) (t : FieldTables) : Type 0 where
  pub count : length t.members.items ≡ union_member_count fs
  pub members : (d : ℕ) → d < length t.members.items → place_of_member d fs ≡ Some (slice_index t.members.items d)
  pub no_more : (d : ℕ) → length t.members.items ≤ d → place_of_member d fs ≡ None
  pub members_inside : list_all (λ i. nat_lt i (field_count fs)) t.members.items ≡ true
  pub few_members : length t.members.items ≤ 65535
  pub others : t.others.items ≡ others_at 0 fs
  pub others_inside : list_all (λ i. nat_lt i (field_count fs)) t.others.items ≡ true
  pub few_others : length t.others.items ≤ 65535
