-- The fields of a shape, one by one. (Encoding, "Structs")
use Rattle.std.specs.Prelude.{ℕ, zero, suc, Bool, true, false, ◌&&◌, ◌==◌, if◌then◌else◌, Option, Some, None, option_map, List, [], ◌∷◌, length, nat_lt, ◌^◌}
use Rattle.std.specs.List.{list_all}
use Rattle.std.specs.Str.{bytes_eq}
use Rattle.capnp_model.specs.Schemas.{Ty, void, plain, struct, Annotation, FieldKind, slot, group, Field, Node, Shape, shape, Fields, no_fields, field, Body, void_slot, plain_slot, pointer_slot, group_slot, Schema}
use Rattle.capnp_model.specs.Accepted.{field_body, is_group_node, names_a, names_its_sort}

-- A field of a shape.
pub record Entry : Type 0 where
  pub name : List ℕ
  -- the value of the discriminant at which the field is its union's active member
  pub member : Option ℕ
  pub body : Body

-- The field of an index.
abbrev pub field_at : Fields → ℕ → Option Entry
field_at no_fields i = None
field_at (field n m b fs) zero = Some (record { name = n; member = m; body = b })
field_at (field n m b fs) (suc i) = field_at fs i

-- How many fields there are.
abbrev pub field_count : Fields → ℕ
field_count no_fields = 0
field_count (field n m b fs) = suc (field_count fs)

-- The index of the first field whose name and member pass a test.
abbrev pub index_of : (List ℕ → Option ℕ → Bool) → Fields → Option ℕ
index_of test no_fields = None
index_of test (field n m b fs) = if test n m then Some 0 else option_map (λ i. suc i) (index_of test fs)

-- The index of the first field of a name.
abbrev pub place_of_name : List ℕ → Fields → Option ℕ
place_of_name name fs = index_of (λ n m. bytes_eq n name) fs

-- The field is the union's member of a value.
abbrev pub is_value : ℕ → Option ℕ → Bool
is_value d m = elim m [ None ↦ false | Some k ↦ k == d ]

-- The index of the union's member of a value.
abbrev pub place_of_member : ℕ → Fields → Option ℕ
place_of_member d fs = index_of (λ n m. is_value d m) fs

-- How many members the union has.
abbrev pub union_member_count : Fields → ℕ
union_member_count no_fields = 0
union_member_count (field n m b fs) = elim m [ None ↦ union_member_count fs | Some k ↦ suc (union_member_count fs) ]

-- The indices of the fields that are no members, from one on.
abbrev pub others_at : ℕ → Fields → List ℕ
others_at i no_fields = []
others_at i (field n m b fs) = elim m [ None ↦ i ∷ others_at (suc i) fs | Some k ↦ others_at (suc i) fs ]

-- The first bit of the discriminant, if there is a union.
abbrev pub union_in : Shape → Option ℕ
union_in (shape id w p u fs) = u

-- The id of a shape's node.
abbrev pub shape_id : Shape → ℕ
shape_id (shape id w p u fs) = id

-- The type of a field; a group's is its struct.
abbrev pub type_of_body : Body → Ty
type_of_body (void_slot j) = void
type_of_body (plain_slot p at d) = plain p
type_of_body (pointer_slot i ty d) = ty
type_of_body (group_slot g) = struct (shape_id g)

-- The field that a node record says.
abbrev pub entry_in : Schema → Field → Entry
entry_in s f = record { name = f.name; member = f.member; body = field_body s.shape_of f.kind }

-- What a field of a node names is there, of its sort.
abbrev pub names_kind : List Node → FieldKind → Bool
names_kind nodes (slot offset ty d) = names_its_sort nodes ty.base
names_kind nodes (group id) = names_a is_group_node nodes id

-- What annotations name is there, of its sort.
abbrev pub are_named : List Node → List Annotation → Bool
are_named nodes as' = list_all (λ a. names_its_sort nodes a.type.base) as'

-- There are less than 2^29 annotations.
abbrev pub are_few : List Annotation → Bool
are_few as' = nat_lt (length as') (2 ^ 29)

-- What a field and its annotations name is there, of its sort, and the annotations are few.
abbrev pub is_named : List Node → Field → Bool
is_named nodes f = names_kind nodes f.kind && (are_named nodes f.annotations && are_few f.annotations)
