-- Which node records are made of those that a request tells.
use Rattle.std.specs.Prelude.{ℕ, ◌==◌, nat_lt, Bool, true, false, ◌&&◌, ◌||◌, if◌then◌else◌, Option, Some, None, List, [], ◌∷◌, ◌++◌, slice_get, string_bytes}
use Rattle.capnp_model.specs.Schemas.{BaseType, TypeRecord, FieldKind, slot, group, Field, StructNode, NodeKind, struct_node, enum_node, Node}
use Rattle.capnp_records.specs.NodeViews.{type_record_of}
use Rattle.capnp_relay_bindings.specs.declared.plans.Plan.{Plan}
use Rattle.capnp_relay_bindings.specs.declared.plans.Retyped.{Retyped}
use Rattle.capnp_relay_bindings.specs.declared.plans.Retyped.TheVariants as R

-- The values of a type lie behind pointers.
abbrev pub is_pointer_type : TypeRecord → Bool
is_pointer_type t = nat_lt 0 t.list_count || elim t.base [
  | BaseType.Text ↦ true
  | BaseType.Data ↦ true
  | BaseType.Struct id ↦ true
  | BaseType.AnyPointer ↦ true
  | BaseType.Capability ↦ true
  | _ ↦ false
]

abbrev pub names_struct : BaseType → Bool
names_struct (BaseType.Struct id) = true
names_struct _ = false

abbrev pub is_untyped_pointer : BaseType → Bool
is_untyped_pointer BaseType.AnyPointer = true
is_untyped_pointer _ = false

-- A type becomes another where parameters are bound: an untyped pointer any type behind a pointer, and a struct another struct.
abbrev pub may_become : TypeRecord → TypeRecord → Bool
may_become was to = (is_untyped_pointer was.base && is_pointer_type to) || ((was.list_count == to.list_count) && (names_struct was.base && names_struct to.base))

-- What a field is once it became what is planned. A slot stays at its place with its default, and another type than it may have doesn't count.
abbrev pub retyped_kind : FieldKind → Retyped → FieldKind
retyped_kind (slot offset t default) (R.Slot to) = slot offset (if may_become t (type_record_of to) then type_record_of to else t) default
retyped_kind (group id) (R.Group to) = group to
retyped_kind kind _ = kind

abbrev pub retyped_field : Field → Retyped → Field
retyped_field f to = record f { kind = retyped_kind f.kind to }

-- Fields that became what is planned for them in turn; others are as they were.
abbrev pub retyped_fields : List Field → List Retyped → List Field
retyped_fields [] plan = []
retyped_fields (f ∷ fs) [] = f ∷ retyped_fields fs []
retyped_fields (f ∷ fs) (to ∷ plan) = retyped_field f to ∷ retyped_fields fs plan

abbrev pub retyped_node_kind : NodeKind → List Retyped → NodeKind
retyped_node_kind (struct_node s) plan = struct_node (record s { fields = retyped_fields s.fields plan })
retyped_node_kind (enum_node es) plan = enum_node es

-- The node that a plan makes of one that is told: with an id, a name and fields as they are planned.
abbrev pub planned_node : Node → Plan → Node
planned_node n p = record { id = p.id; name = string_bytes p.name; annotations = n.annotations; kind = retyped_node_kind n.kind p.fields.items }

-- Nodes with one that a plan makes of another behind them, if there is this.
abbrev pub with_planned : List Node → Option Node → Plan → List Node
with_planned made None p = made
with_planned made (Some n) p = made ++ (planned_node n p ∷ [])

-- Nodes with those behind them that plans make of nodes that are told; a plan of a node that isn't told makes none.
abbrev pub planned_onto : List Node → List Node → List Plan → List Node
planned_onto told made [] = made
planned_onto told made (p ∷ ps) = planned_onto told (with_planned made (slice_get told p.place) p) ps

-- The nodes that plans make of those that are told.
abbrev pub planned_nodes : List Node → List Plan → List Node
planned_nodes told ps = planned_onto told [] ps
