-- How deep the groups of a schema are nested: no deeper than there are nodes.
use Rattle.std.proofs.Common.{◌≡◌, ℕ, zero, suc, ◌+◌, ◌-◌, ◌*◌, ◌<◌, ◌≤◌, max, Option, Some, None, List, [], ◌∷◌, length, refl, ap, subst, arith}
use Rattle.std.specs.Prelude.{option_map}
use Rattle.capnp_model.specs.Schemas.{Ty, void, plain, text, blob, untyped, interface, struct, list, type_of, Value, FieldKind, slot, group, Field, Node, NodeKind, struct_node, enum_node, Shape, shape, Fields, no_fields, field, Body, void_slot, plain_slot, pointer_slot, group_slot}
use Rattle.capnp_model.specs.Accepted.{find_node, slot_body, field_body, fields_from, shape_of_node, shape_in, schema_of}
use Rattle.capnp_model.specs.Printing.{fields_in}
use Rattle.capnp_values_queries.specs.Fields.{Entry, field_at}
use Rattle.capnp_values_queries.specs.Structs.{nodes_around, shape_of_struct}
use Rattle.capnp_values_queries.specs.declared.structs.StructSchema.{StructSchema}

-- the groups in one another below a shape, fields, a field
unfoldable mutual
  pub shape_depth : Shape → ℕ
  shape_depth (shape nid w p u fs) = suc (fields_depth fs)

  pub fields_depth : Fields → ℕ
  fields_depth no_fields = 0
  fields_depth (field n m b fs) = max (body_depth b) (fields_depth fs)

  pub body_depth : Body → ℕ
  body_depth (void_slot j) = 0
  body_depth (plain_slot p at d) = 0
  body_depth (pointer_slot i ty d) = 0
  body_depth (group_slot g) = shape_depth g

slot_shallow : (offset : ℕ) (ty : Ty) (d : Option Value) → body_depth (slot_body offset ty d) ≡ 0
unfolding shape_depth
slot_shallow offset void d = refl
slot_shallow offset (plain p) d = refl
slot_shallow offset text d = refl
slot_shallow offset blob d = refl
slot_shallow offset untyped d = refl
slot_shallow offset interface d = refl
slot_shallow offset (struct id) d = refl
slot_shallow offset (list ty) d = refl

module _ (groups : ℕ → Shape) (n : ℕ) (h : (id : ℕ) → shape_depth (groups id) ≤ n) where
  body_shallow : (kind : FieldKind) → body_depth (field_body groups kind) ≤ n
  unfolding shape_depth
  body_shallow (slot offset ty d) = let none = slot_shallow offset (type_of ty) d in omega (arith, none)
  body_shallow (group id) = h id

  fields_shallow : (fs : List Field) → fields_depth (fields_from groups fs) ≤ n
  unfolding shape_depth
  fields_shallow [] = omega arith
  fields_shallow (f ∷ fs) = let one = body_shallow f.kind in let rest = fields_shallow fs in omega (arith, one, rest)

  node_shallow : (o : Option Node) → shape_depth (shape_of_node groups o) ≤ n + 1
  unfolding shape_depth
  node_shallow None = omega arith
  node_shallow (Some x) = by x.kind refl
    where
      by : (kind : NodeKind) → x.kind ≡ kind → shape_depth (shape_of_node groups (Some x)) ≤ n + 1
      by (struct_node s) e = let all = fields_shallow s.fields in rw e (omega (arith, all))
      by (enum_node es) e = rw e (omega arith)

shapes_shallow : (nodes : List Node) (levels id : ℕ) → shape_depth (shape_in nodes levels id) ≤ levels + 1
unfolding shape_in shape_depth
shapes_shallow nodes zero id = omega arith
shapes_shallow nodes (suc levels) id = let all = node_shallow (λ g. shape_in nodes levels g) (levels + 1) (λ g. shapes_shallow nodes levels g) (find_node nodes id) in omega (arith, all)

pub struct_shallow : (nodes : List Node) (s : StructSchema) → nodes_around s ≡ nodes → shape_depth (shape_of_struct s) ≤ length nodes + 1
unfolding schema_of
struct_shallow nodes s e = let all = shapes_shallow (nodes_around s) (length (nodes_around s)) s.raw.id in subst (λ ns. shape_depth (shape_of_struct s) ≤ length ns + 1) e all

-- ---- what is in a group is less deep

abbrev pub entry_depth : Option Entry → ℕ
entry_depth None = 0
entry_depth (Some e) = body_depth e.body

pub depth_of_fields : (g : Shape) → fields_depth (fields_in g) < shape_depth g
unfolding shape_depth
depth_of_fields (shape nid w p u fs) = omega arith

pub depth_of_entry : (fs : Fields) (i : ℕ) → entry_depth (field_at fs i) ≤ fields_depth fs
unfolding shape_depth
depth_of_entry no_fields i = omega arith
depth_of_entry (field n m b fs) zero = omega arith
depth_of_entry (field n m b fs) (suc i) = let more = depth_of_entry fs i in omega (arith, more)

pub depth_of_body : (o : Option Entry) (b : Body) → option_map (λ e. e.body) o ≡ Some b → entry_depth o ≡ body_depth b
depth_of_body None b h = absurd (cc h)
depth_of_body (Some e) b h = let is : e.body ≡ b = cc h in ap body_depth is

pub depth_of_group : (g : Shape) → body_depth (group_slot g) ≡ shape_depth g
unfolding shape_depth
depth_of_group g = refl

-- a level less leaves room for the groups of any struct
pub deeper : (n levels depth : ℕ) → (levels ≡ 0 → ⊥) → depth ≤ n + 1 → (3 * n + 10) * (levels - 1) + 3 * depth + 4 < (3 * n + 10) * levels + 1
deeper n levels depth some le =
    let m = levels - 1 in
    let more : m + 1 ≡ levels = omega (arith, some) in
    let less : (3 * n + 10) * m + 3 * depth + 4 < (3 * n + 10) * (m + 1) + 1 = omega (arith, le) in
    subst (λ z. (3 * n + 10) * m + 3 * depth + 4 < (3 * n + 10) * z + 1) more less
