-- How deep groups are nested.
use Rattle.std.proofs.Common.{◌≡◌, ℕ, zero, suc, ◌<◌, ◌≤◌, max, Option, Some, None, ap, arith}
use Rattle.std.specs.Prelude.{option_map}
use Rattle.capnp_model.specs.Schemas.{Shape, shape, Fields, no_fields, field, Body, void_slot, plain_slot, pointer_slot, group_slot}
use Rattle.capnp_model.specs.Printing.{fields_in}
use Rattle.capnp_values_queries.specs.Fields.{Entry, field_at}

unfoldable mutual
  pub shape_depth : Shape → ℕ
  shape_depth (shape nid w p u fs) = suc (fields_depth fs)

  pub fields_depth : Fields → ℕ
  fields_depth no_fields = 0
  fields_depth (field n m b fs) = max (body_depth b) (fields_depth fs)

  pub body_depth : Body → ℕ
  body_depth (void_slot j) = 0
  body_depth (plain_slot p at d) = 0
  body_depth (pointer_slot i ty d) = 0
  body_depth (group_slot g) = shape_depth g

abbrev pub entry_depth : Option Entry → ℕ
entry_depth None = 0
entry_depth (Some e) = body_depth e.body

pub depth_of_fields : (g : Shape) → fields_depth (fields_in g) < shape_depth g
unfolding shape_depth
depth_of_fields (shape nid w p u fs) = omega arith

pub depth_of_entry : (fs : Fields) (i : ℕ) → entry_depth (field_at fs i) ≤ fields_depth fs
unfolding shape_depth
depth_of_entry no_fields i = omega arith
depth_of_entry (field n m b fs) zero = omega arith
depth_of_entry (field n m b fs) (suc i) = let more = depth_of_entry fs i in omega (arith, more)

pub depth_of_group : (o : Option Entry) (g : Shape) → option_map (λ e. e.body) o ≡ Some (group_slot g) → entry_depth o ≡ shape_depth g
unfolding shape_depth
depth_of_group None g h = absurd (cc h)
depth_of_group (Some e) g h = let is : e.body ≡ group_slot g = cc h in ap body_depth is
