-- What a field shows, by where it lies.
use Rattle.std.proofs.Common.{◌≡◌, ℕ, Option, Some, option_map, Result, Ok, refl, ap, sym, ◌∙◌}
use Rattle.capnp_model.specs.Kinds.{Kind}
use Rattle.capnp_model.specs.Schemas.{width, Ty, void, plain, text, blob, untyped, interface, struct, list, type_of, Value, FieldKind, slot, group, Schema, Body, void_slot, plain_slot, pointer_slot, group_slot}
use Rattle.capnp_model.specs.Accepted.{slot_body, field_body}
use Rattle.capnp_wire.specs.Views.{StructView, pointer_field}
use Rattle.capnp_values_queries.specs.Fields.{Entry}
use Rattle.capnp_values.specs.Sources.{masked_bits}
use Rattle.capnp_values.specs.Shown.{Shown, number_shown, a_number, a_struct, slot_opened, slot_shown, default_said, kind_shown}

-- a field's record says the body that is found at its index
pub body_said : (o : Option Entry) (e : Entry) (b : Body) → o ≡ Some e → option_map (λ x. x.body) o ≡ Some b → e.body ≡ b
body_said o e b is found =
    let both : ◌≡◌ {A = Option Body} (Some e.body) (Some b) = sym (ap (option_map (λ x. x.body)) is) ∙ found in
    cc both

module _ (s : Schema) (v : StructView) where
  -- What a body shows, with the default that is said.
  abbrev pub body_shown : Body → Option Value → Result Shown Kind
  body_shown (void_slot j) d = Ok (a_number void 0)
  body_shown (plain_slot p at n) d = Ok (number_shown s p (masked_bits v at (width p) n))
  body_shown (pointer_slot i ty t) d = slot_opened s ty d (pointer_field v i)
  body_shown (group_slot g) d = Ok (a_struct s g v)

  slot_by_body : (o : ℕ) (ty : Ty) (d : Option Value) → slot_shown s v o ty d ≡ body_shown (slot_body o ty d) d
  slot_by_body o void d = refl
  slot_by_body o (plain p) d = refl
  slot_by_body o text d = refl
  slot_by_body o blob d = refl
  slot_by_body o untyped d = refl
  slot_by_body o interface d = refl
  slot_by_body o (struct id) d = refl
  slot_by_body o (list ty) d = refl

  -- what a field shows is what its body does
  kind_by_body : (k : FieldKind) → kind_shown s v k ≡ body_shown (field_body s.shape_of k) (default_said k)
  kind_by_body (slot o ty d) = slot_by_body o (type_of ty) d
  kind_by_body (group id) = refl

  pub shown_by_body : (k : FieldKind) (b : Body) → field_body s.shape_of k ≡ b → kind_shown s v k ≡ body_shown b (default_said k)
  shown_by_body k b e = kind_by_body k ∙ ap (λ x. body_shown x (default_said k)) e
