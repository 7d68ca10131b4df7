-- A struct's record depends on nothing but the bits and the pointers of its slots and discriminants.
use Rattle.std.proofs.Common.{◌≡◌, ℕ, List, [], ◌∷◌, ◌++◌, Option, Some, None, refl, ◌∙◌, ap}
use lib.Bits.{bit_xor}
use Rattle.capnp_model.specs.Schemas.{Shape, shape, Fields, no_fields, field, Body, void_slot, plain_slot, pointer_slot, group_slot}
use Rattle.capnp_model.specs.Readings.{number, record_as, entry, discriminant, is_active, only_if, shape_record, fields_of, body_of}
use Rattle.capnp_model.specs.Views.{View, SameAll}
use Rattle.capnp_model.specs.Accepted.{Area, union_area, areas_of, areas_of_fields, areas_of_body}

pub SameAll-left : (xs ys : List Area) (v v' : View) → SameAll (xs ++ ys) v v' → SameAll xs v v'
SameAll-left [] ys v v' h = tt
SameAll-left (x ∷ xs) ys v v' h = (h.0, SameAll-left xs ys v v' h.1)

pub SameAll-right : (xs ys : List Area) (v v' : View) → SameAll (xs ++ ys) v v' → SameAll ys v v'
SameAll-right [] ys v v' h = h
SameAll-right (x ∷ xs) ys v v' h = SameAll-right xs ys v v' h.1

pub discriminant-same : (u : Option ℕ) (v v' : View) → SameAll (union_area u) v v' → discriminant u v.size v.section ≡ discriminant u v'.size v'.section
discriminant-same None v v' h = refl
discriminant-same (Some at) v v' h = ap Some h.0

mutual
  unfolding shape_record areas_of

  pub shape_record-same : (g : Shape) (v v' : View) → SameAll (areas_of g) v v' → shape_record g v.size v.section v.kids ≡ shape_record g v'.size v'.section v'.kids
  shape_record-same (shape nid words pointers union fs) v v' h =
      let e = discriminant-same union v v' (SameAll-left (union_area union) (areas_of_fields fs) v v' h) in
      fields_of-same fs _ v v' (SameAll-right (union_area union) (areas_of_fields fs) v v' h) ∙ ap (λ d. fields_of fs d v'.size v'.section v'.kids) e

  pub fields_of-same : (fs : Fields) (d : Option ℕ) (v v' : View) → SameAll (areas_of_fields fs) v v' → fields_of fs d v.size v.section v.kids ≡ fields_of fs d v'.size v'.section v'.kids
  fields_of-same no_fields d v v' h = refl
  fields_of-same (field n member body fs) d v v' h =
      let e = body_of-same body v v' (SameAll-left (areas_of_body body) (areas_of_fields fs) v v' h) in
      let e' = fields_of-same fs d v v' (SameAll-right (areas_of_body body) (areas_of_fields fs) v v' h) in
      ap (λ r. entry n (only_if (is_active member d) r) (fields_of fs d v.size v.section v.kids)) e ∙ ap (λ r. entry n (only_if (is_active member d) (body_of body v'.size v'.section v'.kids)) r) e'

  pub body_of-same : (body : Body) (v v' : View) → SameAll (areas_of_body body) v v' → body_of body v.size v.section v.kids ≡ body_of body v'.size v'.section v'.kids
  body_of-same (void_slot j) v v' h = refl
  body_of-same (plain_slot p at d) v v' h = ap (λ b. number (bit_xor b d)) h.0
  body_of-same (pointer_slot i ty d) v v' h = h.0 ty
  body_of-same (group_slot g) v v' h = ap record_as (shape_record-same g v v' h)
