-- Shapes in a newer schema's words.
use Rattle.std.proofs.Common.{◌≡◌, ℕ, List, [], ◌∷◌, refl, sym, ◌∙◌, ap}
use Rattle.capnp_model.specs.Schemas.{Shape, shape, Fields, no_fields, field, Body, void_slot, plain_slot, pointer_slot, group_slot}
use Rattle.capnp_model.specs.Partners.{Renaming, renamed_shape, renamed_fields, renamed_body, in_newer_words}

mutual
  same_shape : (g : Shape) → renamed_shape [] g ≡ g
  same_shape (shape id w p u fs) = ap (shape id w p u) (same_fields id fs)

  same_fields : (id : ℕ) (fs : Fields) → renamed_fields [] id fs ≡ fs
  same_fields id no_fields = refl
  same_fields id (field l m b fs) = ap (λ c. field l m c (renamed_fields [] id fs)) (same_body b) ∙ ap (field l m b) (same_fields id fs)

  same_body : (b : Body) → renamed_body [] b ≡ b
  same_body (void_slot i) = refl
  same_body (plain_slot p at d) = refl
  same_body (pointer_slot i ty d) = refl
  same_body (group_slot g) = ap group_slot (same_shape g)

pub newer-words : (rs : List Renaming) (g : Shape) → in_newer_words rs g ≡ renamed_shape rs g
newer-words [] g = sym (same_shape g)
newer-words (r ∷ rs) g = refl
