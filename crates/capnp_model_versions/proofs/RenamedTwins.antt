-- Paths under an older schema and the same paths in a newer one's words: each name finds the same field.
use Rattle.std.proofs.Common.{◌≡◌, ℕ, List, [], ◌∷◌, Option}
use Rattle.capnp_model.specs.Schemas.{Ty, struct, list, Shape, shape, Body, pointer_slot, group_slot, Schema}
use Rattle.capnp_model.specs.Partners.{Renaming, partner_name, renamed_fields, renamed_body}
use Rattle.capnp_model.specs.Calls.{Step, name, index}
use Rattle.capnp_model.specs.Steps.{target, target_of}

module _ (rs : List Renaming) (o : Schema) where
  -- the name and its partner's name find the same field
  abbrev pub NameTwin : (Body → Type 0) → List ℕ → Shape → Type 0
  NameTwin F l (shape nid w p u fs) =
      (m : Option ℕ) × (b : Body) × (target_of l fs ≡ target m b) × (target_of (partner_name rs nid l) (renamed_fields rs nid fs) ≡ target m (renamed_body rs b)) × F b

  -- behind a pointer
  abbrev pub ValueTwin : Step → (Body → Type 0) → (Ty → Type 0) → Ty → Type 0
  ValueTwin (name l) F E (struct i) = NameTwin F l (o.shape_of i)
  ValueTwin (index k) F E (list ty) = E ty
  ValueTwin st F E ty = Unit {0}

  -- through a field
  abbrev pub ThroughTwin : Step → (Body → Type 0) → (Ty → Type 0) → Body → Type 0
  ThroughTwin (name l) F E (group_slot g) = NameTwin F l g
  ThroughTwin st F E (pointer_slot i ty d) = ValueTwin st F E ty
  ThroughTwin st F E b = Unit {0}

  abbrev mutual
    -- along the rest of a path from a field
    pub FieldTwin : List Step → Body → Type 0
    FieldTwin [] b = Unit {0}
    FieldTwin (st ∷ path) b = ThroughTwin st (FieldTwin path) (ElementTwin path) b

    -- along the rest of a path from an element
    pub ElementTwin : List Step → Ty → Type 0
    ElementTwin [] ty = Unit {0}
    ElementTwin (st ∷ path) ty = ValueTwin st (FieldTwin path) (ElementTwin path) ty
