-- What accepted schemas give of the structs that are reached.
use Rattle.std.proofs.Common.{◌≡◌, ℕ, ◌+◌, ◌*◌, ◌<◌, ◌≤◌, true, List, [], ◌∷◌, Option}
use Rattle.capnp_model.specs.Schemas.{Shape, shape, Fields, no_fields, field, Body, void_slot, plain_slot, pointer_slot, group_slot, Schema}
use Rattle.capnp_model.specs.Accepted.{Area, bit_area, pointer_area, areas_of, areas_of_body, is_apart_from, has_no_overlap, fields_are_apart, body_has_no_overlap}
use Rattle.capnp_model.specs.Steps.{target, target_of}
use Rattle.capnp_model.specs.InKindCalls.{defaults_in_kind, field_defaults_in_kind, body_default_in_kind}
use Rattle.capnp_model.proofs.lemmas.KeptRules.{and_three}
use Rattle.capnp_model.proofs.lemmas.FineShapes.{IsGood, AreGood, IsGoodBody, found}
use Rattle.capnp_model.proofs.lemmas.ListElements.{IsReal}
use Rattle.capnp_model.proofs.ListsInKind.{ReadsStraight}
use Rattle.capnp_model.proofs.lemmas.Tests.{and_left, and_right}

-- ---- what accepted schemas give, for structs that are reached

abbrev mutual
  -- the types of pointers name what is reached
  pub AreReal : (ℕ → Type 0) → Shape → Type 0
  AreReal R (shape nid w p u fs) = FieldsReal R fs

  pub FieldsReal : (ℕ → Type 0) → Fields → Type 0
  FieldsReal R no_fields = Unit {0}
  FieldsReal R (field n m b fs) = BodyReal R b × FieldsReal R fs

  pub BodyReal : (ℕ → Type 0) → Body → Type 0
  BodyReal R (void_slot j) = Unit {0}
  BodyReal R (plain_slot p at d) = Unit {0}
  BodyReal R (pointer_slot i ty d) = IsReal R ty
  BodyReal R (group_slot g) = AreReal R g

-- the areas lie within so many words and pointers
abbrev pub AllInside : ℕ → ℕ → List Area → Type 0
AllInside w p [] = Unit {0}
AllInside w p (bit_area a n ∷ ys) = (a + n ≤ 64 * w) × AllInside w p ys
AllInside w p (pointer_area i ∷ ys) = (i < p) × AllInside w p ys

abbrev pub IsWithin : Shape → Type 0
IsWithin (shape nid w p u fs) = AllInside w p (areas_of (shape nid w p u fs))

pub record IsSound (s : Schema) (R : ℕ → Type 0) (g : Shape) : Type 0 where
  pub good : IsGood s g
  pub apart : has_no_overlap g ≡ true
  pub defaults : defaults_in_kind s g ≡ true
  pub real : AreReal R g

pub record IsSoundBody (s : Schema) (R : ℕ → Type 0) (b : Body) : Type 0 where
  pub good : IsGoodBody s b
  pub apart : body_has_no_overlap b ≡ true
  pub default_kind : body_default_in_kind s b ≡ true
  pub real : BodyReal R b

-- a struct that is reached
pub record IsReached (s : Schema) (R : ℕ → Type 0) (id : ℕ) : Type 0 where
  pub sound : IsSound s R (s.shape_of id)
  pub within : IsWithin (s.shape_of id)
  pub straight : ReadsStraight s id

pub sound_target : (s : Schema) (R : ℕ → Type 0) (u : Option ℕ) (n : List ℕ) (fs : Fields) (member : Option ℕ) (body : Body) → target_of n fs ≡ target member body
    → AreGood s u fs → fields_are_apart fs ≡ true → field_defaults_in_kind s fs ≡ true → FieldsReal R fs → IsSoundBody s R body
unfolding has_no_overlap defaults_in_kind
sound_target s R u n no_fields member body e good apart defaults real = absurd (cc e)
sound_target s R u n (field l m b fs) member body e good apart defaults real =
    let three = and_three (is_apart_from m (areas_of_body b) fs) (body_has_no_overlap b) (fields_are_apart fs) apart in
    found (λ k c. IsSoundBody s R c) n member body l m b fs e
    (record { good = good.3; apart = three.1; default_kind = and_left (body_default_in_kind s b) (field_defaults_in_kind s fs) defaults; real = real.0 })
    (λ k. sound_target s R u n fs member body k good.4 three.2 (and_right (body_default_in_kind s b) (field_defaults_in_kind s fs) defaults) real.1)
