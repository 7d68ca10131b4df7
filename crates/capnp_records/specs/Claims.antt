-- What the fields of a struct take, field by field.
use Rattle.std.specs.Prelude.{ℕ, ◌≡◌, ◌<◌, ◌-◌, Bool, true, false, ◌&&◌, ◌||◌, is_some, List, [], ◌∷◌, ◌++◌, map}
use Rattle.std.specs.List.{list_all}
use Rattle.capnp_model.specs.Schemas.{Field, StructNode, Node, Shape}
use Rattle.capnp_model.specs.Accepted.{Area, field_body, shape_in, union_place, union_area, are_apart, areas_of, areas_of_body, has_no_overlap, body_has_no_overlap}

-- Whether a field is a union member, and the areas that it takes, by the shapes of groups.
abbrev pub claim_in : (ℕ → Shape) → Field → Bool × List Area
claim_in groups f = (is_some f.member, areas_of_body (field_body groups f.kind))

-- What the discriminant takes and what each field does.
abbrev pub claims_in : (ℕ → Shape) → StructNode → List (Bool × List Area)
claims_in groups s = (false, union_area (union_place s)) ∷ map (claim_in groups) s.fields

-- The areas together.
abbrev pub areas_claimed : List (Bool × List Area) → List Area
areas_claimed [] = []
areas_claimed (c ∷ cs) = c.1 ++ areas_claimed cs

-- Two share only where both are members'.
abbrev pub claims_are_apart : List (Bool × List Area) → Bool
claims_are_apart [] = true
claims_are_apart (c ∷ cs) = list_all (λ d. (c.0 && d.0) || are_apart c.1 d.1) cs && claims_are_apart cs

-- The groups that are fields keep the rule.
abbrev pub groups_have_no_overlap : (ℕ → Shape) → List Field → Bool
groups_have_no_overlap groups fs = list_all (λ f. body_has_no_overlap (field_body groups f.kind)) fs

-- What is written out of an id at n levels is the struct or the group.
pub record IsWrittenOut (nodes : List Node) (levels id : ℕ) (s : StructNode) : Type 0 where
  pub deep : 0 < levels
  pub areas : areas_of (shape_in nodes levels id) ≡ areas_claimed (claims_in (λ g. shape_in nodes (levels - 1) g) s)
  pub apart : has_no_overlap (shape_in nodes levels id) ≡ (claims_are_apart (claims_in (λ g. shape_in nodes (levels - 1) g) s) && groups_have_no_overlap (λ g. shape_in nodes (levels - 1) g) s.fields)

-- Nothing is.
pub record IsUnwritten (nodes : List Node) (levels id : ℕ) : Type 0 where
  pub areas : areas_of (shape_in nodes levels id) ≡ []
  pub apart : has_no_overlap (shape_in nodes levels id) ≡ true
