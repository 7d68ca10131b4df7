-- What a name finds among the fields of a node's record.
use Rattle.std.proofs.Common.{◌≡◌, ℕ, Bool, true, false, if◌then◌else◌, Option, Some, None, List, [], ◌∷◌, map, string_bytes, refl}
use Rattle.std.specs.Str.{bytes_eq}
use Rattle.capnp_model.specs.Schemas.{Shape}
use Rattle.capnp_model.specs.Accepted.{field_body, fields_from}
use Rattle.capnp_model.specs.Partners.{Renaming, partner_name}
use Rattle.capnp_model.specs.Steps.{Target, no_target, target, target_if, target_of}
use Rattle.capnp_records.specs.NodeViews.{member_of, kind_of_field, field_of}
use Rattle.capnp_records.specs.declared.node.FieldRecord.{FieldRecord}
use Rattle.capnp_calls_versions.specs.Walks.{kept_field}
use Rattle.capnp_calls_versions.specs.Ways.{first_named, first_partner}

-- what a name finds among fields
pub target_named : (groups : ℕ → Shape) (n : List ℕ) (fs : List FieldRecord) → target_of n (fields_from groups (map field_of fs))
    ≡ elim (first_named n fs) [ None ↦ no_target | Some f ↦ target (member_of f.discriminant_value) (field_body groups (kind_of_field f.body)) ]
target_named groups n [] = refl
target_named groups n (f ∷ fs) = by (bytes_eq (string_bytes f.name) n) (target_named groups n fs)
  where
    found : Option FieldRecord → Target
    found o = elim o as (λ (x : Option FieldRecord). Target) [ None ↦ no_target | Some f ↦ target (member_of f.discriminant_value) (field_body groups (kind_of_field f.body)) ]

    by : (b : Bool) → target_of n (fields_from groups (map field_of fs)) ≡ found (first_named n fs)
        → target_if b (target (member_of f.discriminant_value) (field_body groups (kind_of_field f.body))) (target_of n (fields_from groups (map field_of fs))) ≡ found (if b then Some f else first_named n fs)
    by true h = refl
    by false h = h

-- what a partner's name finds among the fields of an older node
pub partner_named : (groups : ℕ → Shape) (rs : List Renaming) (node : ℕ) (n : List ℕ) (fs : List FieldRecord) → target_of n (fields_from groups (map (kept_field rs node) fs))
    ≡ elim (first_partner rs node n fs) [ None ↦ no_target | Some f ↦ target (member_of f.discriminant_value) (field_body groups (kind_of_field f.body)) ]
partner_named groups rs node n [] = refl
partner_named groups rs node n (f ∷ fs) = by (bytes_eq (partner_name rs node (string_bytes f.name)) n) (partner_named groups rs node n fs)
  where
    found : Option FieldRecord → Target
    found o = elim o as (λ (x : Option FieldRecord). Target) [ None ↦ no_target | Some f ↦ target (member_of f.discriminant_value) (field_body groups (kind_of_field f.body)) ]

    by : (b : Bool) → target_of n (fields_from groups (map (kept_field rs node) fs)) ≡ found (first_partner rs node n fs)
        → target_if b (target (member_of f.discriminant_value) (field_body groups (kind_of_field f.body))) (target_of n (fields_from groups (map (kept_field rs node) fs))) ≡ found (if b then Some f else first_partner rs node n fs)
    by true h = refl
    by false h = h
