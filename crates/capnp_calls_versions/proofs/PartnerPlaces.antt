-- Where the first field of an older node stands whose partner has a name.
use Rattle.std.proofs.Common.{◌≡◌, ℕ, Bool, true, false, ◌&&◌, ◌||◌, Option, Some, None, List, map, find, string_bytes, refl, sym, ◌∙◌, ap}
use Rattle.std.specs.Str.{bytes_eq}
use Rattle.capnp_model.specs.Partners.{Renaming, partner_name, are_one_to_one}
use Rattle.capnp_records.specs.NodeViews.{field_of}
use Rattle.capnp_records.specs.declared.node.FieldRecord.{FieldRecord}
use Rattle.capnp_values_queries.specs.Names.{place_named}
use Rattle.capnp_calls_versions.specs.Renamings.{is_to}
use Rattle.capnp_calls_versions.specs.Ways.{earlier}
use Rattle.capnp_calls_versions.proofs.PartnerNames.{is_told, older_of, has_partner}
use Rattle.capnp_calls_versions.proofs.FirstPlaces.{place_where, same_places, no_place, name_place, either_place}

-- a renaming gives the name to the field
abbrev pub is_renamed_to : List Renaming → ℕ → List ℕ → FieldRecord → Bool
is_renamed_to rs node n f = is_told (older_of (find (is_to node n) rs)) (string_bytes f.name)

-- the field has the name, and no renaming gives it another
abbrev pub keeps_name : List Renaming → ℕ → List ℕ → FieldRecord → Bool
keeps_name rs node n f = bytes_eq (partner_name rs node n) n && bytes_eq (string_bytes f.name) n

-- the field's partner has the name
abbrev pub is_partner_to : List Renaming → ℕ → List ℕ → FieldRecord → Bool
is_partner_to rs node n f = bytes_eq (partner_name rs node (string_bytes f.name)) n

module _ (rs : List Renaming) (node : ℕ) (n : List ℕ) (fs : List FieldRecord) where
  pub none_renamed : None ≡ older_of (find (is_to node n) rs) → None ≡ place_where (is_renamed_to rs node n) 0 fs
  none_renamed h = sym (no_place (is_renamed_to rs node n) 0 fs (λ f. ap (λ (o : Option (List ℕ)). is_told o (string_bytes f.name)) (sym h)))

  pub one_renamed : (m : List ℕ) → Some m ≡ older_of (find (is_to node n) rs) → place_named m 0 (map field_of fs) ≡ place_where (is_renamed_to rs node n) 0 fs
  one_renamed m h = name_place m 0 fs ∙ same_places (λ f. bytes_eq (string_bytes f.name) m) (is_renamed_to rs node n) 0 fs (λ f. ap (λ (o : Option (List ℕ)). is_told o (string_bytes f.name)) h)

  pub one_kept : bytes_eq (partner_name rs node n) n ≡ true → place_named n 0 (map field_of fs) ≡ place_where (keeps_name rs node n) 0 fs
  one_kept h = name_place n 0 fs ∙ same_places (λ f. bytes_eq (string_bytes f.name) n) (keeps_name rs node n) 0 fs (λ f. ap (λ (b : Bool). b && bytes_eq (string_bytes f.name) n) (sym h))

  pub none_kept : bytes_eq (partner_name rs node n) n ≡ false → None ≡ place_where (keeps_name rs node n) 0 fs
  none_kept h = sym (no_place (keeps_name rs node n) 0 fs (λ f. ap (λ (b : Bool). b && bytes_eq (string_bytes f.name) n) h))

  pub partner_place : are_one_to_one rs ≡ true → (place renamed kept : Option ℕ) → place ≡ earlier renamed kept → renamed ≡ place_where (is_renamed_to rs node n) 0 fs → kept ≡ place_where (keeps_name rs node n) 0 fs
      → place ≡ place_where (is_partner_to rs node n) 0 fs
  partner_place apart place renamed kept first one other =
      first ∙ ap (λ (o : Option ℕ). earlier o kept) one ∙ ap (λ (o : Option ℕ). earlier (place_where (is_renamed_to rs node n) 0 fs) o) other
      ∙ sym (either_place (is_renamed_to rs node n) (keeps_name rs node n) 0 fs)
      ∙ sym (same_places (is_partner_to rs node n) (λ f. is_renamed_to rs node n f || keeps_name rs node n f) 0 fs (λ f. has_partner rs apart node n (string_bytes f.name) (find (is_to node n) rs) refl))
