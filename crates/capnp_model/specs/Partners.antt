-- Renamed fields: an older field's partner is the newer field of its renamed name, its own name where none is told. An older
-- schema is compared with a newer one in the newer's words: each field by its partner's name.
use Rattle.std.specs.Prelude.{ℕ, Bool, true, not, ◌&&◌, ◌==◌, Some, None, find, List, [], ◌∷◌, map}
use Rattle.std.specs.List.{list_any}
use Rattle.std.specs.Str.{bytes_eq}
use Rattle.capnp_model.specs.Schemas.{Shape, shape, Fields, no_fields, field, Body, void_slot, plain_slot, pointer_slot, group_slot, Schema}

-- A field that a newer schema has by another name: the id of the older node that holds it, its name there, and its newer name.
pub record Renaming : Type 0 where
  pub node : ℕ
  pub older : List ℕ
  pub newer : List ℕ

-- The renaming is of a node's field of this name.
abbrev pub is_of : ℕ → List ℕ → Renaming → Bool
is_of id l r = r.node == id && bytes_eq r.older l

-- The name of the partner of a node's field.
abbrev pub partner_name : List Renaming → ℕ → List ℕ → List ℕ
partner_name rs id l = elim (find (is_of id l) rs) [ None ↦ l | Some r ↦ r.newer ]

-- Two names in nodes are the same.
abbrev pub same_key : (ℕ × List ℕ) → (ℕ × List ℕ) → Bool
same_key a b = b.0 == a.0 && bytes_eq b.1 a.1

-- No two of the names are the same.
abbrev pub are_distinct_names : List (ℕ × List ℕ) → Bool
are_distinct_names [] = true
are_distinct_names (k ∷ ks) = not (list_any (same_key k) ks) && are_distinct_names ks

-- No two renamings of one node have the same older or the same newer name.
abbrev pub are_one_to_one : List Renaming → Bool
are_one_to_one rs = are_distinct_names (map (λ r. (r.node, r.older)) rs) && are_distinct_names (map (λ r. (r.node, r.newer)) rs)

abbrev mutual
  -- A struct or a group by the names of its fields' partners.
  pub renamed_shape : List Renaming → Shape → Shape
  renamed_shape rs (shape id w p u fs) = shape id w p u (renamed_fields rs id fs)

  -- A node's fields by the names of their partners.
  pub renamed_fields : List Renaming → ℕ → Fields → Fields
  renamed_fields rs id no_fields = no_fields
  renamed_fields rs id (field l m b fs) = field (partner_name rs id l) m (renamed_body rs b) (renamed_fields rs id fs)

  -- A field whose group has its partners' names.
  pub renamed_body : List Renaming → Body → Body
  renamed_body rs (void_slot i) = void_slot i
  renamed_body rs (plain_slot p at d) = plain_slot p at d
  renamed_body rs (pointer_slot i ty d) = pointer_slot i ty d
  renamed_body rs (group_slot g) = group_slot (renamed_shape rs g)

-- A field whose group has its partners' names, and itself where nothing is renamed.
abbrev pub in_newer_words : List Renaming → Shape → Shape
in_newer_words [] g = g
in_newer_words (r ∷ rs) g = renamed_shape (r ∷ rs) g

-- An older schema in the newer's words.
abbrev pub renamed : List Renaming → Schema → Schema
renamed rs o = record { is_group = o.is_group; shape_of = λ id. in_newer_words rs (o.shape_of id); names_of = o.names_of }

-- In the newer's words a field and its partner have one name.
abbrev pub is_partner : List ℕ → List ℕ → Bool
is_partner l l' = bytes_eq l l'
