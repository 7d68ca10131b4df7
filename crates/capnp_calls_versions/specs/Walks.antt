-- What a step of the walk over pairs of structs says.
use Rattle.std.specs.Prelude.{ℕ, ◌≡◌, Bool, true, false, not, ◌&&◌, nat_le, Option, Some, None, List, [], ◌∷◌, map, length, string_bytes}
use Rattle.std.specs.List.{list_all}
use Rattle.std.specs.Str.{bytes_eq}
use Rattle.capnp_model.specs.Schemas.{Field, Shape, Fields, field, Body, Schema}
use Rattle.capnp_model.specs.Partners.{Renaming, partner_name, renamed_shape, renamed}
use Rattle.capnp_model.specs.Accepted.{shape_in, field_body, fields_from}
use Rattle.capnp_model.specs.Compatible.{Pairs, has_pair, keeps_union, keeps, keeps_fields}
use Rattle.capnp_records.specs.NodeViews.{field_of, member_of, kind_of_field}
use Rattle.capnp_records.specs.declared.node.FieldRecord.{FieldRecord}
use Rattle.capnp_records.specs.declared.node.FieldBody.{FieldBody}
use Rattle.capnp_calls_versions.specs.declared.reached.Reached.{Reached}
use Rattle.capnp_calls_versions.specs.declared.nodes.Holder.{Holder}
use Rattle.capnp_calls_versions.specs.declared.keeps.Versions.{Versions}
use Rattle.capnp_calls_versions.specs.declared.keeps.Levels.{Levels}
use Rattle.capnp_calls_versions.specs.Holders.{held_nodes, held_schema}
use Rattle.capnp_calls_versions.specs.Renamed.{names_in}
use Rattle.capnp_calls_versions.specs.Pairs.{has_each, pairs_of, IsSound, IsFront}

-- The older schema in the newer's words.
abbrev pub older_schema : Versions → Schema
older_schema v = renamed (names_in v.names) (held_schema v.older)

-- What is reached is sound for the versions.
abbrev pub IsSoundFor : Versions → Reached → Type 0
IsSoundFor v r = IsSound (older_schema v) (held_schema v.newer) r

-- The test holds exactly over those pairs that have all that are reached now, as far as they had
-- all that were reached before.
pub record Decides (v : Versions) (old new : Reached) (ok : Bool) (test : Pairs → Bool) : Type 0 where
  pub sound : IsSoundFor v new
  pub grows : IsFront (pairs_of old) (pairs_of new)
  pub tested : (pairs : Pairs) → (has_each pairs (pairs_of old) && test pairs) ≡ (ok && has_each pairs (pairs_of new))

-- The shape of an older id in the newer's words, with n levels of groups.
abbrev pub kept_shape : Versions → Levels → ℕ → Shape
kept_shape v levels i = renamed_shape (names_in v.names) (shape_in (held_nodes v.older) levels.older i)

-- The newer struct or group of an id keeps the older, each with n levels of groups.
abbrev pub keeps_at : Versions → Levels → ℕ → ℕ → Pairs → Bool
keeps_at v levels i j pairs = keeps (older_schema v) (held_schema v.newer) pairs (kept_shape v levels i) (shape_in (held_nodes v.newer) levels.newer j)

-- A field of an older node by its partner's name.
abbrev pub kept_field : List Renaming → ℕ → FieldRecord → Field
kept_field rs node f =
    let g = field_of f in record { name = partner_name rs node g.name; member = g.member; annotations = g.annotations; kind = g.kind }

-- Fields of an older node in the newer's words.
abbrev pub older_fields : Versions → Levels → ℕ → List FieldRecord → Fields
older_fields v levels node fs = fields_from (λ g. kept_shape v levels g) (map (kept_field (names_in v.names) node) fs)

-- Fields of the newer version.
abbrev pub newer_fields : Versions → Levels → List FieldRecord → Fields
newer_fields v levels fs = fields_from (λ g. shape_in (held_nodes v.newer) levels.newer g) (map field_of fs)

-- What a field of the older version is.
abbrev pub older_body : Versions → Levels → FieldBody → Body
older_body v levels b = field_body (λ g. shape_in (held_nodes v.older) levels.older g) (kind_of_field b)

-- What a field of the older version is in the newer's words.
abbrev pub kept_body : Versions → Levels → FieldBody → Body
kept_body v levels b = field_body (λ g. kept_shape v levels g) (kind_of_field b)

-- What a field of the newer version is.
abbrev pub newer_body : Versions → Levels → FieldBody → Body
newer_body v levels b = field_body (λ g. shape_in (held_nodes v.newer) levels.newer g) (kind_of_field b)

-- The partner of the first of a node's fields has the name.
abbrev pub begins_with : List Renaming → ℕ → List FieldRecord → List ℕ → Bool
begins_with rs node [] n = false
begins_with rs node (f ∷ fs) n = bytes_eq (partner_name rs node (string_bytes f.name)) n

-- The newer's sections are at least as large, and the union stays where it is.
abbrev pub has_room : Holder → Holder → Bool
has_room a b = nat_le a.words b.words && nat_le a.pointers b.pointers && keeps_union a.union b.union

-- The older fields of a node that are left, whose union has so many members.
pub record FieldsLeft : Type 0 where
  pub node : ℕ
  pub count : ℕ
  pub fields : List FieldRecord

abbrev pub fields_left : ℕ → ℕ → List FieldRecord → FieldsLeft
fields_left node count fields = record { node = node; count = count; fields = fields }

-- Behind a newer field these older ones are left, where it keeps the first of them or is new.
pub record PassesField (v : Versions) (levels : Levels) (old new : Reached) (left : FieldsLeft) (next : FieldRecord) (o : Option (List FieldRecord)) : Type 0 where
  pub sound : IsSoundFor v new
  pub grows : IsFront (pairs_of old) (pairs_of new)
  pub tested : (pairs : Pairs) (rest : Fields)
      → (has_each pairs (pairs_of old) && keeps_fields (older_schema v) (held_schema v.newer) pairs left.count (older_fields v levels left.node left.fields) (field (string_bytes next.name) (member_of next.discriminant_value) (newer_body v levels next.body) rest))
      ≡ elim o [ None ↦ false | Some others ↦ has_each pairs (pairs_of new) && keeps_fields (older_schema v) (held_schema v.newer) pairs left.count (older_fields v levels left.node others) rest ]

-- Each pair is kept, as far as the structs that it names are among the pairs.
abbrev pub keeps_all : Versions → Levels → Pairs → Pairs → Bool
keeps_all v levels pairs some = list_all (λ p. keeps_at v levels p.0 p.1 pairs) some

-- Some set of pairs has the two roots, and each of its pairs is kept and names only its pairs.
pub record IsKeptFrom (v : Versions) (levels : Levels) (older newer : ℕ) : Type 0 where
  pub pairs : Pairs
  pub has_roots : has_pair pairs older newer ≡ true
  pub are_kept : keeps_all v levels pairs pairs ≡ true

-- n levels as there are nodes.
pub record AreEnough (v : Versions) (levels : Levels) : Type 0 where
  pub older : levels.older ≡ length (held_nodes v.older)
  pub newer : levels.newer ≡ length (held_nodes v.newer)

-- Both hold or neither does.
abbrev pub are_alike : Bool → Bool → Bool
are_alike true b = b
are_alike false b = not b
