-- Groups that a newer version extends, field by field.
use Rattle.std.proofs.Common.{◌≡◌, ℕ, Bool, true, false, ◌||◌, Option, Some, None, List, ◌∷◌, map, string_bytes, refl, sym, ◌∙◌, ap}
use Rattle.capnp_model.specs.Schemas.{id_of_shape, Ty, void, plain, text, blob, untyped, interface, struct, list, Value as ModelValue, Shape, Fields, no_fields, Body, group_slot}
use Rattle.capnp_model.specs.Accepted.{slot_body, no_shape, shape_in, fields_from}
use Rattle.capnp_model.specs.Printing.{fields_in}
use Rattle.capnp_model.specs.Steps.{Target, no_target, target}
use Rattle.capnp_model.specs.Admitted.{At, nowhere, at_body, is_extended, extends_fields, extends_field, into_fields, into_type}
use Rattle.capnp_model.specs.Calls.{name}
use Rattle.capnp_records.specs.NodeViews.{member_of, field_of}
use Rattle.capnp_records.specs.declared.node.FieldRecord.{FieldRecord}
use Rattle.capnp_calls_versions.specs.declared.nodes.Holder.{Holder}
use Rattle.capnp_calls_versions.specs.declared.keeps.Versions.{Versions}
use Rattle.capnp_calls_versions.specs.declared.keeps.Levels.{Levels}
use Rattle.capnp_calls_versions.specs.Holders.{held_nodes, held_schema, shape_by}
use Rattle.capnp_calls_versions.specs.Walks.{AreEnough, kept_shape, older_fields, newer_fields, older_body, kept_body, newer_body}
use Rattle.capnp_calls_versions.specs.Ways.{first_named, first_partner, struct_id_in, older_shape, newer_shape}
use Rattle.capnp_model.specs.Partners.{partner_name, renamed_shape}
use Rattle.capnp_calls_versions.specs.Renamed.{names_in}
use Rattle.capnp_calls_versions.proofs.RenamedHolders.{kept_holder, renamed_holder}
use Rattle.capnp_calls_versions.proofs.NamedFields.{target_named, partner_named}
use Rattle.capnp_calls_versions.proofs.NodesFound.{shape_is}
use Rattle.capnp_calls_versions.proofs.Ways.{into_found, name_into_type}

-- ---- one field

pub slot_not_extended : (m : Option ℕ) (b : Body) (a : ℕ) (t : Ty) (d : Option ModelValue) → extends_field (target m b) (slot_body a t d) ≡ false
unfolding extends_field
slot_not_extended m b a void d = refl
slot_not_extended m b a (plain p) d = refl
slot_not_extended m b a text d = refl
slot_not_extended m b a blob d = refl
slot_not_extended m b a untyped d = refl
slot_not_extended m b a interface d = refl
slot_not_extended m b a (struct i) d = refl
slot_not_extended m b a (list t) d = refl

pub slot_for_group : (m : Option ℕ) (a : ℕ) (t : Ty) (d : Option ModelValue) (g : Shape) → extends_field (target m (slot_body a t d)) (group_slot g) ≡ false
unfolding extends_field
slot_for_group m a void d g = refl
slot_for_group m a (plain p) d g = refl
slot_for_group m a text d g = refl
slot_for_group m a blob d g = refl
slot_for_group m a untyped d g = refl
slot_for_group m a interface d g = refl
slot_for_group m a (struct i) d g = refl
slot_for_group m a (list t) d g = refl

pub group_for_group : (m : Option ℕ) (g h : Shape) → extends_field (target m (group_slot g)) (group_slot h) ≡ is_extended g h
unfolding extends_field
group_for_group m g h = refl

-- ---- fields

found_target : (v : Versions) (levels : Levels) → Option FieldRecord → Target
found_target v levels o = elim o as (λ (x : Option FieldRecord). Target) [ None ↦ no_target | Some f ↦ target (member_of f.discriminant_value) (kept_body v levels f.body) ]

module _ (v : Versions) (levels : Levels) (node : ℕ) (fs : List FieldRecord) (g : FieldRecord) (gs : List FieldRecord) where
  one_more : (o : Option FieldRecord) → first_partner (names_in v.names) node (string_bytes g.name) fs ≡ o
      → extends_fields (older_fields v levels node fs) (newer_fields v levels (g ∷ gs)) ≡ (extends_field (found_target v levels o) (newer_body v levels g.body) || extends_fields (older_fields v levels node fs) (newer_fields v levels gs))
  unfolding extends_fields found_target
  one_more o h =
      ap (λ (t : Target). extends_field t (newer_body v levels g.body) || extends_fields (older_fields v levels node fs) (newer_fields v levels gs)) (partner_named (λ i. kept_shape v levels i) (names_in v.names) node (string_bytes g.name) fs)
      ∙ ap (λ (x : Option FieldRecord). extends_field (found_target v levels x) (newer_body v levels g.body) || extends_fields (older_fields v levels node fs) (newer_fields v levels gs)) h

  pub lacking : first_partner (names_in v.names) node (string_bytes g.name) fs ≡ None → extends_fields (older_fields v levels node fs) (newer_fields v levels (g ∷ gs)) ≡ true
  unfolding extends_field found_target
  lacking h = one_more None h

  pub with_partner : (f : FieldRecord) → first_partner (names_in v.names) node (string_bytes g.name) fs ≡ Some f
      → (b : Bool) → b ≡ extends_field (target (member_of f.discriminant_value) (kept_body v levels f.body)) (newer_body v levels g.body)
      → extends_fields (older_fields v levels node fs) (newer_fields v levels (g ∷ gs)) ≡ (b || extends_fields (older_fields v levels node fs) (newer_fields v levels gs))
  unfolding found_target
  with_partner f h b e = one_more (Some f) h ∙ ap (λ x. x || extends_fields (older_fields v levels node fs) (newer_fields v levels gs)) (sym e)

pub none_left : (fs : Fields) → extends_fields fs no_fields ≡ false
unfolding extends_fields
none_left fs = refl

-- ---- groups

pub nothing_extends : (g : Shape) → is_extended g no_shape ≡ false
unfolding is_extended
nothing_extends g = refl

module _ (v : Versions) (levels below : Levels) (i j : ℕ) (a b : Holder)
    (older : shape_in (held_nodes v.older) levels.older i ≡ shape_by (λ g. shape_in (held_nodes v.older) below.older g) a)
    (newer : shape_in (held_nodes v.newer) levels.newer j ≡ shape_by (λ g. shape_in (held_nodes v.newer) below.newer g) b) where
  pub groups_extended : is_extended (kept_shape v levels i) (newer_shape v levels j) ≡ extends_fields (older_fields v below a.id a.fields.now) (newer_fields v below b.fields.now)
  unfolding is_extended
  groups_extended =
      ap (λ (g : Shape). is_extended g (newer_shape v levels j)) (ap (renamed_shape (names_in v.names)) older ∙ renamed_holder (names_in v.names) (λ g. shape_in (held_nodes v.older) below.older g) a)
      ∙ ap (λ (g : Shape). is_extended (kept_holder (names_in v.names) (λ h. shape_in (held_nodes v.older) below.older h) a) g) newer

  -- a name leads to what it finds in both versions
  pub named : (n : List ℕ) (go : At → Bool) (o p : Option FieldRecord) → first_named n a.fields.now ≡ o → first_named (partner_name (names_in v.names) a.id n) b.fields.now ≡ p
      → into_fields (names_in v.names) (id_of_shape (older_shape v levels i)) n (fields_in (older_shape v levels i)) (fields_in (newer_shape v levels j)) go
      ≡ elim o [ None ↦ false | Some f ↦ elim p as (λ (x : Option FieldRecord). Bool) [ None ↦ go nowhere | Some g ↦ go (at_body (older_body v below f.body) (newer_body v below g.body)) ] ]
  named n go o p h k =
      ap (λ (s : Shape). into_fields (names_in v.names) (id_of_shape s) n (fields_in s) (fields_in (newer_shape v levels j)) go) older
      ∙ ap (λ (s : Shape). into_fields (names_in v.names) a.id n (own_fields a.fields.now) (fields_in s) go) newer
      ∙ into_found (names_in v.names) (held_schema v.older) (held_schema v.newer) a.id n (own_fields a.fields.now) (newer_fields v below b.fields.now) go (older_target o) (newer_target p)
      (target_named (λ g. shape_in (held_nodes v.older) below.older g) n a.fields.now ∙ ap older_target h)
      (target_named (λ g. shape_in (held_nodes v.newer) below.newer g) (partner_name (names_in v.names) a.id n) b.fields.now ∙ ap newer_target k)
      ∙ told o p
    where
      own_fields : List FieldRecord → Fields
      own_fields fs = fields_from (λ g. shape_in (held_nodes v.older) below.older g) (map field_of fs)

      older_target : Option FieldRecord → Target
      older_target x = elim x as (λ (y : Option FieldRecord). Target) [ None ↦ no_target | Some f ↦ target (member_of f.discriminant_value) (older_body v below f.body) ]

      newer_target : Option FieldRecord → Target
      newer_target x = elim x as (λ (y : Option FieldRecord). Target) [ None ↦ no_target | Some f ↦ target (member_of f.discriminant_value) (newer_body v below f.body) ]

      told : (x y : Option FieldRecord)
          → (elim (older_target x) as (λ (z : Target). Bool) [ no_target ↦ false | target m c ↦ elim (newer_target y) as (λ (z : Target). Bool) [ no_target ↦ go nowhere | target m' c' ↦ go (at_body c c') ] ])
          ≡ (elim x as (λ (z : Option FieldRecord). Bool) [ None ↦ false | Some f ↦ elim y as (λ (z : Option FieldRecord). Bool) [ None ↦ go nowhere | Some g ↦ go (at_body (older_body v below f.body) (newer_body v below g.body)) ] ])
      told None y = refl
      told (Some f) None = refl
      told (Some f) (Some g) = refl

-- ---- types

pub into_struct : (v : Versions) (levels : Levels) → AreEnough v levels → (l : List ℕ) (t u : Ty) (i j : ℕ) → struct_id_in t ≡ Some i → struct_id_in u ≡ Some j → (go : At → Bool)
    → into_type (names_in v.names) (held_schema v.older) (held_schema v.newer) (name l) t u go ≡ into_fields (names_in v.names) (id_of_shape (older_shape v levels i)) l (fields_in (older_shape v levels i)) (fields_in (newer_shape v levels j)) go
into_struct v levels e l t u i j h k go =
    name_into_type (names_in v.names) (held_schema v.older) (held_schema v.newer) l t u go
    ∙ ap (λ (x : Option ℕ). elim x as (λ (y : Option ℕ). Bool) [ None ↦ true | Some a ↦ elim (struct_id_in u) as (λ (y : Option ℕ). Bool) [ None ↦ true | Some b ↦ into_fields (names_in v.names) (id_of_shape ((held_schema v.older).shape_of a)) l (fields_in ((held_schema v.older).shape_of a)) (fields_in ((held_schema v.newer).shape_of b)) go ] ]) h
    ∙ ap (λ (x : Option ℕ). elim x as (λ (y : Option ℕ). Bool) [ None ↦ true | Some b ↦ into_fields (names_in v.names) (id_of_shape ((held_schema v.older).shape_of i)) l (fields_in ((held_schema v.older).shape_of i)) (fields_in ((held_schema v.newer).shape_of b)) go ]) k
    ∙ ap (λ (s : Shape). into_fields (names_in v.names) (id_of_shape s) l (fields_in s) (fields_in ((held_schema v.newer).shape_of j)) go) (shape_is (held_nodes v.older) i ∙ ap (λ (n : ℕ). shape_in (held_nodes v.older) n i) (sym e.older))
    ∙ ap (λ (s : Shape). into_fields (names_in v.names) (id_of_shape (older_shape v levels i)) l (fields_in (older_shape v levels i)) (fields_in s) go) (shape_is (held_nodes v.newer) j ∙ ap (λ (n : ℕ). shape_in (held_nodes v.newer) n j) (sym e.newer))
