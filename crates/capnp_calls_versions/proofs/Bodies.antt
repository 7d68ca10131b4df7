-- What the walk over pairs says of types, slots and fields.
use Rattle.std.proofs.Common.{◌≡◌, ◌≢◌, ℕ, suc, ◌+◌, Bool, true, false, not, ◌&&◌, ◌==◌, if◌then◌else◌, cond, Option, Some, None, option_map, List, [], ◌∷◌, map, length, count_by, string_bytes, refl, sym, ◌∙◌, ap, subst, arith}
use Rattle.std.specs.Str.{bytes_eq}
use Rattle.std.proofs.lemmas.Bool.{le-leb}
use Rattle.std.proofs.lemmas.List.Recursion.{is_count_by}
use Rattle.std.specs.Cmp.Derive.{both_true}
use Rattle.capnp_model.specs.Schemas.{base_type, type_of, Shape, shape, Fields, no_fields, field}
use Rattle.capnp_model.specs.Accepted.{is_default_of, no_shape, shape_in, field_body, fields_from}
use Rattle.capnp_model.specs.Compatible.{Pairs, related, same_option, member_count, is_new, keeps, keeps_fields, keeps_body}
use Rattle.capnp_records.specs.NodeViews.{base_of, type_record_of, value_of, member_of, kind_of_field}
use Rattle.capnp_records.specs.declared.node.BaseType.{BaseType}
use Rattle.capnp_records.specs.declared.node.TypeRecord.{TypeRecord}
use Rattle.capnp_records.specs.declared.node.Value.{Value}
use Rattle.capnp_records.specs.declared.node.FieldBody.{FieldBody}
use Rattle.capnp_records.specs.declared.node.FieldBody.TheVariants as B
use Rattle.capnp_records.specs.declared.node.FieldRecord.{FieldRecord}
use Rattle.capnp_model.proofs.lemmas.Tests.{and_false, and_assoc, and_left, and_right, test_is_true, test_is_false, and_comm}
use Rattle.capnp_calls_versions.specs.declared.reached.Reached.{Reached}
use Rattle.capnp_calls_versions.specs.declared.nodes.Holder.{Holder}
use Rattle.capnp_calls_versions.specs.declared.keeps.Versions.{Versions}
use Rattle.capnp_calls_versions.specs.declared.keeps.Levels.{Levels}
use Rattle.capnp_calls_versions.specs.Types.{sort, bits, id_in, keeps_id}
use Rattle.capnp_calls_versions.specs.Defaults.{AllBytes, default_value_bytes, same_value}
use Rattle.capnp_calls_versions.specs.Holders.{held_nodes, held_schema, shape_by, is_sound_kind, are_sound}
use Rattle.capnp_calls_versions.specs.Pairs.{has_each, pairs_of, IsFront}
use Rattle.capnp_calls_versions.specs.Walks.{IsSoundFor, Decides, fields_left, PassesField, older_schema, kept_shape, kept_field, begins_with, has_room, keeps_at, older_fields, newer_fields, kept_body, newer_body}
use Rattle.capnp_model.specs.Partners.{Renaming, partner_name, renamed_shape}
use Rattle.capnp_calls_versions.specs.Renamed.{names_in}
use Rattle.capnp_calls_versions.specs.Breaks.{AreUnrelated}
use Rattle.capnp_calls_versions.proofs.RenamedHolders.{kept_holder, renamed_holder}
use Rattle.capnp_calls_versions.proofs.Relations.{related_by_sort, related_lists}
use Rattle.capnp_calls_versions.proofs.Slots.{slots_kept, slot_no_group, group_no_slot, groups_kept, base_is, type_wide, same_members}
use Rattle.capnp_calls_versions.proofs.Scans.{front_itself, front_of_front, decides_here, decides_same, decides_after}

-- ---- types

abbrev pub bases_test : Versions → BaseType → BaseType → Pairs → Bool
bases_test v a b pairs = related (older_schema v) (held_schema v.newer) pairs (base_type (base_of a)) (base_type (base_of b))

abbrev pub types_test : Versions → TypeRecord → TypeRecord → Pairs → Bool
types_test v a b pairs = related (older_schema v) (held_schema v.newer) pairs (type_of (type_record_of a)) (type_of (type_record_of b))

abbrev pub one_sort : BaseType → BaseType → Bool
one_sort a b = sort (base_type (base_of a)) == sort (base_type (base_of b)) && bits (base_type (base_of a)) == bits (base_type (base_of b))

by_sort : (v : Versions) (a b : BaseType) (pairs : Pairs) → bases_test v a b pairs ≡ (one_sort a b && keeps_id (older_schema v) (held_schema v.newer) pairs (base_type (base_of a)) (id_in (base_type (base_of b))))
by_sort v a b pairs = related_by_sort (older_schema v) (held_schema v.newer) pairs (base_type (base_of a)) (base_type (base_of b)) (base_is a) (base_is b)

pub other_sorts : (v : Versions) (r : Reached) (a b : BaseType) → one_sort a b ≡ false → IsSoundFor v r → Decides v r r false (bases_test v a b)
other_sorts v r a b h s = decides_here v r false (bases_test v a b) s (λ pairs. by_sort v a b pairs ∙ ap (λ x. x && keeps_id (older_schema v) (held_schema v.newer) pairs (base_type (base_of a)) (id_in (base_type (base_of b)))) h)

pub same_sorts : (v : Versions) (old new : Reached) (ok : Bool) (a b : BaseType) → one_sort a b ≡ true → Decides v old new ok (λ pairs. keeps_id (older_schema v) (held_schema v.newer) pairs (base_type (base_of a)) (id_in (base_type (base_of b)))) → Decides v old new ok (bases_test v a b)
same_sorts v old new ok a b h d = decides_same v old new ok _ (bases_test v a b) d (λ pairs. by_sort v a b pairs ∙ ap (λ x. x && keeps_id (older_schema v) (held_schema v.newer) pairs (base_type (base_of a)) (id_in (base_type (base_of b)))) h)

by_count : (v : Versions) (a b : TypeRecord) (pairs : Pairs) → types_test v a b pairs ≡ (a.list_count == b.list_count && bases_test v a.base b.base pairs)
by_count v a b pairs = related_lists (older_schema v) (held_schema v.newer) pairs a.list_count b.list_count (base_type (base_of a.base)) (base_type (base_of b.base)) (base_is a.base) (base_is b.base)

pub other_counts : (v : Versions) (r : Reached) (a b : TypeRecord) → a.list_count ≢ b.list_count → IsSoundFor v r → Decides v r r false (types_test v a b)
other_counts v r a b h s = decides_here v r false (types_test v a b) s (λ pairs. by_count v a b pairs ∙ ap (λ x. x && bases_test v a.base b.base pairs) (test_is_false a.list_count b.list_count h))

pub same_counts : (v : Versions) (old new : Reached) (ok : Bool) (a b : TypeRecord) → a.list_count ≡ b.list_count → Decides v old new ok (bases_test v a.base b.base) → Decides v old new ok (types_test v a b)
same_counts v old new ok a b h d = decides_same v old new ok (bases_test v a.base b.base) (types_test v a b) d (λ pairs. by_count v a b pairs ∙ ap (λ x. x && bases_test v a.base b.base pairs) (test_is_true a.list_count b.list_count h))

pub never_sorts : (v : Versions) (a b : BaseType) → one_sort a b ≡ false → AreUnrelated (older_schema v) (held_schema v.newer) (base_type (base_of a)) (base_type (base_of b))
never_sorts v a b h = λ pairs. by_sort v a b pairs ∙ ap (λ x. x && keeps_id (older_schema v) (held_schema v.newer) pairs (base_type (base_of a)) (id_in (base_type (base_of b)))) h

pub never_counts : (v : Versions) (a b : TypeRecord) → a.list_count ≢ b.list_count → AreUnrelated (older_schema v) (held_schema v.newer) (type_of (type_record_of a)) (type_of (type_record_of b))
never_counts v a b h = λ pairs. by_count v a b pairs ∙ ap (λ x. x && bases_test v a.base b.base pairs) (test_is_false a.list_count b.list_count h)

pub never_bases : (v : Versions) (a b : TypeRecord) → AreUnrelated (older_schema v) (held_schema v.newer) (base_type (base_of a.base)) (base_type (base_of b.base)) → AreUnrelated (older_schema v) (held_schema v.newer) (type_of (type_record_of a)) (type_of (type_record_of b))
never_bases v a b h = λ pairs. by_count v a b pairs ∙ ap (λ x. a.list_count == b.list_count && x) (h pairs) ∙ and_false (a.list_count == b.list_count)

-- ---- slots and groups

abbrev pub bodies_test : Versions → Levels → FieldBody → FieldBody → Pairs → Bool
bodies_test v levels a b pairs = keeps_body (older_schema v) (held_schema v.newer) pairs (kept_body v levels a) (newer_body v levels b)

module _ (v : Versions) (levels : Levels) (a b : ℕ) (t u : TypeRecord) (d e : Option Value)
    (sound : is_sound_kind (kind_of_field (B.Slot a t d)) ≡ true) (other : is_sound_kind (kind_of_field (B.Slot b u e)) ≡ true)
    (x : AllBytes (default_value_bytes (option_map value_of d))) (y : AllBytes (default_value_bytes (option_map value_of e))) where
  slots : (pairs : Pairs) → bodies_test v levels (B.Slot a t d) (B.Slot b u e) pairs ≡ ((a == b && same_value (option_map value_of d) (option_map value_of e)) && types_test v t u pairs)
  slots pairs =
      slots_kept (older_schema v) (held_schema v.newer) pairs a b (type_of (type_record_of t)) (type_of (type_record_of u)) (option_map value_of d) (option_map value_of e) (type_wide t)
      (and_left (is_default_of (type_of (type_record_of t)) (option_map value_of d)) _ sound)
      (and_left (is_default_of (type_of (type_record_of u)) (option_map value_of e)) _ other)
      (and_right (is_default_of (type_of (type_record_of t)) (option_map value_of d)) _ sound)
      (and_right (is_default_of (type_of (type_record_of u)) (option_map value_of e)) _ other)
      x y

  pub other_values : (old new : Reached) → same_value (option_map value_of d) (option_map value_of e) ≡ false → Decides v old new true (types_test v t u) → Decides v old new false (bodies_test v levels (B.Slot a t d) (B.Slot b u e))
  other_values old new h w = decides_after v old new true _ _ w (λ pairs. slots pairs ∙ ap (λ z. (a == b && z) && types_test v t u pairs) h ∙ ap (λ z. z && types_test v t u pairs) (and_false (a == b)))

  pub other_places : (old new : Reached) → a ≢ b → Decides v old new true (types_test v t u) → Decides v old new false (bodies_test v levels (B.Slot a t d) (B.Slot b u e))
  other_places old new h w = decides_after v old new true _ _ w (λ pairs. slots pairs ∙ ap (λ z. (z && same_value (option_map value_of d) (option_map value_of e)) && types_test v t u pairs) (test_is_false a b h))

  pub other_types : (old new : Reached) → AreUnrelated (older_schema v) (held_schema v.newer) (type_of (type_record_of t)) (type_of (type_record_of u)) → Decides v old new false (types_test v t u) → Decides v old new false (bodies_test v levels (B.Slot a t d) (B.Slot b u e))
  other_types old new h w = decides_after v old new false _ _ w (λ pairs. slots pairs ∙ ap (λ z. (a == b && same_value (option_map value_of d) (option_map value_of e)) && z) (h pairs) ∙ and_false (a == b && same_value (option_map value_of d) (option_map value_of e)))

  pub same_slots : (old new : Reached) (ok : Bool) → same_value (option_map value_of d) (option_map value_of e) ≡ true → a ≡ b → Decides v old new ok (types_test v t u) → Decides v old new ok (bodies_test v levels (B.Slot a t d) (B.Slot b u e))
  same_slots old new ok h k w = decides_same v old new ok (types_test v t u) _ w (λ pairs. slots pairs ∙ ap (λ z. (a == b && z) && types_test v t u pairs) h ∙ ap (λ z. (z && true) && types_test v t u pairs) (test_is_true a b k))

pub slot_and_group : (v : Versions) (levels : Levels) (r : Reached) (a g : ℕ) (t : TypeRecord) (d : Option Value) → IsSoundFor v r → Decides v r r false (bodies_test v levels (B.Slot a t d) (B.Group g))
slot_and_group v levels r a g t d s = decides_here v r false _ s (λ pairs. group_no_slot (older_schema v) (held_schema v.newer) pairs (shape_in (held_nodes v.newer) levels.newer g) a (type_of (type_record_of t)) (option_map value_of d))

pub group_and_slot : (v : Versions) (levels : Levels) (r : Reached) (g b : ℕ) (u : TypeRecord) (e : Option Value) → IsSoundFor v r → Decides v r r false (bodies_test v levels (B.Group g) (B.Slot b u e))
group_and_slot v levels r g b u e s = decides_here v r false _ s (λ pairs. slot_no_group (older_schema v) (held_schema v.newer) pairs (kept_shape v levels g) b (type_of (type_record_of u)) (option_map value_of e))

pub two_groups : (v : Versions) (levels : Levels) (old new : Reached) (ok : Bool) (g h : ℕ) → Decides v old new ok (keeps_at v levels g h) → Decides v old new ok (bodies_test v levels (B.Group g) (B.Group h))
two_groups v levels old new ok g h d = decides_same v old new ok (keeps_at v levels g h) _ d (λ pairs. groups_kept (older_schema v) (held_schema v.newer) pairs (kept_shape v levels g) (shape_in (held_nodes v.newer) levels.newer h))

-- ---- fields

abbrev pub fields_test : Versions → Levels → FieldRecord → FieldRecord → Pairs → Bool
fields_test v levels f g pairs = same_option (member_of f.discriminant_value) (member_of g.discriminant_value) && bodies_test v levels f.body g.body pairs

pub other_members : (v : Versions) (levels : Levels) (r : Reached) (f g : FieldRecord) → f.discriminant_value ≢ g.discriminant_value → IsSoundFor v r → Decides v r r false (fields_test v levels f g)
other_members v levels r f g h s = decides_here v r false _ s (λ pairs. ap (λ z. z && bodies_test v levels f.body g.body pairs) (same_members f.discriminant_value g.discriminant_value ∙ test_is_false f.discriminant_value g.discriminant_value h))

pub kept_members : (v : Versions) (levels : Levels) (old new : Reached) (ok : Bool) (f g : FieldRecord) → f.discriminant_value ≡ g.discriminant_value → Decides v old new ok (bodies_test v levels f.body g.body) → Decides v old new ok (fields_test v levels f g)
kept_members v levels old new ok f g h d = decides_same v old new ok (bodies_test v levels f.body g.body) _ d (λ pairs. ap (λ z. z && bodies_test v levels f.body g.body pairs) (same_members f.discriminant_value g.discriminant_value ∙ test_is_true f.discriminant_value g.discriminant_value h))

abbrev pub rest_test : Versions → Levels → ℕ → ℕ → List FieldRecord → Fields → Pairs → Bool
rest_test v levels node count left rest pairs = keeps_fields (older_schema v) (held_schema v.newer) pairs count (older_fields v levels node left) rest

abbrev pub next_field : Versions → Levels → FieldRecord → Fields → Fields
next_field v levels g rest = field (string_bytes g.name) (member_of g.discriminant_value) (newer_body v levels g.body) rest

-- a newer field without a partner here
alone : (v : Versions) (levels : Levels) (node count : ℕ) (left : List FieldRecord) (g : FieldRecord) (rest : Fields) (pairs : Pairs) → begins_with (names_in v.names) node left (string_bytes g.name) ≡ false
    → rest_test v levels node count left (next_field v levels g rest) pairs ≡ (is_new count (member_of g.discriminant_value) && rest_test v levels node count left rest pairs)
unfolding keeps_fields
alone v levels node count [] g rest pairs h = refl
alone v levels node count (f ∷ fs) g rest pairs h = ap (λ (b : Bool). elim b as (λ (x : Bool). Bool) [
  | true ↦ fields_test v levels f g pairs && rest_test v levels node count fs rest pairs
  | false ↦ is_new count (member_of g.discriminant_value) && rest_test v levels node count (f ∷ fs) rest pairs
]) h

-- a newer field with its partner
together : (v : Versions) (levels : Levels) (node count : ℕ) (f : FieldRecord) (fs : List FieldRecord) (g : FieldRecord) (rest : Fields) (pairs : Pairs) → bytes_eq (partner_name (names_in v.names) node (string_bytes f.name)) (string_bytes g.name) ≡ true
    → rest_test v levels node count (f ∷ fs) (next_field v levels g rest) pairs ≡ (fields_test v levels f g pairs && rest_test v levels node count fs rest pairs)
unfolding keeps_fields
together v levels node count f fs g rest pairs h = ap (λ (b : Bool). elim b as (λ (x : Bool). Bool) [
  | true ↦ fields_test v levels f g pairs && rest_test v levels node count fs rest pairs
  | false ↦ is_new count (member_of g.discriminant_value) && rest_test v levels node count (f ∷ fs) rest pairs
]) h

pub moves_past : (v : Versions) (levels : Levels) (r : Reached) (node count : ℕ) (left : List FieldRecord) (g : FieldRecord) → begins_with (names_in v.names) node left (string_bytes g.name) ≡ false → is_new count (member_of g.discriminant_value) ≡ true → IsSoundFor v r → PassesField v levels r r (fields_left node count left) g (Some left)
moves_past v levels r node count left g h k s = record {
  sound = s;
  grows = front_itself (pairs_of r);
  tested = λ pairs rest. ap (λ z. has_each pairs (pairs_of r) && z) (alone v levels node count left g rest pairs h ∙ ap (λ z. z && rest_test v levels node count left rest pairs) k);
}

pub moves_nowhere : (v : Versions) (levels : Levels) (r : Reached) (node count : ℕ) (left : List FieldRecord) (g : FieldRecord) → begins_with (names_in v.names) node left (string_bytes g.name) ≡ false → is_new count (member_of g.discriminant_value) ≡ false → IsSoundFor v r → PassesField v levels r r (fields_left node count left) g None
moves_nowhere v levels r node count left g h k s = record {
  sound = s;
  grows = front_itself (pairs_of r);
  tested = λ pairs rest. ap (λ z. has_each pairs (pairs_of r) && z) (alone v levels node count left g rest pairs h ∙ ap (λ z. z && rest_test v levels node count left rest pairs) k) ∙ and_false (has_each pairs (pairs_of r));
}

pub moves_on : (v : Versions) (levels : Levels) (old new : Reached) (node count : ℕ) (left : List FieldRecord) (f : FieldRecord) (fs : List FieldRecord) (g : FieldRecord) → left ≡ f ∷ fs → bytes_eq (partner_name (names_in v.names) node (string_bytes f.name)) (string_bytes g.name) ≡ true → Decides v old new true (fields_test v levels f g) → PassesField v levels old new (fields_left node count left) g (Some fs)
moves_on v levels old new node count left f fs g is h d = record {
  sound = d.sound;
  grows = d.grows;
  tested = λ pairs rest.
      ap (λ (z : List FieldRecord). has_each pairs (pairs_of old) && rest_test v levels node count z (next_field v levels g rest) pairs) is
      ∙ ap (λ z. has_each pairs (pairs_of old) && z) (together v levels node count f fs g rest pairs h)
      ∙ sym (and_assoc (has_each pairs (pairs_of old)) (fields_test v levels f g pairs) (rest_test v levels node count fs rest pairs))
      ∙ ap (λ z. z && rest_test v levels node count fs rest pairs) (d.tested pairs);
}

pub moves_not : (v : Versions) (levels : Levels) (old new : Reached) (node count : ℕ) (left : List FieldRecord) (f : FieldRecord) (fs : List FieldRecord) (g : FieldRecord) → left ≡ f ∷ fs → bytes_eq (partner_name (names_in v.names) node (string_bytes f.name)) (string_bytes g.name) ≡ true → Decides v old new false (fields_test v levels f g) → PassesField v levels old new (fields_left node count left) g None
moves_not v levels old new node count left f fs g is h d = record {
  sound = d.sound;
  grows = d.grows;
  tested = λ pairs rest.
      ap (λ (z : List FieldRecord). has_each pairs (pairs_of old) && rest_test v levels node count z (next_field v levels g rest) pairs) is
      ∙ ap (λ z. has_each pairs (pairs_of old) && z) (together v levels node count f fs g rest pairs h)
      ∙ sym (and_assoc (has_each pairs (pairs_of old)) (fields_test v levels f g pairs) (rest_test v levels node count fs rest pairs))
      ∙ ap (λ z. z && rest_test v levels node count fs rest pairs) (d.tested pairs);
}

pub nothing_left : (v : Versions) (levels : Levels) (node count : ℕ) (left : List FieldRecord) (pairs : Pairs) → rest_test v levels node count left no_fields pairs ≡ (length left == 0)
unfolding keeps_fields
nothing_left v levels node count [] pairs = refl
nothing_left v levels node count (f ∷ fs) pairs = sym (test_is_false (suc (length fs)) 0 (λ h. omega (arith, h)))

module _ (groups : ℕ → Shape) (rs : List Renaming) (node : ℕ) where
  abbrev kept : List FieldRecord → Fields
  kept fs = fields_from groups (map (kept_field rs node) fs)

  one_field : (f : FieldRecord) (fs : List FieldRecord) → member_count (kept (f ∷ fs)) ≡ cond (not (f.discriminant_value == 65535)) (1 + member_count (kept fs)) (member_count (kept fs))
  one_field f fs = by (f.discriminant_value == 65535)
    where
      by : (b : Bool) → member_count (field (partner_name rs node (string_bytes f.name)) (if b then None else Some f.discriminant_value) (field_body groups (kind_of_field f.body)) (kept fs)) ≡ cond (not b) (1 + member_count (kept fs)) (member_count (kept fs))
      by true = refl
      by false = omega arith

  pub count_is : (fs : List FieldRecord) → member_count (kept fs) ≡ count_by (λ f. not (f.discriminant_value == 65535)) fs
  count_is fs = is_count_by (λ (gs : List FieldRecord). member_count (kept gs)) (λ f. not (f.discriminant_value == 65535)) refl one_field fs

-- ---- structs and groups

keeps_nothing : (v : Versions) (pairs : Pairs) (g : Shape) → keeps (older_schema v) (held_schema v.newer) pairs no_shape g ≡ true
unfolding keeps
keeps_nothing v pairs (shape nid w p u fs) = both_true (both_true (both_true (le-leb 0 w (omega arith)) (le-leb 0 p (omega arith))) refl) (new_fields fs)
  where
    new_fields : (fs : Fields) → keeps_fields (older_schema v) (held_schema v.newer) pairs 0 no_fields fs ≡ true
    new_fields no_fields = refl
    new_fields (field l None b fs) = new_fields fs
    new_fields (field l (Some m) b fs) = both_true (le-leb 0 m (omega arith)) (new_fields fs)

pub nothing_to_keep : (v : Versions) (levels : Levels) (r : Reached) (i j : ℕ) → shape_in (held_nodes v.older) levels.older i ≡ no_shape → IsSoundFor v r → Decides v r r true (keeps_at v levels i j)
nothing_to_keep v levels r i j h s = decides_here v r true _ s (λ pairs. ap (λ (g : Shape). keeps (older_schema v) (held_schema v.newer) pairs (renamed_shape (names_in v.names) g) (shape_in (held_nodes v.newer) levels.newer j)) h ∙ keeps_nothing v pairs (shape_in (held_nodes v.newer) levels.newer j))

module _ (v : Versions) (levels below : Levels) (i j : ℕ) (a b : Holder)
    (older : shape_in (held_nodes v.older) levels.older i ≡ shape_by (λ g. shape_in (held_nodes v.older) below.older g) a)
    (newer : shape_in (held_nodes v.newer) levels.newer j ≡ shape_by (λ g. shape_in (held_nodes v.newer) below.newer g) b) where
  holders : (pairs : Pairs) → keeps_at v levels i j pairs ≡ (has_room a b && rest_test v below a.id (member_count (older_fields v below a.id a.fields.now)) a.fields.now (newer_fields v below b.fields.now) pairs)
  unfolding keeps
  holders pairs =
      ap (λ (g : Shape). keeps (older_schema v) (held_schema v.newer) pairs g (shape_in (held_nodes v.newer) levels.newer j)) (ap (renamed_shape (names_in v.names)) older ∙ renamed_holder (names_in v.names) (λ g. shape_in (held_nodes v.older) below.older g) a)
      ∙ ap (λ (g : Shape). keeps (older_schema v) (held_schema v.newer) pairs (kept_holder (names_in v.names) (λ h. shape_in (held_nodes v.older) below.older h) a) g) newer

  pub no_room : (r : Reached) → has_room a b ≡ false → IsSoundFor v r → Decides v r r false (keeps_at v levels i j)
  no_room r h s = decides_here v r false _ s (λ pairs. holders pairs ∙ ap (λ z. z && rest_test v below a.id (member_count (older_fields v below a.id a.fields.now)) a.fields.now (newer_fields v below b.fields.now) pairs) h)

  pub with_room : (old new : Reached) (ok : Bool) → has_room a b ≡ true → Decides v old new ok (rest_test v below a.id (member_count (older_fields v below a.id a.fields.now)) a.fields.now (newer_fields v below b.fields.now)) → Decides v old new ok (keeps_at v levels i j)
  with_room old new ok h d = decides_same v old new ok _ _ d (λ pairs. holders pairs ∙ ap (λ z. z && rest_test v below a.id (member_count (older_fields v below a.id a.fields.now)) a.fields.now (newer_fields v below b.fields.now) pairs) h)

-- ---- what patterns bind

pub bodies_are : (v : Versions) (levels : Levels) (old new : Reached) (ok : Bool) (older newer x y : FieldBody) → older ≡ x → newer ≡ y → Decides v old new ok (bodies_test v levels x y) → Decides v old new ok (bodies_test v levels older newer)
bodies_are v levels old new ok older newer x y e f d = subst (λ (z : FieldBody). Decides v old new ok (bodies_test v levels z newer)) (sym e) (subst (λ (z : FieldBody). Decides v old new ok (bodies_test v levels x z)) (sym f) d)

pub sound_is : (older x : FieldBody) → older ≡ x → is_sound_kind (kind_of_field older) ≡ true → is_sound_kind (kind_of_field x) ≡ true
sound_is older x e h = subst (λ (z : FieldBody). is_sound_kind (kind_of_field z) ≡ true) e h

pub front_sound : (left : List FieldRecord) (f : FieldRecord) (fs : List FieldRecord) → left ≡ f ∷ fs → are_sound left ≡ true → is_sound_kind (kind_of_field f.body) ≡ true
front_sound left f fs e h = and_left (is_sound_kind (kind_of_field f.body)) (are_sound fs) (subst (λ (xs : List FieldRecord). are_sound xs ≡ true) e h)

pub rest_sound : (left : List FieldRecord) (f : FieldRecord) (fs : List FieldRecord) → left ≡ f ∷ fs → are_sound left ≡ true → are_sound fs ≡ true
rest_sound left f fs e h = and_right (is_sound_kind (kind_of_field f.body)) (are_sound fs) (subst (λ (xs : List FieldRecord). are_sound xs ≡ true) e h)

-- ---- the fields in turn

module _ (v : Versions) (levels : Levels) (start old : Reached) (whole : Pairs → Bool) (node count : ℕ) (left rest : List FieldRecord)
    (grows : IsFront (pairs_of start) (pairs_of old))
    (tested : (pairs : Pairs) → (has_each pairs (pairs_of start) && whole pairs) ≡ (has_each pairs (pairs_of old) && rest_test v levels node count left (newer_fields v levels rest) pairs)) where
  pub fields_stop : (new : Reached) (next : FieldRecord) (more : List FieldRecord) → rest ≡ next ∷ more → PassesField v levels old new (fields_left node count left) next None → Decides v start new false whole
  fields_stop new next more e m = record {
    sound = m.sound;
    grows = front_of_front (pairs_of start) (pairs_of old) (pairs_of new) grows m.grows;
    tested = λ pairs. tested pairs ∙ ap (λ (xs : List FieldRecord). has_each pairs (pairs_of old) && rest_test v levels node count left (newer_fields v levels xs) pairs) e ∙ m.tested pairs (newer_fields v levels more);
  }

  pub fields_go : (new : Reached) (next : FieldRecord) (more others : List FieldRecord) → rest ≡ next ∷ more → PassesField v levels old new (fields_left node count left) next (Some others)
      → (pairs : Pairs) → (has_each pairs (pairs_of start) && whole pairs) ≡ (has_each pairs (pairs_of new) && rest_test v levels node count others (newer_fields v levels more) pairs)
  fields_go new next more others e m pairs = tested pairs ∙ ap (λ (xs : List FieldRecord). has_each pairs (pairs_of old) && rest_test v levels node count left (newer_fields v levels xs) pairs) e ∙ m.tested pairs (newer_fields v levels more)

  pub fields_end : IsSoundFor v old → rest ≡ [] → Decides v start old (length left == 0) whole
  fields_end s e = record {
    sound = s;
    grows = grows;
    tested = λ pairs.
        tested pairs
        ∙ ap (λ (xs : List FieldRecord). has_each pairs (pairs_of old) && rest_test v levels node count left (newer_fields v levels xs) pairs) e
        ∙ ap (λ z. has_each pairs (pairs_of old) && z) (nothing_left v levels node count left pairs)
        ∙ and_comm (has_each pairs (pairs_of old)) (length left == 0);
  }
