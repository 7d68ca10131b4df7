-- The shapes of accepted nodes: where slots lie, what types they have, and their defaults.
use Rattle.std.proofs.Common.{◌≡◌, ℕ, zero, suc, ◌*◌, ◌==◌, ◌⊎◌, inl, inr, Bool, true, false, if◌then◌else◌, Option, Some, None, option_map, List, [], ◌∷◌, length, refl, ap, sym, ◌∙◌}
use Rattle.std.specs.List.{list_all}
use Rattle.capnp_model.specs.Trees.{Tree, null}
use Rattle.capnp_model.specs.Decoding.{decode}
use Rattle.capnp_model.specs.Schemas.{width, TypeRecord, type_of, Ty, void, plain, text, blob, untyped, interface, struct, list, Value, no_value, bits, text_bytes, blob_bytes, list_segment, struct_segment, untyped_value, interface_value, FieldKind, slot, group, Field as FieldNode, StructNode, NodeKind, struct_node, enum_node, Node, Shape, shape, Fields, no_fields, field, Body, void_slot, plain_slot, pointer_slot, group_slot, default_or_null}
use Rattle.capnp_model.specs.Accepted.{find_node, fields_of_kind, slot_body, field_body, fields_from, union_place, no_shape, shape_of_node, shape_in, schema_of, is_default_of, opens_as, is_good_segment, is_good_value, has_good_default, default_reads, IsAccepted}
use Rattle.capnp_model.proofs.lemmas.KeptRules.{found_passes}
use Rattle.capnp_values.specs.Standing.{IsPointerType}
use Rattle.capnp_values.proofs.lemmas.FieldReadings.{plain_base, plain_type}
use Rattle.capnp_values.proofs.lemmas.GoodDefaults.{defaults_kept}
use Rattle.capnp_model.proofs.lemmas.Tests.{and_left, and_right}
use Rattle.capnp_values.proofs.lemmas.DefaultReadings.{decoded}

-- A type that nodes can name.
abbrev pub IsNamed : Ty → Type 0
IsNamed ty = (t : TypeRecord) × (ty ≡ type_of t)

-- Null, or under a type that nodes can name the value of canonical bytes.
abbrev pub IsSegment : Ty → Tree → Type 0
IsSegment ty d = (d ≡ null) ⊎ (IsNamed ty × (test : Tree → Bool) × (bs : List ℕ) × (is_good_segment test bs ≡ true) × (decode bs ≡ Some d))

-- What may stand as the default of a type: of structs and lists canonical values, of texts and data any bytes.
abbrev pub IsDefault : Ty → Tree → Type 0
IsDefault text d = Unit {0}
IsDefault blob d = Unit {0}
IsDefault (struct id) d = IsSegment (struct id) d
IsDefault (list ty) d = IsSegment (list ty) d
IsDefault untyped d = d ≡ null
IsDefault interface d = d ≡ null
IsDefault void d = d ≡ null
IsDefault (plain p) d = d ≡ null

pub no_default_is : (ty : Ty) → IsDefault ty null
no_default_is text = tt
no_default_is blob = tt
no_default_is (struct id) = inl refl
no_default_is (list ty) = inl refl
no_default_is untyped = refl
no_default_is interface = refl
no_default_is void = refl
no_default_is (plain p) = refl

-- The widths of plain types.
abbrev pub IsWidth : ℕ → Type 0
IsWidth w = (w ≡ 1) ⊎ (w ≡ 8) ⊎ (w ≡ 16) ⊎ (w ≡ 32) ⊎ (w ≡ 64)

abbrev mutual
  -- A shape whose discriminant is counted in 16 bits, and whose slots are sound.
  pub SoundShape : Shape → Type 0
  SoundShape (shape nid w p u fs) = ((o : Option ℕ) × (u ≡ option_map (λ n. 16 * n) o)) × SoundFields fs

  pub SoundFields : Fields → Type 0
  SoundFields no_fields = Unit {0}
  SoundFields (field name m b fs) = SoundBody b × SoundFields fs

  pub SoundBody : Body → Type 0
  SoundBody (void_slot j) = Unit {0}
  SoundBody (plain_slot p at d) = ((o : ℕ) × (at ≡ width p * o)) × IsWidth (width p)
  SoundBody (pointer_slot i ty d) = IsPointerType ty × IsNamed ty × IsDefault ty (default_or_null d)
  SoundBody (group_slot g) = SoundShape g

-- ---- slots

decoded_is : (ty : Ty) (test : Tree → Bool) (bs : List ℕ) → IsNamed ty → is_good_segment test bs ≡ true → IsSegment ty (default_or_null (decode bs))
decoded_is ty test bs named good =
    let d = decoded test bs good in
    inr (named, test, bs, good, d.1 ∙ ap (λ o. Some (default_or_null o)) (sym d.1))

slot_sound : (t : TypeRecord) (o : ℕ) (ty : Ty) (d : Option Value) → ty ≡ type_of t → is_default_of ty d ≡ true → is_good_value (λ x. opens_as x ty) d ≡ true → SoundBody (slot_body o ty d)
slot_sound t o void d e h good = tt
slot_sound t o (plain p) d e h good = ((o, refl), plain_base t.base p (plain_type t.list_count t.base p (sym e)))
slot_sound t o text d e h good = (tt, (t, e), tt)
slot_sound t o blob d e h good = (tt, (t, e), tt)
slot_sound t o untyped None e h good = (tt, (t, e), refl)
slot_sound t o untyped (Some d) e h good = absurd (cc h)
slot_sound t o interface None e h good = (tt, (t, e), refl)
slot_sound t o interface (Some d) e h good = absurd (cc h)
slot_sound t o (struct id) None e h good = (tt, (t, e), inl refl)
slot_sound t o (struct id) (Some no_value) e h good = absurd (cc h)
slot_sound t o (struct id) (Some (bits q n)) e h good = absurd (cc h)
slot_sound t o (struct id) (Some (text_bytes bs)) e h good = absurd (cc h)
slot_sound t o (struct id) (Some (blob_bytes bs)) e h good = absurd (cc h)
slot_sound t o (struct id) (Some (list_segment bs)) e h good = absurd (cc h)
slot_sound t o (struct id) (Some (struct_segment bs)) e h good = (tt, (t, e), decoded_is (struct id) (λ x. opens_as x (struct id)) bs (t, e) good)
slot_sound t o (struct id) (Some untyped_value) e h good = absurd (cc h)
slot_sound t o (struct id) (Some interface_value) e h good = absurd (cc h)
slot_sound t o (list ty) None e h good = (tt, (t, e), inl refl)
slot_sound t o (list ty) (Some no_value) e h good = absurd (cc h)
slot_sound t o (list ty) (Some (bits q n)) e h good = absurd (cc h)
slot_sound t o (list ty) (Some (text_bytes bs)) e h good = absurd (cc h)
slot_sound t o (list ty) (Some (blob_bytes bs)) e h good = absurd (cc h)
slot_sound t o (list ty) (Some (list_segment bs)) e h good = (tt, (t, e), decoded_is (list ty) (λ x. opens_as x (list ty)) bs (t, e) good)
slot_sound t o (list ty) (Some (struct_segment bs)) e h good = absurd (cc h)
slot_sound t o (list ty) (Some untyped_value) e h good = absurd (cc h)
slot_sound t o (list ty) (Some interface_value) e h good = absurd (cc h)

-- ---- nodes

module _ (groups : ℕ → Shape) (sound : (id : ℕ) → SoundShape (groups id)) where
  kind_sound : (k : FieldKind) → has_good_default k ≡ true → default_reads k ≡ true → SoundBody (field_body groups k)
  kind_sound (slot o ty d) h good = slot_sound ty o (type_of ty) d refl h good
  kind_sound (group id) h good = sound id

  fields_sound : (fs : List FieldNode) → list_all (λ f. has_good_default f.kind) fs ≡ true → list_all (λ f. default_reads f.kind) fs ≡ true → SoundFields (fields_from groups fs)
  fields_sound [] h good = tt
  fields_sound (f ∷ fs) h good =
      (kind_sound f.kind (and_left (has_good_default f.kind) _ h) (and_left (default_reads f.kind) _ good), fields_sound fs (and_right (has_good_default f.kind) _ h) (and_right (default_reads f.kind) _ good))

no_shape_sound : SoundShape no_shape
no_shape_sound = ((None, refl), tt)

place_counted : (s : StructNode) (b : Bool) → (o : Option ℕ) × ((if b then None else Some (16 * s.discriminant_offset)) ≡ option_map (λ n. 16 * n) o)
place_counted s true = (None, refl)
place_counted s false = (Some s.discriminant_offset, refl)

node_sound : (groups : ℕ → Shape) → ((id : ℕ) → SoundShape (groups id)) → (n : Node) (k : NodeKind) → list_all (λ f. has_good_default f.kind) (fields_of_kind k) ≡ true → list_all (λ f. default_reads f.kind) (fields_of_kind k) ≡ true
    → SoundShape (elim k as (λ (x : NodeKind). Shape) [ struct_node s ↦ shape n.id s.words s.pointers (union_place s) (fields_from groups s.fields) | enum_node es ↦ no_shape ])
node_sound groups sound n (struct_node s) h good = (place_counted s (s.discriminant_count == 0), fields_sound groups sound s.fields h good)
node_sound groups sound n (enum_node es) h good = no_shape_sound

module _ (nodes : List Node) (accepted : IsAccepted nodes) where
  levels_sound : (levels id : ℕ) → SoundShape (shape_in nodes levels id)
  unfolding shape_in
  levels_sound zero id = no_shape_sound
  levels_sound (suc levels) id = by (levels_sound levels) (find_node nodes id) refl
    where
      by : ((g : ℕ) → SoundShape (shape_in nodes levels g)) → (o : Option Node) → find_node nodes id ≡ o → SoundShape (shape_of_node (λ g. shape_in nodes levels g) o)
      by groups None e = no_shape_sound
      by groups (Some n) e =
          let kept = defaults_kept nodes accepted in
          node_sound (λ g. shape_in nodes levels g) groups n n.kind
          (found_passes (λ m. list_all (λ f. has_good_default f.kind) (fields_of_kind m.kind)) nodes id n kept.good e)
          (found_passes (λ m. list_all (λ f. default_reads f.kind) (fields_of_kind m.kind)) nodes id n kept.reads e)

  -- the shapes of accepted nodes are sound
  pub shapes_sound : (id : ℕ) → SoundShape ((schema_of nodes).shape_of id)
  unfolding schema_of
  shapes_sound id = levels_sound (length nodes) id
