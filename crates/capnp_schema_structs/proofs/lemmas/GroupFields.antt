-- Where the fields of places lie.
use Rattle.std.proofs.Common.{◌≡◌, ℕ, zero, suc, ◌+◌, ◌*◌, ◌<◌, ◌≤◌, [], Option, Some, true, false, refl, sym, ap, subst, ◌∙◌, arith}
use Rattle.std.specs.Prelude.{option_map}
use Rattle.capnp_model.specs.Segments.{Segments}
use Rattle.capnp_model.specs.Edits.{Edit, mark, is_kept, cleared, cleared_body}
use Rattle.capnp_copy_arenas.specs.Structs.{SetsBits}
use Rattle.capnp_records.specs.NodeViews.{member_of}
use Rattle.capnp_values_queries.specs.Fields.{Entry, field_at, field_count, entry_in, union_in}
use Rattle.capnp_values_queries.specs.declared.fields.Field.{Field}
use Rattle.capnp_model.proofs.lemmas.Tests.{same_some}
use Rattle.capnp_schema_structs.specs.Edits.{Edits, cleared_entry}
use Rattle.capnp_schema_structs.proofs.lemmas.Writes.{edits_then, edits_alike, edits_same}
use Rattle.capnp_schema_structs.proofs.Marks.{member_there}
use Rattle.capnp_schema_structs.proofs.Groups.{fields_depth, body_depth, entry_depth, cleared_front, front_next, group_is, clears_plain, clears_kept, leaves_other}
use Rattle.std.specs.Borrow.{Bor}
use Rattle.capnp_model.specs.Accepted.{areas_of, areas_of_body}
use Rattle.capnp_model.specs.Schemas.{width, Body, Field as FieldNode}
use Rattle.capnp_records.specs.declared.node.Value.{Value}
use Rattle.capnp_values_queries.specs.Structs.{schema_around, shape_of_struct, fields_of_struct}
use Rattle.capnp_values_queries.specs.Handles.{entry_of_field, IsFieldRecord, body_of_place, plain_of}
use Rattle.capnp_values_queries.specs.declared.introspect.«Type».{«Type» as SchemaType}
use Rattle.capnp_values_queries.specs.declared.structs.StructSchema.{StructSchema}
use Rattle.capnp_values_queries.specs.declared.slots.PlainType.{PlainType as Plain}
use Rattle.capnp_values_queries.specs.declared.slots.FieldPlace.{FieldPlace}
use Rattle.capnp_values_queries.specs.declared.slots.FieldPlace.TheVariants as F
use Rattle.capnp_copy_arenas.specs.Structs.{AreInWord}
use Rattle.capnp_copy_arenas.specs.declared.fields.StructPlace.{StructPlace}
use Rattle.capnp_schema_structs.specs.Inside.{LieIn}
use Rattle.capnp_schema_structs.proofs.lemmas.Ready.{in_word, one_word, some_width, field_areas}

module _ (p : StructPlace) (f : FieldPlace) where
  pub plain_inside : (t : Plain) (o d w : ℕ) → f ≡ F.Plain t o d → w ≡ width (plain_of t) → LieIn p.data_words p.pointers (areas_of_body (body_of_place f)) → AreInWord p (w * o) w
  unfolding areas_of
  plain_inside t o d w is e h =
      let inside = subst (λ x. LieIn p.data_words p.pointers (areas_of_body (body_of_place x))) is h in
      subst (λ v. AreInWord p (v * o) v) (sym e) (in_word p (width (plain_of t) * o) (width (plain_of t)) [] (some_width t) (one_word t o) inside)

  pub pointer_inside : (i : ℕ) (ty : SchemaType) (d : Option (Bor Value)) → f ≡ F.Pointer i ty d → LieIn p.data_words p.pointers (areas_of_body (body_of_place f)) → i < p.pointers
  unfolding areas_of
  pointer_inside i ty d is h = (subst (λ x. LieIn p.data_words p.pointers (areas_of_body (body_of_place x))) is h).0

  pub group_inside : (g : StructSchema) → f ≡ F.Group g → LieIn p.data_words p.pointers (areas_of_body (body_of_place f)) → LieIn p.data_words p.pointers (areas_of (shape_of_struct g))
  unfolding areas_of
  group_inside g is h = subst (λ x. LieIn p.data_words p.pointers (areas_of_body (body_of_place x))) is h

-- ---- what a record says of its field

module _ (f : Field) (r : FieldNode) (is : IsFieldRecord f.parent f.index r) (b : Body) (same : option_map (λ e. e.body) (entry_of_field f) ≡ Some b) where
  abbrev pub the_entry : Entry
  the_entry = entry_in (schema_around f.parent) r

  pub body_is : the_entry.body ≡ b
  body_is = same_some (sym (ap (option_map (λ e. e.body)) is.entry) ∙ same)

  pub member_depth : body_depth b ≤ fields_depth (fields_of_struct f.parent)
  member_depth = subst (λ x. body_depth x ≤ fields_depth (fields_of_struct f.parent)) body_is (entry_depth (fields_of_struct f.parent) f.index the_entry is.entry)

  pub member_inside : (w k : ℕ) → LieIn w k (areas_of (shape_of_struct f.parent)) → LieIn w k (areas_of_body b)
  member_inside w k h = subst (λ x. LieIn w k (areas_of_body x)) body_is (field_areas w k (shape_of_struct f.parent) f.index the_entry is.entry h)

  pub kept_cleared : (s u : Segments) (p : StructPlace) → is_kept r.member ≡ true → Edits s u p (cleared_body b) → Edits s u p (cleared_entry (entry_of_field f))
  kept_cleared s u p k h = clears_kept s u p (entry_of_field f) the_entry is.entry k (edits_alike s u p (cleared_body b) (cleared_body the_entry.body) (ap cleared_body (sym body_is)) h)

-- the pointer of a field's slot
pub slot_inside : (f : Field) (r : FieldNode) → IsFieldRecord f.parent f.index r → (p : StructPlace) (i : ℕ) (ty : SchemaType) (d : Option (Bor Value)) → option_map (λ e. e.body) (entry_of_field f) ≡ Some (body_of_place (F.Pointer i ty d))
    → LieIn p.data_words p.pointers (areas_of (shape_of_struct f.parent)) → i < p.pointers
slot_inside f r is p i ty d body h = pointer_inside p (F.Pointer i ty d) i ty d refl (member_inside f r is (body_of_place (F.Pointer i ty d)) body p.data_words p.pointers h)

pub other_left : (f : Field) (r : FieldNode) → IsFieldRecord f.parent f.index r → (s : Segments) (p : StructPlace) → is_kept r.member ≡ false → Edits s s p (cleared_entry (entry_of_field f))
other_left f r is s p k = leaves_other s p (entry_of_field f) (entry_in (schema_around f.parent) r) is.entry k

pub first_kept : (d : ℕ) → d ≡ 0 → is_kept (member_of d) ≡ true
first_kept d e = ap (λ m. is_kept (member_of m)) e

pub none_kept : (d : ℕ) → d ≡ 65535 → is_kept (member_of d) ≡ true
none_kept d e = ap (λ m. is_kept (member_of m)) e

pub others_not_kept : (d : ℕ) → (d ≡ 0 → ⊥) → (d ≡ 65535 → ⊥) → is_kept (member_of d) ≡ false
others_not_kept d a b = ap is_kept (member_there d b) ∙ by d a
  where
    by : (d : ℕ) → (d ≡ 0 → ⊥) → is_kept (Some d) ≡ false
    by zero a = absurd (a refl)
    by (suc d) a = refl

-- ---- one field more

pub fields_next : (s u v : Segments) (p : StructPlace) (g : StructSchema) (mark : Edit) (i : ℕ) (f : Field) → f.parent ≡ g → f.index ≡ i
    → Edits s u p (λ c. cleared_front i (fields_of_struct g) (mark c)) → Edits u v p (cleared_entry (entry_of_field f)) → Edits s v p (λ c. cleared_front (i + 1) (fields_of_struct g) (mark c))
fields_next s u v p g mark i f parent index a b =
    let entry : entry_of_field f ≡ field_at (fields_of_struct g) i = ap (λ x. field_at (fields_of_struct x) f.index) parent ∙ ap (field_at (fields_of_struct g)) index in
    let next = edits_alike u v p (cleared_entry (entry_of_field f)) (cleared_entry (field_at (fields_of_struct g) i)) (ap cleared_entry entry) b in
    let one : suc i ≡ i + 1 = omega arith in
    edits_same s v p (λ c. cleared_entry (field_at (fields_of_struct g) i) (cleared_front i (fields_of_struct g) (mark c))) (λ c. cleared_front (i + 1) (fields_of_struct g) (mark c))
    (λ c. sym (front_next i (fields_of_struct g) (mark c)) ∙ ap (λ n. cleared_front n (fields_of_struct g) (mark c)) one)
    (edits_then s u v p (λ c. cleared_front i (fields_of_struct g) (mark c)) (cleared_entry (field_at (fields_of_struct g) i)) a next)

pub fields_all : (s u : Segments) (p : StructPlace) (g : StructSchema) (i : ℕ) → i ≡ field_count (fields_of_struct g)
    → Edits s u p (λ c. cleared_front i (fields_of_struct g) (mark (union_in (shape_of_struct g)) (Some 0) c)) → Edits s u p (cleared (shape_of_struct g))
fields_all s u p g i all h =
    edits_same s u p (λ c. cleared_front i (fields_of_struct g) (mark (union_in (shape_of_struct g)) (Some 0) c)) (cleared (shape_of_struct g))
    (λ c. ap (λ n. cleared_front n (fields_of_struct g) (mark (union_in (shape_of_struct g)) (Some 0) c)) all ∙ group_is (shape_of_struct g) c) h

pub plain_cleared : (s u : Segments) (p : StructPlace) (t : Plain) (o d w : ℕ) → w ≡ width (plain_of t) → SetsBits s u p (w * o) w 0 → Edits s u p (cleared_body (body_of_place (F.Plain t o d)))
plain_cleared s u p t o d w e h = clears_plain s u p (plain_of t) (width (plain_of t) * o) d w e (subst (λ v. SetsBits s u p (v * o) w 0) e h)
