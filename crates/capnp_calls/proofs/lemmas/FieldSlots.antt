-- The body that a field's node says, and the default of a pointer.
use Rattle.std.proofs.Common.{◌≡◌, ℕ, true, Option, Some, sym, ◌∙◌, ap, subst}
use Rattle.std.specs.Prelude.{option_map}
use Rattle.capnp_model.specs.Trees.{Tree}
use Rattle.capnp_model.specs.Schemas.{Ty, void, plain, text, blob, untyped, interface, struct, list, type_of, Value, FieldKind, slot, group, Field as FieldNode, StructNode, Shape, Body, pointer_slot}
use Rattle.capnp_model.specs.Accepted.{default_tree, slot_body, field_body, is_default_of, has_good_default, opens_as, is_good_value, default_reads}
use Rattle.capnp_values_queries.specs.Structs.{nodes_around, schema_around, id_of, IsRecordOf}
use Rattle.capnp_values_queries.specs.Handles.{entry_of_field, IsFieldRecord}
use Rattle.capnp_values_queries.specs.declared.fields.Field.{Field}
use Rattle.capnp_model.proofs.lemmas.Tests.{same_some}
use Rattle.capnp_calls.specs.Finding.{default_in}
use Rattle.capnp_calls.proofs.AcceptedSlots.{SoundField, sound_field}

-- the body that the node says
pub body_is : (f : Field) (r : FieldNode) (b : Body) → IsFieldRecord f.parent f.index r → option_map (λ e. e.body) (entry_of_field f) ≡ Some b → field_body (schema_around f.parent).shape_of r.kind ≡ b
body_is f r b rec h = same_some (sym (ap (option_map (λ e. e.body)) rec.entry) ∙ h)

-- what is known of a pointer slot
pub record PointerKind (k : FieldKind) (t : Ty) : Type 0 where
  pub default : is_default_of t (default_in k) ≡ true
  pub good : is_good_value (λ u. opens_as u t) (default_in k) ≡ true

module _ (i : ℕ) (t : Ty) (x : Option Tree) (offset : ℕ) (d : Option Value) where
  -- the type, and the place with the node's default
  record Parts (u : Ty) : Type 0 where
    type : u ≡ t
    default : is_default_of t d ≡ true
    body : pointer_slot i t x ≡ pointer_slot i t (default_tree d)

  same_parts : (u : Ty) → is_default_of u d ≡ true → pointer_slot offset u (default_tree d) ≡ pointer_slot i t x → Parts u
  same_parts u g h =
      let ty : u ≡ t = cc h in
      let default : default_tree d ≡ x = cc h in
      record { type = ty; default = subst (λ z. is_default_of z d ≡ true) ty g; body = ap (pointer_slot i t) (sym default) }

  parts : (u : Ty) → is_default_of u d ≡ true → slot_body offset u d ≡ pointer_slot i t x → Parts u
  parts void g h = absurd (cc h)
  parts (plain p) g h = absurd (cc h)
  parts text g h = same_parts text g h
  parts blob g h = same_parts blob g h
  parts untyped g h = same_parts untyped g h
  parts interface g h = same_parts interface g h
  parts (struct id) g h = same_parts (struct id) g h
  parts (list ty) g h = same_parts (list ty) g h

pointer_kind : (groups : ℕ → Shape) (k : FieldKind) (i : ℕ) (t : Ty) (x : Option Tree) → field_body groups k ≡ pointer_slot i t x → has_good_default k ≡ true → default_reads k ≡ true → PointerKind k t
pointer_kind groups (slot offset ty d) i t x h g reads =
    let p = parts i t x offset d (type_of ty) g h in
    record { default = p.default; good = subst (λ z. is_good_value (λ u. opens_as u z) d ≡ true) p.type reads }
pointer_kind groups (group id) i t x h g reads = absurd (cc h)

pointer_body : (groups : ℕ → Shape) (k : FieldKind) (i : ℕ) (t : Ty) (x : Option Tree) → field_body groups k ≡ pointer_slot i t x → has_good_default k ≡ true → field_body groups k ≡ pointer_slot i t (default_tree (default_in k))
pointer_body groups (slot offset ty d) i t x h g = h ∙ (parts i t x offset d (type_of ty) g h).body
pointer_body groups (group id) i t x h g = absurd (cc h)

-- ---- whole fields

module _ (f : Field) (r : FieldNode) (rec : IsFieldRecord f.parent f.index r) (n : StructNode) (holder : IsRecordOf (nodes_around f.parent) (id_of f.parent) n) where
  sound : SoundField f.parent r
  sound = sound_field f.parent f.index r rec n holder

  pub kind_of_pointer : (i : ℕ) (t : Ty) (x : Option Tree) → option_map (λ e. e.body) (entry_of_field f) ≡ Some (pointer_slot i t x) → PointerKind r.kind t
  kind_of_pointer i t x h = pointer_kind (schema_around f.parent).shape_of r.kind i t x (body_is f r (pointer_slot i t x) rec h) sound.default sound.reads

  pub body_of_pointer : (i : ℕ) (t : Ty) (x : Option Tree) → option_map (λ e. e.body) (entry_of_field f) ≡ Some (pointer_slot i t x) → option_map (λ e. e.body) (entry_of_field f) ≡ Some (pointer_slot i t (default_tree (default_in r.kind)))
  body_of_pointer i t x h =
      let b = body_is f r (pointer_slot i t x) rec h in
      h ∙ ap (λ (z : Body). Some z) (sym b ∙ pointer_body (schema_around f.parent).shape_of r.kind i t x b sound.default)
