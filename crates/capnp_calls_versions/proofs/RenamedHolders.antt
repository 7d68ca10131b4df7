-- What a node's record says, in the newer's words.
use Rattle.std.proofs.Common.{◌≡◌, ℕ, Option, List, [], ◌∷◌, map, refl, ◌∙◌, ap}
use Rattle.capnp_model.specs.Schemas.{Ty, void, plain, text, blob, untyped, interface, struct, list, type_of, Value, FieldKind, slot, group, Shape, shape, field, Body}
use Rattle.capnp_model.specs.Accepted.{slot_body, field_body, fields_from}
use Rattle.capnp_model.specs.Partners.{Renaming, partner_name, renamed_shape, renamed_fields, renamed_body}
use Rattle.capnp_records.specs.NodeViews.{field_of}
use Rattle.capnp_records.specs.declared.node.FieldRecord.{FieldRecord}
use Rattle.capnp_calls_versions.specs.declared.nodes.Holder.{Holder}
use Rattle.capnp_calls_versions.specs.Holders.{shape_by}
use Rattle.capnp_calls_versions.specs.Walks.{kept_field}

abbrev pub kept_holder : List Renaming → (ℕ → Shape) → Holder → Shape
kept_holder rs groups h = shape h.id h.words h.pointers h.union (fields_from (λ g. renamed_shape rs (groups g)) (map (kept_field rs h.id) h.fields.now))

renamed_slot : (rs : List Renaming) (a : ℕ) (t : Ty) (d : Option Value) → renamed_body rs (slot_body a t d) ≡ slot_body a t d
renamed_slot rs a void d = refl
renamed_slot rs a (plain p) d = refl
renamed_slot rs a text d = refl
renamed_slot rs a blob d = refl
renamed_slot rs a untyped d = refl
renamed_slot rs a interface d = refl
renamed_slot rs a (struct i) d = refl
renamed_slot rs a (list t) d = refl

renamed_kind : (rs : List Renaming) (groups : ℕ → Shape) (k : FieldKind) → renamed_body rs (field_body groups k) ≡ field_body (λ g. renamed_shape rs (groups g)) k
renamed_kind rs groups (slot a t d) = renamed_slot rs a (type_of t) d
renamed_kind rs groups (group g) = refl

renamed_all : (rs : List Renaming) (groups : ℕ → Shape) (node : ℕ) (fs : List FieldRecord) → renamed_fields rs node (fields_from groups (map field_of fs)) ≡ fields_from (λ g. renamed_shape rs (groups g)) (map (kept_field rs node) fs)
renamed_all rs groups node [] = refl
renamed_all rs groups node (f ∷ fs) =
    ap (λ (b : Body). field (partner_name rs node (field_of f).name) (field_of f).member b (renamed_fields rs node (fields_from groups (map field_of fs)))) (renamed_kind rs groups (field_of f).kind)
    ∙ ap (field (partner_name rs node (field_of f).name) (field_of f).member (field_body (λ g. renamed_shape rs (groups g)) (field_of f).kind)) (renamed_all rs groups node fs)

pub renamed_holder : (rs : List Renaming) (groups : ℕ → Shape) (h : Holder) → renamed_shape rs (shape_by groups h) ≡ kept_holder rs groups h
renamed_holder rs groups h = ap (shape h.id h.words h.pointers h.union) (renamed_all rs groups h.id h.fields.now)
