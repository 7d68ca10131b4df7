-- A group is no larger than the struct or the group that holds it, so that a place is wide enough for both.
use Rattle.std.proofs.Common.{◌≡◌, ℕ, zero, suc, ◌≤◌, true, false, ◌||◌, ◌==◌, Option, Some, None, List, [], ◌∷◌, length, slice_get, refl, sym, ◌∙◌, ap, subst}
use Rattle.std.specs.List.{list_any, flat_map}
use Rattle.std.proofs.lemmas.List.Folds.{list_any-append}
use Rattle.std.specs.Prelude.{option_map}
use Rattle.capnp_model.specs.Schemas.{slot, group, Field as FieldNode, StructNode, FieldKind, NodeKind, struct_node, enum_node, Node, Shape, shape, group_slot, Ty, void, plain, text, blob, untyped, interface, struct, list, type_of, Value, words_of_shape, pointers_of_shape}
use Rattle.capnp_model.specs.Accepted.{fields_of_kind, groups_of_field, groups_used, slot_body, field_body, schema_of, sizes_of, IsAccepted}
use Rattle.capnp_model.proofs.lemmas.ListElements.{HasRoom}
use Rattle.capnp_model.proofs.lemmas.SoundSizes.{more_rules, group_room}
use Rattle.capnp_values_queries.specs.Structs.{nodes_around, schema_around, id_of, shape_of_struct, IsRecordOf}
use Rattle.capnp_values_queries.specs.Handles.{entry_of_field, IsFieldRecord}
use Rattle.capnp_values_queries.specs.declared.structs.StructSchema.{StructSchema}
use Rattle.capnp_values_queries.specs.declared.fields.Field.{Field}
use Rattle.capnp_values_queries.proofs.lemmas.Records.{struct_is}
use Rattle.capnp_model.proofs.lemmas.Tests.{number_is, or_right, same_some}
use Rattle.capnp_copy_arenas.specs.declared.fields.StructPlace.{StructPlace}
use Rattle.capnp_schema_structs.specs.Edits.{HoldsShape}
use Rattle.capnp_schema_structs.proofs.lemmas.Ready.{wide_within}

-- ---- shapes

sizes_are : (g : Shape) (words pointers : ℕ) → HasRoom g words pointers → (words_of_shape g ≤ words) × (pointers_of_shape g ≤ pointers)
sizes_are (shape id w p u fs) words pointers h = h

-- ---- fields

-- the group of a field is used
uses_group : (fs : List FieldNode) (i : ℕ) (r : FieldNode) (g : ℕ) → slice_get fs i ≡ Some r → r.kind ≡ group g → list_any (λ x. x == g) (flat_map (λ (f : FieldNode). groups_of_field f.kind) fs) ≡ true
uses_group [] zero r g e k = absurd (cc e)
uses_group [] (suc i) r g e k = absurd (cc e)
uses_group (f ∷ fs) zero r g e k =
    let same : f ≡ r = cc e in
    list_any-append (λ x. x == g) (groups_of_field f.kind) (flat_map (λ (f : FieldNode). groups_of_field f.kind) fs)
    ∙ ap (λ z. list_any (λ x. x == g) z || list_any (λ x. x == g) (flat_map (λ (f : FieldNode). groups_of_field f.kind) fs)) (ap (λ (x : FieldNode). groups_of_field x.kind) same ∙ ap groups_of_field k)
    ∙ ap (λ b. (b || false) || list_any (λ x. x == g) (flat_map (λ (f : FieldNode). groups_of_field f.kind) fs)) (number_is g)
uses_group (f ∷ fs) (suc i) r g e k =
    list_any-append (λ x. x == g) (groups_of_field f.kind) (flat_map (λ (f : FieldNode). groups_of_field f.kind) fs)
    ∙ or_right (list_any (λ x. x == g) (groups_of_field f.kind)) (list_any (λ x. x == g) (flat_map (λ (f : FieldNode). groups_of_field f.kind) fs)) (uses_group fs i r g e k)

never_group : (offset : ℕ) (u : Ty) (d : Option Value) (g : Shape) → slot_body offset u d ≡ group_slot g → ⊥
never_group offset void d g h = cc h
never_group offset (plain p) d g h = cc h
never_group offset text d g h = cc h
never_group offset blob d g h = cc h
never_group offset untyped d g h = cc h
never_group offset interface d g h = cc h
never_group offset (struct id) d g h = cc h
never_group offset (list ty) d g h = cc h

data IsGroup (groups : ℕ → Shape) (k : FieldKind) (g : Shape) : Type 0 where
  is_group : (id : ℕ) → k ≡ group id → groups id ≡ g → IsGroup groups k g

group_kind : (groups : ℕ → Shape) (k : FieldKind) (g : Shape) → field_body groups k ≡ group_slot g → IsGroup groups k g
group_kind groups (slot offset ty d) g h = absurd (never_group offset (type_of ty) d g h)
group_kind groups (group id) g h = is_group id refl (cc h)

-- a place that is wide enough for a struct is so for a group of it
pub group_wide : (f : Field) (r : FieldNode) → IsFieldRecord f.parent f.index r → (n : StructNode) → IsRecordOf (nodes_around f.parent) (id_of f.parent) n
    → (g : StructSchema) → option_map (λ e. e.body) (entry_of_field f) ≡ Some (group_slot (shape_of_struct g)) → (p : StructPlace) → HoldsShape p (shape_of_struct f.parent) → HoldsShape p (shape_of_struct g)
unfolding schema_of
group_wide f r rec n holder g h p wide = by (group_kind (schema_around f.parent).shape_of r.kind (shape_of_struct g) (same_some (sym (ap (option_map (λ e. e.body)) rec.entry) ∙ h)))
  where
    nodes : List Node
    nodes = nodes_around f.parent

    by : IsGroup (schema_around f.parent).shape_of r.kind (shape_of_struct g) → HoldsShape p (shape_of_struct g)
    by (is_group id kind shape_is) =
        let accepted : IsAccepted nodes = f.parent.set.now.accepted in
        let m = struct_is nodes (id_of f.parent) n holder.found in
        let at : slice_get n.fields f.index ≡ Some r = sym (ap (λ (o : Option StructNode). slice_get (elim o as (λ (p : Option StructNode). List FieldNode) [ None ↦ [] | Some m ↦ m.fields ]) f.index) holder.found) ∙ rec.recorded in
        let uses : list_any (λ x. x == id) (groups_used m.node) ≡ true =
        ap (λ k. list_any (λ x. x == id) (flat_map (λ (f : FieldNode). groups_of_field f.kind) (fields_of_kind k))) m.kind ∙ uses_group n.fields f.index r id at kind in
        let sizes : sizes_of m.node ≡ (n.words, n.pointers) = ap (λ k. elim k as (λ (x : NodeKind). ℕ × ℕ) [ struct_node s ↦ (s.words, s.pointers) | enum_node es ↦ (0, 0) ]) m.kind in
        let small : HasRoom ((schema_of nodes).shape_of id) n.words n.pointers =
        group_room nodes (more_rules nodes accepted) (length nodes) (id_of f.parent) m.node n.words n.pointers id m.found (ap (λ z. z.0) sizes) (ap (λ z. z.1) sizes) uses in
        let here = sizes_are (shape_of_struct g) n.words n.pointers (subst (λ x. HasRoom x n.words n.pointers) shape_is small) in
        wide_within p (shape_of_struct g) (shape_of_struct f.parent)
        (subst (λ x. words_of_shape (shape_of_struct g) ≤ x) (sym (ap words_of_shape holder.shape)) here.0)
        (subst (λ x. pointers_of_shape (shape_of_struct g) ≤ x) (sym (ap pointers_of_shape holder.shape)) here.1) wide
