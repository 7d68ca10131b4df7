-- The defaults of plain slots in accepted sets.
use Rattle.std.proofs.Common.{◌≡◌, ℕ, zero, suc, ◌<◌, ◌^◌, nat_lt, true, Option, Some, None, option_map, List, [], ◌∷◌, length, refl, sym, ◌∙◌, ap, subst, arith}
use Rattle.std.specs.List.{list_all}
use Rattle.std.proofs.lemmas.Bool.Decides.{nat_tests}
use Rattle.capnp_model.specs.Schemas.{PlainType, width, Ty, void, plain, text, blob, untyped, interface, struct, list, type_of, Value, no_value, bits, text_bytes, blob_bytes, list_segment, struct_segment, untyped_value, interface_value, FieldKind, slot, group, Field, NodeKind, struct_node, enum_node, Node, Shape, shape, no_fields, plain_slot}
use Rattle.capnp_model.specs.Printing.{fields_in}
use Rattle.capnp_model.specs.Accepted.{find_node, fields_of_kind, slot_body, field_body, fields_from, union_place, no_shape, shape_of_node, shape_in, schema_of, same_plain, is_default_of, has_good_default, IsAccepted}
use Rattle.capnp_model.proofs.lemmas.KeptRules.{found_passes}
use Rattle.capnp_model.proofs.lemmas.SoundRules.{rules_kept}
use Rattle.capnp_values_queries.specs.Fields.{Entry, field_at}
use Rattle.capnp_values_queries.proofs.lemmas.Shapes.{shape_fixed}
use Rattle.capnp_model.proofs.lemmas.Tests.{lt_is, and_left, and_right}

-- the default of a plain slot is of the slot's width
slot_fits : (o : ℕ) (ty : Ty) (d : Option Value) (p : PlainType) (at n : ℕ) → is_default_of ty d ≡ true → slot_body o ty d ≡ plain_slot p at n → n < 2 ^ width p
slot_fits o void d p at n h e = absurd (cc e)
slot_fits o (plain q) None p at n h e = absurd (cc h)
slot_fits o (plain q) (Some no_value) p at n h e = absurd (cc h)
slot_fits o (plain q) (Some (bits r m)) p at n h e =
    let same : q ≡ p = cc e in
    let here : m ≡ n = cc e in
    let few : m < 2 ^ width q = lt_is m (2 ^ width q) (and_right (same_plain q r) (nat_lt m (2 ^ width q)) h) in
    let P : PlainType → Type 0 = λ x. n < 2 ^ width x in
    let Q : ℕ → Type 0 = λ x. x < 2 ^ width q in
    subst P same (subst Q here few)
slot_fits o (plain q) (Some (text_bytes bs)) p at n h e = absurd (cc h)
slot_fits o (plain q) (Some (blob_bytes bs)) p at n h e = absurd (cc h)
slot_fits o (plain q) (Some (list_segment bs)) p at n h e = absurd (cc h)
slot_fits o (plain q) (Some (struct_segment bs)) p at n h e = absurd (cc h)
slot_fits o (plain q) (Some untyped_value) p at n h e = absurd (cc h)
slot_fits o (plain q) (Some interface_value) p at n h e = absurd (cc h)
slot_fits o text d p at n h e = absurd (cc e)
slot_fits o blob d p at n h e = absurd (cc e)
slot_fits o untyped d p at n h e = absurd (cc e)
slot_fits o interface d p at n h e = absurd (cc e)
slot_fits o (struct id) d p at n h e = absurd (cc e)
slot_fits o (list ty) d p at n h e = absurd (cc e)

kind_fits : (groups : ℕ → Shape) (k : FieldKind) (p : PlainType) (at n : ℕ) → has_good_default k ≡ true → field_body groups k ≡ plain_slot p at n → n < 2 ^ width p
kind_fits groups (slot o ty d) p at n h e = slot_fits o (type_of ty) d p at n h e
kind_fits groups (group id) p at n h e = absurd (cc e)

field_fits : (groups : ℕ → Shape) (fs : List Field) (i : ℕ) (p : PlainType) (at n : ℕ) → list_all (λ f. has_good_default f.kind) fs ≡ true → option_map (λ e. e.body) (field_at (fields_from groups fs) i) ≡ Some (plain_slot p at n) → n < 2 ^ width p
field_fits groups [] zero p at n h e = absurd (cc e)
field_fits groups [] (suc i) p at n h e = absurd (cc e)
field_fits groups (f ∷ fs) zero p at n h e =
    let is : field_body groups f.kind ≡ plain_slot p at n = cc e in
    kind_fits groups f.kind p at n (and_left (has_good_default f.kind) (list_all (λ g. has_good_default g.kind) fs) h) is
field_fits groups (f ∷ fs) (suc i) p at n h e = field_fits groups fs i p at n (and_right (has_good_default f.kind) (list_all (λ g. has_good_default g.kind) fs) h) e

abbrev shape_by : (groups : ℕ → Shape) (id : ℕ) (k : NodeKind) → Shape
shape_by groups id k = elim k as (λ (x : NodeKind). Shape) [ struct_node s ↦ shape id s.words s.pointers (union_place s) (fields_from groups s.fields) | enum_node es ↦ no_shape ]

node_fits : (groups : ℕ → Shape) (id : ℕ) (k : NodeKind) (i : ℕ) (p : PlainType) (at n : ℕ) → list_all (λ f. has_good_default f.kind) (fields_of_kind k) ≡ true → option_map (λ e. e.body) (field_at (fields_in (shape_by groups id k)) i) ≡ Some (plain_slot p at n) → n < 2 ^ width p
node_fits groups id (struct_node s) i p at n h e = field_fits groups s.fields i p at n h e
node_fits groups id (enum_node es) zero p at n h e = absurd (cc e)
node_fits groups id (enum_node es) (suc i) p at n h e = absurd (cc e)

-- the default of a plain field of an accepted set is of the field's width
pub default_fits : (nodes : List Node) → IsAccepted nodes → (id i : ℕ) (p : PlainType) (at n : ℕ) → option_map (λ e. e.body) (field_at (fields_in ((schema_of nodes).shape_of id)) i) ≡ Some (plain_slot p at n) → n < 2 ^ width p
unfolding schema_of
default_fits nodes accepted id i p at n e =
    let groups = λ (g : ℕ). shape_in nodes (length nodes) g in
    by groups (find_node nodes id) refl (ap (λ g. option_map (λ (x : Entry). x.body) (field_at (fields_in g) i)) (sym (shape_fixed nodes accepted id)) ∙ e)
  where
    nothing : (j : ℕ) → option_map (λ (x : Entry). x.body) (field_at no_fields j) ≡ Some (plain_slot p at n) → n < 2 ^ width p
    nothing zero k = absurd (cc k)
    nothing (suc j) k = absurd (cc k)

    by : (groups : ℕ → Shape) (o : Option Node) → find_node nodes id ≡ o → option_map (λ (x : Entry). x.body) (field_at (fields_in (shape_of_node groups o)) i) ≡ Some (plain_slot p at n) → n < 2 ^ width p
    by groups None f k = nothing i k
    by groups (Some node) f k = node_fits groups node.id node.kind i p at n (found_passes (λ m. list_all (λ x. has_good_default x.kind) (fields_of_kind m.kind)) nodes id node (rules_kept nodes accepted).defaults f) k
