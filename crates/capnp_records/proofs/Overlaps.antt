-- Overlaps by what each field takes.
use Rattle.std.proofs.Common.{◌≡◌, ℕ, zero, suc, ◌+◌, ◌<◌, ◌-◌, Bool, true, false, not, ◌&&◌, ◌||◌, Option, Some, None, is_some, List, [], ◌∷◌, ◌++◌, map, length, take, get_or, append_assoc, refl, sym, ◌∙◌, ap, arith}
use Rattle.std.specs.List.{list_all}
use Rattle.std.proofs.lemmas.List.{map_more}
use Rattle.std.proofs.lemmas.List.Folds.{list_all-append}
use Rattle.capnp_model.specs.Schemas.{Enumerant, Ty, void, plain, text, blob, untyped, interface, struct, list, Value, group, Field, StructNode, NodeKind, struct_node, enum_node, Node, Shape, shape}
use Rattle.capnp_model.specs.Accepted.{find_node, Area, share, are_apart, union_place, union_area, slot_body, field_body, fields_from, shape_of_node, no_shape, shape_in, areas_of, areas_of_fields, areas_of_body, are_members, is_apart_from, has_no_overlap, fields_are_apart, body_has_no_overlap}
use Rattle.capnp_model.proofs.lemmas.Tests.{and_assoc, and_swap}
use Rattle.capnp_records.specs.NodeViews.{kind_of_field, field_of}
use Rattle.capnp_records.specs.declared.node.FieldRecord.{FieldRecord}
use Rattle.capnp_records.specs.Claims.{claim_in, claims_in, areas_claimed, claims_are_apart, groups_have_no_overlap, IsWrittenOut, IsUnwritten}

pub areas_and_more : (cs : List (Bool × List Area)) (c : Bool × List Area) → areas_claimed (cs ++ c ∷ []) ≡ areas_claimed cs ++ c.1
areas_and_more [] c = append_none c.1
  where
    append_none : (xs : List Area) → xs ++ [] ≡ xs
    append_none [] = refl
    append_none (x ∷ xs) = ap (λ ys. x ∷ ys) (append_none xs)
areas_and_more (d ∷ cs) c = ap (λ as'. d.1 ++ as') (areas_and_more cs c) ∙ sym (append_assoc d.1 (areas_claimed cs) c.1)

-- ---- apart from each of many

apart_append : (xs ys zs : List Area) → are_apart xs (ys ++ zs) ≡ (are_apart xs ys && are_apart xs zs)
apart_append [] ys zs = refl
apart_append (x ∷ xs) ys zs =
    ap (λ b. b && are_apart xs (ys ++ zs)) (list_all-append (λ y. not (share x y)) ys zs)
    ∙ ap (λ b. (list_all (λ y. not (share x y)) ys && list_all (λ y. not (share x y)) zs) && b) (apart_append xs ys zs)
    ∙ and_swap (list_all (λ y. not (share x y)) ys) (list_all (λ y. not (share x y)) zs) (are_apart xs ys) (are_apart xs zs)

apart_none : (xs : List Area) → are_apart xs [] ≡ true
apart_none [] = refl
apart_none (x ∷ xs) = apart_none xs

apart_from_all : (xs : List Area) (cs : List (Bool × List Area)) → are_apart xs (areas_claimed cs) ≡ list_all (λ d. (false && d.0) || are_apart xs d.1) cs
apart_from_all xs [] = apart_none xs
apart_from_all xs (c ∷ cs) = apart_append xs c.1 (areas_claimed cs) ∙ ap (λ b. are_apart xs c.1 && b) (apart_from_all xs cs)

module _ (groups : ℕ → Shape) where
  -- ---- the areas together

  areas_of_all : (fs : List Field) → areas_of_fields (fields_from groups fs) ≡ areas_claimed (map (claim_in groups) fs)
  unfolding areas_of_fields areas_of areas_of_body
  areas_of_all [] = refl
  areas_of_all (f ∷ fs) = ap (λ as'. areas_of_body (field_body groups f.kind) ++ as') (areas_of_all fs)

  areas_of_struct : (nid words pointers : ℕ) (s : StructNode) → areas_of (shape nid words pointers (union_place s) (fields_from groups s.fields)) ≡ areas_claimed (claims_in groups s)
  unfolding areas_of areas_of_fields areas_of_body
  areas_of_struct nid words pointers s = ap (λ as'. union_area (union_place s) ++ as') (areas_of_all s.fields)

  -- ---- the rule

  apart_from_fields : (member : Option ℕ) (xs : List Area) (fs : List Field) → is_apart_from member xs (fields_from groups fs) ≡ list_all (λ d. (is_some member && d.0) || are_apart xs d.1) (map (claim_in groups) fs)
  apart_from_fields member xs [] = refl
  apart_from_fields member xs (f ∷ fs) = ap (λ t. (are_members member f.member || are_apart xs (areas_of_body (field_body groups f.kind))) && t) (apart_from_fields member xs fs)

  fields_apart : (fs : List Field) → fields_are_apart (fields_from groups fs) ≡ (claims_are_apart (map (claim_in groups) fs) && groups_have_no_overlap groups fs)
  unfolding fields_are_apart has_no_overlap body_has_no_overlap
  fields_apart [] = refl
  fields_apart (f ∷ fs) =
      let body = field_body groups f.kind in
      let rest = fields_from groups fs in
      ap (λ t. (is_apart_from f.member (areas_of_body body) rest && body_has_no_overlap body) && t) (fields_apart fs)
      ∙ and_swap (is_apart_from f.member (areas_of_body body) rest) (body_has_no_overlap body) (claims_are_apart (map (claim_in groups) fs)) (groups_have_no_overlap groups fs)
      ∙ ap (λ t. (t && claims_are_apart (map (claim_in groups) fs)) && (body_has_no_overlap body && groups_have_no_overlap groups fs)) (apart_from_fields f.member (areas_of_body body) fs)

  apart_in_struct : (nid words pointers : ℕ) (s : StructNode) → has_no_overlap (shape nid words pointers (union_place s) (fields_from groups s.fields)) ≡ (claims_are_apart (claims_in groups s) && groups_have_no_overlap groups s.fields)
  unfolding has_no_overlap fields_are_apart body_has_no_overlap
  apart_in_struct nid words pointers s =
      let own = union_area (union_place s) in
      let fs = s.fields in
      ap (λ t. are_apart own (areas_of_fields (fields_from groups fs)) && t) (fields_apart fs)
      ∙ sym (and_assoc (are_apart own (areas_of_fields (fields_from groups fs))) (claims_are_apart (map (claim_in groups) fs)) (groups_have_no_overlap groups fs))
      ∙ ap (λ t. (t && claims_are_apart (map (claim_in groups) fs)) && groups_have_no_overlap groups fs) (ap (are_apart own) (areas_of_all fs) ∙ apart_from_all own (map (claim_in groups) fs))

  -- ---- field by field

  joined : (cs ds : List Field) → map (claim_in groups) (cs ++ ds) ≡ map (claim_in groups) cs ++ map (claim_in groups) ds
  joined [] ds = refl
  joined (c ∷ cs) ds = ap (λ as'. claim_in groups c ∷ as') (joined cs ds)

  pub areas_one_more : (fs : List FieldRecord) (i : ℕ) (x : FieldRecord) → i < length fs → x ≡ get_or fs i x
      → areas_claimed (map (claim_in groups) (map field_of (take (i + 1) fs))) ≡ areas_claimed (map (claim_in groups) (map field_of (take i fs))) ++ areas_of_body (field_body groups (kind_of_field x.body))
  areas_one_more fs i x lt is =
      let grown : map field_of (take (i + 1) fs) ≡ map field_of (take i fs) ++ field_of x ∷ [] = map_more field_of fs i x lt ∙ ap (λ y. map field_of (take i fs) ++ field_of y ∷ []) (sym is) in
      ap (λ l. areas_claimed (map (claim_in groups) l)) grown
      ∙ ap areas_claimed (joined (map field_of (take i fs)) (field_of x ∷ []))
      ∙ areas_and_more (map (claim_in groups) (map field_of (take i fs))) (claim_in groups (field_of x))

-- ---- what an id is written out as

empty_areas : areas_of no_shape ≡ []
unfolding areas_of areas_of_fields areas_of_body
empty_areas = refl

empty_apart : has_no_overlap no_shape ≡ true
unfolding has_no_overlap fields_are_apart areas_of areas_of_fields areas_of_body body_has_no_overlap
empty_apart = refl

unwritten : (nodes : List Node) (levels id : ℕ) → shape_in nodes levels id ≡ no_shape → IsUnwritten nodes levels id
unwritten nodes levels id e = record { areas = ap areas_of e ∙ empty_areas; apart = ap has_no_overlap e ∙ empty_apart }

pub no_levels : (nodes : List Node) (levels id : ℕ) → levels ≡ 0 → IsUnwritten nodes levels id
unfolding shape_in
no_levels nodes zero id h = unwritten nodes zero id refl
no_levels nodes (suc levels) id h = absurd (omega arith)

pub no_node : (nodes : List Node) (levels id : ℕ) → find_node nodes id ≡ None → IsUnwritten nodes levels id
unfolding shape_in
no_node nodes zero id h = unwritten nodes zero id refl
no_node nodes (suc levels) id h = unwritten nodes (suc levels) id (ap (shape_of_node (λ g. shape_in nodes levels g)) h)

kind_shape : (groups : ℕ → Shape) (n : Node) (k : NodeKind) → Shape
kind_shape groups n k = elim k as (λ (x : NodeKind). Shape) [ struct_node s ↦ shape n.id s.words s.pointers (union_place s) (fields_from groups s.fields) | enum_node es ↦ no_shape ]

pub no_struct : (nodes : List Node) (levels id : ℕ) (n : Node) → find_node nodes id ≡ Some n → (es : List Enumerant) → n.kind ≡ enum_node es → IsUnwritten nodes levels id
unfolding shape_in kind_shape
no_struct nodes zero id n h es k = unwritten nodes zero id refl
no_struct nodes (suc levels) id n h es k = unwritten nodes (suc levels) id (ap (shape_of_node (λ g. shape_in nodes levels g)) h ∙ ap (kind_shape (λ g. shape_in nodes levels g) n) k)

pub written : (nodes : List Node) (levels id : ℕ) (n : Node) (s : StructNode) → 0 < levels → find_node nodes id ≡ Some n → n.kind ≡ struct_node s → IsWrittenOut nodes levels id s
unfolding shape_in kind_shape
written nodes zero id n s d h k = absurd (omega arith)
written nodes (suc levels) id n s d h k =
    let groups : ℕ → Shape = λ g. shape_in nodes levels g in
    let e : shape_in nodes (suc levels) id ≡ shape n.id s.words s.pointers (union_place s) (fields_from groups s.fields) = ap (shape_of_node groups) h ∙ ap (kind_shape groups n) k in
    let less : suc levels - 1 ≡ levels = omega arith in
    record {
      deep = d;
      areas = ap areas_of e ∙ areas_of_struct groups n.id s.words s.pointers s ∙ ap (λ (l : ℕ). areas_claimed (claims_in (λ g. shape_in nodes l g) s)) (sym less);
      apart = ap has_no_overlap e ∙ apart_in_struct groups n.id s.words s.pointers s ∙ ap (λ (l : ℕ). claims_are_apart (claims_in (λ g. shape_in nodes l g) s) && groups_have_no_overlap (λ g. shape_in nodes l g) s.fields) (sym less);
    }

-- ---- fields

-- a slot has no overlap in itself, a group those of its shape
pub slot_body_apart : (offset : ℕ) (t : Ty) (d : Option Value) → body_has_no_overlap (slot_body offset t d) ≡ true
unfolding body_has_no_overlap has_no_overlap
slot_body_apart offset void d = refl
slot_body_apart offset (plain p) d = refl
slot_body_apart offset text d = refl
slot_body_apart offset blob d = refl
slot_body_apart offset untyped d = refl
slot_body_apart offset interface d = refl
slot_body_apart offset (struct id) d = refl
slot_body_apart offset (list t) d = refl

pub group_apart : (groups : ℕ → Shape) (id : ℕ) → body_has_no_overlap (field_body groups (group id)) ≡ has_no_overlap (groups id)
unfolding body_has_no_overlap has_no_overlap
group_apart groups id = refl

pub group_areas : (groups : ℕ → Shape) (id : ℕ) → areas_of_body (field_body groups (group id)) ≡ areas_of (groups id)
unfolding areas_of_body areas_of
group_areas groups id = refl

pub ruleset fields = (slot_body_apart, group_apart, group_areas)
