-- Accepted node records make fine schemas.
use Rattle.std.proofs.Common.{◌≡◌, ℕ, zero, suc, ◌+◌, ◌*◌, ◌^◌, ◌<◌, ◌≤◌, Bool, true, false, not, ◌&&◌, ◌||◌, ◌==◌, nat_lt, nat_le, if◌then◌else◌, Option, Some, None, List, [], ◌∷◌, length, map, refl, sym, ◌∙◌, ap, arith}
use Rattle.std.specs.List.{list_all, list_any, filter_map, cons_option, flat_map}
use Rattle.std.specs.Str.{bytes_eq}
use Rattle.std.proofs.lemmas.Slice.Eq.{bytes_eq-Decides}
use Rattle.std.proofs.lemmas.List.Folds.{list_all-append}
use Rattle.capnp_model.specs.Schemas.{PlainType, width, Ty, void, plain, text, blob, untyped, interface, struct, list, BaseType, base_type, lists_of, type_of, Value, no_value, bits, text_bytes, blob_bytes, list_segment, struct_segment, untyped_value, interface_value, FieldKind, slot, group, Field, StructNode, NodeKind, struct_node, enum_node, Node, Shape, shape, field, Schema}
use Rattle.capnp_model.specs.Accepted.{find_node, fields_of_kind, names_of_kind, on_struct, slot_types, types_in, is_group_node, is_struct_node, names_a, slot_body, field_body, fields_from, default_bits, union_place, no_shape, shape_of_node, shape_in, schema_of, annotation_lists, annotations_in, groups_used, is_short, is_empty_name, are_distinct, has_good_names, names_its_sort, has_good_ids, members_of, are_once, has_good_union, has_no_overlap, areas_of, same_plain, is_default_of, has_good_default, IsAccepted}
use Rattle.capnp_model.proofs.lemmas.SoundShapes.{IsFineSchema}
use Rattle.capnp_model.proofs.lemmas.KeptRules.{and_three, behind, no_break, found_passes}
use Rattle.capnp_model.proofs.lemmas.FineShapes.{HasUnion, IsGoodMember, IsNewName, IsNewMember, IsGood, AreGood, IsGoodBody, fine_shape}
use Rattle.capnp_model.proofs.lemmas.Tests.{and_left, and_right}

-- what each node keeps
pub record RulesKept (nodes : List Node) : Type 0 where
  pub short : list_all is_short nodes ≡ true
  pub names : list_all has_good_names nodes ≡ true
  pub ids : list_all (has_good_ids nodes) nodes ≡ true
  pub unions : list_all (on_struct has_good_union) nodes ≡ true
  pub apart : list_all (λ n. not (is_struct_node n) || has_no_overlap (shape_in nodes (length nodes) n.id)) nodes ≡ true
  pub defaults : list_all (λ n. list_all (λ f. has_good_default f.kind) (fields_of_kind n.kind)) nodes ≡ true

pub rules_kept : (nodes : List Node) → IsAccepted nodes → RulesKept nodes
rules_kept nodes h =
    let a = behind nodes 1 11 h in
    let b = behind nodes 2 10 a.1 in
    let c = behind nodes 3 9 b.1 in
    let d = behind nodes 4 8 c.1 in
    let e = behind nodes 5 7 d.1 in
    let f = behind nodes 6 6 e.1 in
    let g = behind nodes 7 5 f.1 in
    let i = behind nodes 8 4 g.1 in
    let j = behind nodes 9 3 i.1 in
    let k = behind nodes 10 2 j.1 in
    record {
      short = no_break is_short [] 0 nodes b.0;
      names = no_break has_good_names [] 0 nodes c.0;
      ids = no_break (has_good_ids nodes) [] 0 nodes e.0;
      unions = no_break (on_struct has_good_union) [] 0 nodes g.0;
      apart = no_break (λ n. not (is_struct_node n) || has_no_overlap (shape_in nodes (length nodes) n.id)) [] 0 nodes j.0;
      defaults = no_break (λ n. list_all (λ f. has_good_default f.kind) (fields_of_kind n.kind)) [] 0 nodes k.0;
    }

-- ---- names and members

not_or : (a b : Bool) → not (a || b) ≡ true → (a ≡ false) × (not b ≡ true)
not_or false b h = (refl, h)
not_or true b h = absurd (cc h)

pub other_name : (k l : List ℕ) → bytes_eq l k ≡ false → bytes_eq k l ≡ false
other_name k l h = by (bytes_eq k l) refl
  where
    by : (b : Bool) → bytes_eq k l ≡ b → bytes_eq k l ≡ false
    by false e = e
    by true e = let same : k ≡ l = (bytes_eq-Decides k l).0 e in let true_too : bytes_eq l k ≡ true = (bytes_eq-Decides l k).1 (sym same) in absurd (cc (sym h ∙ true_too))

new_name : (groups : ℕ → Shape) (l : List ℕ) (fs : List Field) → not (list_any (bytes_eq l) (map (λ f. f.name) fs)) ≡ true → IsNewName l (fields_from groups fs)
new_name groups l [] h = tt
new_name groups l (f ∷ fs) h = let both = not_or (bytes_eq l f.name) (list_any (bytes_eq l) (map (λ g. g.name) fs)) h in (other_name f.name l both.0, new_name groups l fs both.1)

other_number : (m k : ℕ) → (m == k) ≡ false → (k == m) ≡ false
other_number m k h = by (k == m) refl
  where
    by : (b : Bool) → (k == m) ≡ b → (k == m) ≡ false
    by false e = e
    by true e = absurd (grind arith)

new_number : (groups : ℕ → Shape) (k : ℕ) (fs : List Field) → not (list_any (λ j. j == k) (filter_map (λ f. f.member) fs)) ≡ true → IsNewMember (Some k) (fields_from groups fs)
new_number groups k [] h = tt
new_number groups k (f ∷ fs) h = by f.member (new_number groups k fs) h
  where
    by : (o : Option ℕ) → (not (list_any (λ j. j == k) (filter_map (λ (g : Field). g.member) fs)) ≡ true → IsNewMember (Some k) (fields_from groups fs)) → not (list_any (λ j. j == k) (cons_option o (filter_map (λ (g : Field). g.member) fs))) ≡ true → IsNewMember (Some k) (field f.name o (field_body groups f.kind) (fields_from groups fs))
    by None more g = more g
    by (Some m) more g = let both = not_or (m == k) (list_any (λ j. j == k) (filter_map (λ (x : Field). x.member) fs)) g in (both.0, other_number m k both.0, more both.1)

-- ---- slots

good_bits : (p : PlainType) (v : Value) → is_default_of (plain p) (Some v) ≡ true → default_bits (Some v) < 2 ^ width p
good_bits p (bits q n) h = let small : nat_lt n (2 ^ width p) ≡ true = and_right (same_plain p q) (nat_lt n (2 ^ width p)) h in grind arith
good_bits p no_value h = absurd (cc h)
good_bits p (text_bytes bs) h = absurd (cc h)
good_bits p (blob_bytes bs) h = absurd (cc h)
good_bits p (list_segment bs) h = absurd (cc h)
good_bits p (struct_segment bs) h = absurd (cc h)
good_bits p untyped_value h = absurd (cc h)
good_bits p interface_value h = absurd (cc h)

good_default : (p : PlainType) (d : Option Value) → is_default_of (plain p) d ≡ true → default_bits d < 2 ^ width p
good_default p None h = absurd (cc h)
good_default p (Some v) h = good_bits p v h

module _ (s : Schema) where
  good_slot_body : (offset : ℕ) (t : Ty) (d : Option Value) → is_default_of t d ≡ true → ((id : ℕ) → t ≡ struct id → s.is_group id ≡ false) → IsGoodBody s (slot_body offset t d)
  good_slot_body offset void d h k = tt
  good_slot_body offset (plain p) d h k = good_default p d h
  good_slot_body offset text d h k = (tt, k)
  good_slot_body offset blob d h k = (tt, k)
  good_slot_body offset untyped d h k = (tt, k)
  good_slot_body offset interface d h k = (tt, k)
  good_slot_body offset (struct id) d h k = (tt, k)
  good_slot_body offset (list t) d h k = (tt, k)

-- ---- types

base_is : (b : BaseType) (id : ℕ) → base_type b ≡ struct id → b ≡ BaseType.Struct id
base_is BaseType.Void id h = absurd (cc h)
base_is BaseType.Boolean id h = absurd (cc h)
base_is BaseType.Int8 id h = absurd (cc h)
base_is BaseType.Int16 id h = absurd (cc h)
base_is BaseType.Int32 id h = absurd (cc h)
base_is BaseType.Int64 id h = absurd (cc h)
base_is BaseType.UInt8 id h = absurd (cc h)
base_is BaseType.UInt16 id h = absurd (cc h)
base_is BaseType.UInt32 id h = absurd (cc h)
base_is BaseType.UInt64 id h = absurd (cc h)
base_is BaseType.Float32 id h = absurd (cc h)
base_is BaseType.Float64 id h = absurd (cc h)
base_is BaseType.Text id h = absurd (cc h)
base_is BaseType.Data id h = absurd (cc h)
base_is (BaseType.Enum i) id h = absurd (cc h)
base_is (BaseType.Struct i) id h = cc
base_is BaseType.AnyPointer id h = absurd (cc h)
base_is BaseType.Capability id h = absurd (cc h)

type_is : (c : ℕ) (b : BaseType) (id : ℕ) → lists_of c (base_type b) ≡ struct id → b ≡ BaseType.Struct id
type_is zero b id h = base_is b id h
type_is (suc c) b id h = absurd (cc h)

pub no_group_kind : (k : NodeKind) → (elim k as (λ (x : NodeKind). Bool) [ struct_node s ↦ not s.is_group | enum_node es ↦ false ]) ≡ true → (elim k as (λ (x : NodeKind). Bool) [ struct_node s ↦ s.is_group | enum_node es ↦ false ]) ≡ false
no_group_kind (struct_node s) h = by s.is_group h
  where
    by : (b : Bool) → not b ≡ true → b ≡ false
    by false g = refl
    by true g = absurd (cc g)
no_group_kind (enum_node es) h = refl

pub no_group : (nodes : List Node) (id : ℕ) → names_a is_struct_node nodes id ≡ true → names_a is_group_node nodes id ≡ false
no_group nodes id h = by (find_node nodes id) h
  where
    by : (o : Option Node) → (elim o as (λ (x : Option Node). Bool) [ None ↦ false | Some n ↦ is_struct_node n ]) ≡ true → (elim o as (λ (x : Option Node). Bool) [ None ↦ false | Some n ↦ is_group_node n ]) ≡ false
    by None g = refl
    by (Some n) g = no_group_kind n.kind g

-- ---- fields

module _ (nodes : List Node) (groups : ℕ → Shape) (good : (id : ℕ) → IsGood (schema_of nodes) (groups id)) (u : Option ℕ) (count : ℕ) (bound : (k : ℕ) → nat_lt k count ≡ true → HasUnion u × (k < 2 ^ 16)) where
  good_kind : (k : FieldKind) → has_good_default k ≡ true → list_all (λ t. names_its_sort nodes t.base) (slot_types k) ≡ true → IsGoodBody (schema_of nodes) (field_body groups k)
  unfolding schema_of
  good_kind (slot offset ty d) h k =
      good_slot_body (schema_of nodes) offset (type_of ty) d h
      (λ id e. no_group nodes id (ap (names_its_sort nodes) (sym (type_is ty.list_count ty.base id e)) ∙ and_left (names_its_sort nodes ty.base) true k))
  good_kind (group id) h k = good id

  good_member : (o : Option ℕ) (rest : List ℕ) → list_all (λ m. nat_lt m count) (cons_option o rest) ≡ true → IsGoodMember u o × (list_all (λ m. nat_lt m count) rest ≡ true)
  good_member None rest h = (tt, h)
  good_member (Some k) rest h = (bound k (and_left (nat_lt k count) (list_all (λ m. nat_lt m count) rest) h), and_right (nat_lt k count) (list_all (λ m. nat_lt m count) rest) h)

  once : (o : Option ℕ) (fs : List Field) → are_once (cons_option o (filter_map (λ (g : Field). g.member) fs)) ≡ true → IsNewMember o (fields_from groups fs) × (are_once (filter_map (λ (g : Field). g.member) fs) ≡ true)
  once None fs h = (tt, h)
  once (Some k) fs h =
      let rest = filter_map (λ (g : Field). g.member) fs in
      (new_number groups k fs (and_left (not (list_any (λ j. j == k) rest)) (are_once rest) h), and_right (not (list_any (λ j. j == k) rest)) (are_once rest) h)

  good_fields : (fs : List Field) → are_distinct (map (λ f. f.name) fs) ≡ true → list_all (λ m. nat_lt m count) (filter_map (λ (f : Field). f.member) fs) ≡ true → are_once (filter_map (λ (f : Field). f.member) fs) ≡ true
      → list_all (λ (f : Field). has_good_default f.kind) fs ≡ true → list_all (λ t. names_its_sort nodes t.base) (flat_map (λ (f : Field). slot_types f.kind) fs) ≡ true → AreGood (schema_of nodes) u (fields_from groups fs)
  good_fields [] names members o defaults types = tt
  good_fields (f ∷ fs) names members o defaults types =
      let new = and_left (not (list_any (bytes_eq f.name) (map (λ g. g.name) fs))) (are_distinct (map (λ g. g.name) fs)) names in
      let names' = and_right (not (list_any (bytes_eq f.name) (map (λ g. g.name) fs))) (are_distinct (map (λ g. g.name) fs)) names in
      let member = good_member f.member (filter_map (λ (g : Field). g.member) fs) members in
      let ones = once f.member fs o in
      let rest = flat_map (λ (g : Field). slot_types g.kind) fs in
      let both : (list_all (λ t. names_its_sort nodes t.base) (slot_types f.kind) && list_all (λ t. names_its_sort nodes t.base) rest) ≡ true = sym (list_all-append (λ t. names_its_sort nodes t.base) (slot_types f.kind) rest) ∙ types in (
        member.0,
        new_name groups f.name fs new,
        ones.0,
        good_kind f.kind (and_left (has_good_default f.kind) (list_all (λ (g : Field). has_good_default g.kind) fs) defaults) (and_left (list_all (λ t. names_its_sort nodes t.base) (slot_types f.kind)) (list_all (λ t. names_its_sort nodes t.base) rest) both),
        good_fields fs names' member.1 ones.1 (and_right (has_good_default f.kind) (list_all (λ (g : Field). has_good_default g.kind) fs) defaults) (and_right (list_all (λ t. names_its_sort nodes t.base) (slot_types f.kind)) (list_all (λ t. names_its_sort nodes t.base) rest) both),
      )

-- ---- nodes

members_le : (fs : List Field) → length (filter_map (λ (f : Field). f.member) fs) ≤ length (map (λ f. f.name) fs)
members_le [] = omega arith
members_le (f ∷ fs) = by f.member (filter_map (λ (g : Field). g.member) fs) (members_le fs)
  where
    by : (o : Option ℕ) (rest : List ℕ) → length rest ≤ length (map (λ (g : Field). g.name) fs) → length (cons_option o rest) ≤ suc (length (map (λ (g : Field). g.name) fs))
    by None rest h = omega arith
    by (Some k) rest h = omega arith

bound_of : (s : StructNode) → has_good_union s ≡ true → nat_le (length (map (λ f. f.name) s.fields)) 65535 ≡ true → (k : ℕ) → nat_lt k s.discriminant_count ≡ true → HasUnion (union_place s) × (k < 2 ^ 16)
bound_of s h short k less = (by (s.discriminant_count == 0) refl, small)
  where
    by : (b : Bool) → (s.discriminant_count == 0) ≡ b → HasUnion (if b then None else Some (16 * s.discriminant_offset))
    by true e = absurd (grind arith)
    by false e = tt

    three : ((length (members_of s) == s.discriminant_count) ≡ true) × ((list_all (λ m. nat_lt m s.discriminant_count) (members_of s) && are_once (members_of s)) ≡ true) × ((s.discriminant_count == 0 || nat_le (16 * (s.discriminant_offset + 1)) (64 * s.words)) ≡ true)
    three = and_three (length (members_of s) == s.discriminant_count) (list_all (λ m. nat_lt m s.discriminant_count) (members_of s) && are_once (members_of s)) (s.discriminant_count == 0 || nat_le (16 * (s.discriminant_offset + 1)) (64 * s.words)) h

    less_is : (a b : ℕ) → nat_lt a b ≡ true → a < b
    less_is a b g = grind arith

    le_is : (a b : ℕ) → nat_le a b ≡ true → a ≤ b
    le_is a b g = grind arith

    same : (a b : ℕ) → (a == b) ≡ true → a ≡ b
    same a b g = grind arith

    small : k < 2 ^ 16
    small = let a = less_is k s.discriminant_count less in let b = same (length (members_of s)) s.discriminant_count three.0 in let c = le_is (length (map (λ f. f.name) s.fields)) 65535 short in let d = members_le s.fields in omega arith

good_struct : (nodes : List Node) (groups : ℕ → Shape) → ((id : ℕ) → IsGood (schema_of nodes) (groups id)) → (s : StructNode) → nat_le (length (map (λ f. f.name) s.fields)) 65535 ≡ true → are_distinct (map (λ f. f.name) s.fields) ≡ true
    → list_all (λ t. names_its_sort nodes t.base) (flat_map (λ (f : Field). slot_types f.kind) s.fields) ≡ true → has_good_union s ≡ true → list_all (λ (f : Field). has_good_default f.kind) s.fields ≡ true
    → AreGood (schema_of nodes) (union_place s) (fields_from groups s.fields)
good_struct nodes groups good s short names types union defaults =
    let three = and_three (length (members_of s) == s.discriminant_count) (list_all (λ m. nat_lt m s.discriminant_count) (members_of s) && are_once (members_of s)) (s.discriminant_count == 0 || nat_le (16 * (s.discriminant_offset + 1)) (64 * s.words)) union in
    good_fields nodes groups good (union_place s) s.discriminant_count (bound_of s union short) s.fields names
    (and_left (list_all (λ m. nat_lt m s.discriminant_count) (members_of s)) (are_once (members_of s)) three.1)
    (and_right (list_all (λ m. nat_lt m s.discriminant_count) (members_of s)) (are_once (members_of s)) three.1) defaults types

good_node : (nodes : List Node) (groups : ℕ → Shape) → ((id : ℕ) → IsGood (schema_of nodes) (groups id)) → (own : ℕ) → (k : NodeKind) → nat_le (length (names_of_kind k)) 65535 ≡ true → are_distinct (names_of_kind k) ≡ true
    → list_all (λ t. names_its_sort nodes t.base) (flat_map (λ (f : Field). slot_types f.kind) (fields_of_kind k)) ≡ true → (elim k as (λ (x : NodeKind). Bool) [ struct_node s ↦ has_good_union s | enum_node es ↦ true ]) ≡ true
    → list_all (λ (f : Field). has_good_default f.kind) (fields_of_kind k) ≡ true
    → IsGood (schema_of nodes) (elim k as (λ (x : NodeKind). Shape) [ struct_node s ↦ shape own s.words s.pointers (union_place s) (fields_from groups s.fields) | enum_node es ↦ no_shape ])
good_node nodes groups good own (struct_node s) short names types union defaults = good_struct nodes groups good s short names types union defaults
good_node nodes groups good own (enum_node es) short names types union defaults = tt

pub found_id : (ns : List Node) (id : ℕ) (n : Node) → find_node ns id ≡ Some n → n.id ≡ id
found_id [] id n e = absurd (cc e)
found_id (m ∷ ns) id n e = by (m.id == id) refl (found_id ns id n) e
  where
    by : (b : Bool) → (m.id == id) ≡ b → (find_node ns id ≡ Some n → n.id ≡ id) → (if b then Some m else find_node ns id) ≡ Some n → n.id ≡ id
    by true same more k = let is : m ≡ n = cc in let number : m.id ≡ id = grind arith in ap (λ (x : Node). x.id) (sym is) ∙ number
    by false same more k = more k

module _ (nodes : List Node) (r : RulesKept nodes) where
  found_good : (groups : ℕ → Shape) → ((id : ℕ) → IsGood (schema_of nodes) (groups id)) → (id : ℕ) (n : Node) → find_node nodes id ≡ Some n → IsGood (schema_of nodes) (shape_of_node groups (Some n))
  found_good groups good id n e =
      let short = found_passes is_short nodes id n r.short e in
      let names = found_passes has_good_names nodes id n r.names e in
      let ids = found_passes (has_good_ids nodes) nodes id n r.ids e in
      let types = and_left (list_all (λ t. names_its_sort nodes t.base) (types_in n)) (list_all (names_a is_group_node nodes) (groups_used n)) ids in
      let slots = flat_map (λ (f : Field). slot_types f.kind) (fields_of_kind n.kind) in
      let others = map (λ a. a.type) (annotations_in n) in
      let both : (list_all (λ t. names_its_sort nodes t.base) slots && list_all (λ t. names_its_sort nodes t.base) others) ≡ true = sym (list_all-append (λ t. names_its_sort nodes t.base) slots others) ∙ types in
      good_node nodes groups good n.id n.kind
      (and_left (nat_le (length (names_of_kind n.kind)) 65535) (list_all (λ l. nat_lt (length l) (2 ^ 29)) (annotation_lists n)) short)
      (and_left (are_distinct (names_of_kind n.kind)) (list_all (λ m. not (is_empty_name m)) (names_of_kind n.kind)) names)
      (and_left (list_all (λ t. names_its_sort nodes t.base) slots) (list_all (λ t. names_its_sort nodes t.base) others) both)
      (found_passes (on_struct has_good_union) nodes id n r.unions e)
      (found_passes (λ m. list_all (λ f. has_good_default f.kind) (fields_of_kind m.kind)) nodes id n r.defaults e)

  pub good_shape : (levels id : ℕ) → IsGood (schema_of nodes) (shape_in nodes levels id)
  unfolding shape_in
  good_shape zero id = tt
  good_shape (suc levels) id = by (find_node nodes id) refl (good_shape levels)
    where
      by : (o : Option Node) → find_node nodes id ≡ o → ((i : ℕ) → IsGood (schema_of nodes) (shape_in nodes levels i)) → IsGood (schema_of nodes) (shape_of_node (λ g. shape_in nodes levels g) o)
      by None e good = tt
      by (Some n) e good = found_good (λ g. shape_in nodes levels g) good id n e

  -- what is no struct has no fields
  bare : (levels id : ℕ) (o : Option Node) → find_node nodes id ≡ o → ((groups : ℕ → Shape) → shape_of_node groups o ≡ no_shape) → has_no_overlap (shape_in nodes levels id) ≡ true
  unfolding shape_in has_no_overlap areas_of
  bare zero id o e h = refl
  bare (suc levels) id o e h = ap (λ z. has_no_overlap (shape_of_node (λ g. shape_in nodes levels g) z)) e ∙ ap has_no_overlap (h (λ g. shape_in nodes levels g))

  pub apart : (id : ℕ) → names_a is_group_node nodes id ≡ false → has_no_overlap (shape_in nodes (length nodes) id) ≡ true
  apart id h = by (find_node nodes id) refl h
    where
      by_kind : (n : Node) → find_node nodes id ≡ Some n → (k : NodeKind) → n.kind ≡ k → is_group_node n ≡ false → has_no_overlap (shape_in nodes (length nodes) id) ≡ true
      by_kind n e (enum_node es) q g = bare (length nodes) id (Some n) e (λ groups. ap (λ (x : NodeKind). elim x as (λ (y : NodeKind). Shape) [ struct_node s ↦ shape n.id s.words s.pointers (union_place s) (fields_from groups s.fields) | enum_node ws ↦ no_shape ]) q)
      by_kind n e (struct_node s) q g =
          let kind : is_struct_node n ≡ not (is_group_node n) = ap (λ (x : NodeKind). elim x as (λ (y : NodeKind). Bool) [ struct_node t ↦ not t.is_group | enum_node ws ↦ false ]) q ∙ sym (ap (λ (x : NodeKind). not (elim x as (λ (y : NodeKind). Bool) [ struct_node t ↦ t.is_group | enum_node ws ↦ false ])) q) in
          let is : is_struct_node n ≡ true = kind ∙ ap not g in
          let all : (not (is_struct_node n) || has_no_overlap (shape_in nodes (length nodes) n.id)) ≡ true = found_passes (λ m. not (is_struct_node m) || has_no_overlap (shape_in nodes (length nodes) m.id)) nodes id n r.apart e in
          let here : has_no_overlap (shape_in nodes (length nodes) n.id) ≡ true = ap (λ (b : Bool). not b || has_no_overlap (shape_in nodes (length nodes) n.id)) (sym is) ∙ all in
          ap (λ i. has_no_overlap (shape_in nodes (length nodes) i)) (sym (found_id nodes id n e)) ∙ here

      by : (o : Option Node) → find_node nodes id ≡ o → (elim o as (λ (x : Option Node). Bool) [ None ↦ false | Some n ↦ is_group_node n ]) ≡ false → has_no_overlap (shape_in nodes (length nodes) id) ≡ true
      by None e g = bare (length nodes) id None e (λ groups. refl)
      by (Some n) e g = by_kind n e n.kind refl g

-- THE LAW
pub accepted_is_fine : (nodes : List Node) → IsAccepted nodes → IsFineSchema (schema_of nodes)
unfolding schema_of
accepted_is_fine nodes h id g = let r = rules_kept nodes h in fine_shape (schema_of nodes) (shape_in nodes (length nodes) id) (good_shape nodes r (length nodes) id) (apart nodes r id g)
