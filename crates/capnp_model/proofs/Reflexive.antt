-- Every schema is compatible with itself: the pairs are the roots and the structs that fields name.
use Rattle.std.proofs.Common.{◌≡◌, ℕ, zero, suc, Bool, true, false, ◌&&◌, ◌==◌, Option, Some, None, List, [], ◌∷◌, map, length, refl, sym, ◌∙◌, arith}
use Rattle.std.specs.List.{list_all, flat_map}
use Rattle.std.specs.Str.{bytes_eq}
use Rattle.std.specs.Cmp.Derive.{both_true}
use Rattle.std.proofs.lemmas.Bool.{or_left, or_right, eq-eqb, le-leb}
use Rattle.std.proofs.lemmas.Slice.Eq.{bytes_eq-Decides}
use Rattle.std.proofs.lemmas.List.Folds.{list_all-append}
use Rattle.capnp_model.specs.Trees.{Tree}
use Rattle.capnp_model.specs.Encoding.{canonical_words}
use Rattle.capnp_model.specs.Schemas.{PlainType, bool, int, uint, «enum», Ty, void, plain, text, blob, untyped, interface, struct, list, type_of, Value, FieldKind, slot, group, Field, NodeKind, struct_node, enum_node, Node, Shape, shape, Schema}
use Rattle.capnp_model.specs.Accepted.{find_node, fields_of_kind, default_bits, default_tree, slot_body, field_body, fields_from, union_place, no_shape, shape_of_node, shape_in, schema_of}
use Rattle.capnp_model.specs.Compatible.{Pairs, has_pair, same_names, related_plain, related, same_option, member_count, keeps_union, same_default, keeps, keeps_fields, keeps_body, IsCompatible}
use Rattle.capnp_model.specs.InKindCalls.{struct_ids}
use Rattle.capnp_model.proofs.lemmas.KeptRules.{found_passes}
use Rattle.capnp_model.proofs.lemmas.Tests.{number_is, and_left, and_right}

-- ---- the structs that node records name

ids_of_field : FieldKind → List ℕ
ids_of_field (slot offset ty d) = struct_ids (type_of ty)
ids_of_field (group id) = []

ids_of_fields : List Field → List ℕ
ids_of_fields fs = flat_map (λ f. ids_of_field f.kind) fs

ids_of : Node → List ℕ
ids_of n = ids_of_fields (fields_of_kind n.kind)

-- each id with itself
twice : List ℕ → Pairs
twice ids = map (λ i. (i, i)) ids

-- the id is paired with itself
abbrev is_own : Pairs → ℕ → Bool
is_own pairs i = has_pair pairs i i

-- ---- equal parts are related

module _ (s : Schema) (pairs : Pairs) where
  names_self : (xs : List (List ℕ)) → same_names xs xs ≡ true
  names_self [] = refl
  names_self (x ∷ xs) = both_true ((bytes_eq-Decides x x).1 refl) (names_self xs)

  plain_self : (p : PlainType) → related_plain s s p p ≡ true
  plain_self bool = refl
  plain_self (int w) = number_is w
  plain_self (uint w) = number_is w
  plain_self («enum» i) = names_self (s.names_of i)

  related_self : (ty : Ty) → list_all (is_own pairs) (struct_ids ty) ≡ true → related s s pairs ty ty ≡ true
  related_self void h = refl
  related_self (plain p) h = plain_self p
  related_self text h = refl
  related_self blob h = refl
  related_self untyped h = refl
  related_self interface h = refl
  related_self (struct i) h = and_left (has_pair pairs i i) true h
  related_self (list ty) h = related_self ty h

  option_self : (o : Option ℕ) → same_option o o ≡ true
  option_self None = refl
  option_self (Some a) = number_is a

  union_self : (u : Option ℕ) → keeps_union u u ≡ true
  union_self None = refl
  union_self (Some a) = number_is a

  default_self : (d : Option Tree) → same_default d d ≡ true
  default_self None = refl
  default_self (Some t) = (bytes_eq-Decides (canonical_words t) (canonical_words t)).1 refl

  slot_self : (offset : ℕ) (ty : Ty) (d : Option Value) → related s s pairs ty ty ≡ true → keeps_body s s pairs (slot_body offset ty d) (slot_body offset ty d) ≡ true
  unfolding keeps
  slot_self offset void d h = number_is offset
  slot_self offset (plain p) d h = both_true (both_true h (number_is _)) (number_is (default_bits d))
  slot_self offset text d h = both_true (both_true (number_is offset) h) (default_self (default_tree d))
  slot_self offset blob d h = both_true (both_true (number_is offset) h) (default_self (default_tree d))
  slot_self offset untyped d h = both_true (both_true (number_is offset) h) (default_self (default_tree d))
  slot_self offset interface d h = both_true (both_true (number_is offset) h) (default_self (default_tree d))
  slot_self offset (struct i) d h = both_true (both_true (number_is offset) h) (default_self (default_tree d))
  slot_self offset (list ty) d h = both_true (both_true (number_is offset) h) (default_self (default_tree d))

  -- ---- fields, by the shapes of groups

  module _ (groups : ℕ → Shape) (kept : (id : ℕ) → keeps s s pairs (groups id) (groups id) ≡ true) where
    kind_self : (k : FieldKind) → list_all (is_own pairs) (ids_of_field k) ≡ true → keeps_body s s pairs (field_body groups k) (field_body groups k) ≡ true
    unfolding keeps ids_of_field
    kind_self (slot offset ty d) h = slot_self offset (type_of ty) d (related_self (type_of ty) h)
    kind_self (group id) h = kept id

    fields_self : (count : ℕ) (fs : List Field) → list_all (is_own pairs) (ids_of_fields fs) ≡ true → keeps_fields s s pairs count (fields_from groups fs) (fields_from groups fs) ≡ true
    unfolding keeps ids_of_fields
    fields_self count [] h = refl
    fields_self count (f ∷ fs) h = by _ _ (bytes_eq f.name f.name) ((bytes_eq-Decides f.name f.name).1 refl) (both_true (both_true (option_self f.member) (kind_self f.kind here)) (fields_self count fs more))
      where
        split : (list_all (is_own pairs) (ids_of_field f.kind) && list_all (is_own pairs) (flat_map (λ (g : Field). ids_of_field g.kind) fs)) ≡ true
        split = sym (list_all-append (is_own pairs) (ids_of_field f.kind) (flat_map (λ (g : Field). ids_of_field g.kind) fs)) ∙ h

        here : list_all (is_own pairs) (ids_of_field f.kind) ≡ true
        here = and_left (list_all (is_own pairs) (ids_of_field f.kind)) _ split

        more : list_all (is_own pairs) (flat_map (λ (g : Field). ids_of_field g.kind) fs) ≡ true
        more = and_right (list_all (is_own pairs) (ids_of_field f.kind)) _ split

        by : (x y c : Bool) → c ≡ true → x ≡ true → (elim c as (λ (z : Bool). Bool) [ true ↦ x | false ↦ y ]) ≡ true
        by x y true e g = g
        by x y false e g = absurd (cc e)

-- ---- nodes

module _ (nodes : List Node) (pairs : Pairs) (own : list_all (λ n. list_all (is_own pairs) (ids_of n)) nodes ≡ true) where
  kind_of_node_self : (groups : ℕ → Shape) → ((id : ℕ) → keeps (schema_of nodes) (schema_of nodes) pairs (groups id) (groups id) ≡ true) → (nid : ℕ) (k : NodeKind)
      → list_all (is_own pairs) (ids_of_fields (fields_of_kind k)) ≡ true
      → let g : Shape = elim k as (λ (x : NodeKind). Shape) [ struct_node s ↦ shape nid s.words s.pointers (union_place s) (fields_from groups s.fields) | enum_node es ↦ no_shape ] in keeps (schema_of nodes) (schema_of nodes) pairs g g ≡ true
  unfolding keeps
  kind_of_node_self groups kept nid (struct_node s) h =
      both_true (both_true (both_true (le-leb s.words s.words (omega arith)) (le-leb s.pointers s.pointers (omega arith))) (union_self (schema_of nodes) pairs (union_place s)))
      (fields_self (schema_of nodes) pairs groups kept (member_count (fields_from groups s.fields)) s.fields h)
  kind_of_node_self groups kept nid (enum_node es) h = refl

  shape_self : (levels id : ℕ) → keeps (schema_of nodes) (schema_of nodes) pairs (shape_in nodes levels id) (shape_in nodes levels id) ≡ true
  unfolding keeps shape_in ids_of
  shape_self zero id = refl
  shape_self (suc levels) id = by (find_node nodes id) refl (shape_self levels)
    where
      by : (o : Option Node) → find_node nodes id ≡ o → ((i : ℕ) → keeps (schema_of nodes) (schema_of nodes) pairs (shape_in nodes levels i) (shape_in nodes levels i) ≡ true)
          → let g : Shape = shape_of_node (λ i. shape_in nodes levels i) o in keeps (schema_of nodes) (schema_of nodes) pairs g g ≡ true
      by None e kept = refl
      by (Some n) e kept = kind_of_node_self (λ i. shape_in nodes levels i) kept n.id n.kind (found_passes (λ m. list_all (is_own pairs) (ids_of m)) nodes id n own e)

-- ---- the pairs

own_ids : (pairs : Pairs) (ids : List ℕ) → ((i : ℕ) → has_pair (twice ids) i i ≡ true → has_pair pairs i i ≡ true) → list_all (is_own pairs) ids ≡ true
unfolding twice
own_ids pairs [] h = refl
own_ids pairs (x ∷ xs) h = both_true (h x (or_left (x == x && x == x) _ (both_true (number_is x) (number_is x)))) (own_ids pairs xs (λ i k. h i (or_right (x == i && x == i) _ k)))

each_own : (test : ℕ → Bool) (nodes : List Node) → list_all test (flat_map ids_of nodes) ≡ true → list_all (λ n. list_all test (ids_of n)) nodes ≡ true
each_own test [] h = refl
each_own test (n ∷ nodes) h =
    let split : (list_all test (ids_of n) && list_all test (flat_map ids_of nodes)) ≡ true = sym (list_all-append test (ids_of n) (flat_map ids_of nodes)) ∙ h in
    both_true (and_left (list_all test (ids_of n)) _ split) (each_own test nodes (and_right (list_all test (ids_of n)) _ split))

all_twice : (test : ℕ × ℕ → Bool) → ((i : ℕ) → test (i, i) ≡ true) → (ids : List ℕ) → list_all test (twice ids) ≡ true
unfolding twice
all_twice test h [] = refl
all_twice test h (x ∷ xs) = both_true (h x) (all_twice test h xs)

-- THE LAW
pub compatible_with_itself : (nodes : List Node) (id : ℕ) → IsCompatible (schema_of nodes) (schema_of nodes) id id
unfolding schema_of
compatible_with_itself nodes id = record {
  pairs = all;
  same_sort = refl;
  has_roots = or_left (id == id && id == id) _ (both_true (number_is id) (number_is id));
  are_kept = both_true (kept id) (all_twice (λ p. keeps (schema_of nodes) (schema_of nodes) all ((schema_of nodes).shape_of p.0) ((schema_of nodes).shape_of p.1)) kept (flat_map ids_of nodes));
}
  where
    all : Pairs
    all = (id, id) ∷ twice (flat_map ids_of nodes)

    own : list_all (λ n. list_all (is_own all) (ids_of n)) nodes ≡ true
    own = each_own (is_own all) nodes (own_ids all (flat_map ids_of nodes) (λ i k. or_right (id == i && id == i) _ k))

    kept : (i : ℕ) → keeps (schema_of nodes) (schema_of nodes) all (shape_in nodes (length nodes) i) (shape_in nodes (length nodes) i) ≡ true
    kept i = shape_self nodes all own (length nodes) i
