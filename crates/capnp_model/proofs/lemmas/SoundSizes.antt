-- Accepted node records: types have sizes of their own, and every area lies in its struct's sections.
use Rattle.std.proofs.Common.{◌≡◌, ℕ, zero, suc, ◌+◌, ◌*◌, ◌<◌, ◌≤◌, Bool, true, false, not, ◌&&◌, ◌||◌, ◌==◌, ◌⊎◌, inl, inr, nat_lt, nat_le, cond, if◌then◌else◌, Option, Some, None, List, [], ◌∷◌, ◌++◌, length, map, refl, sym, ◌∙◌, ap, subst, arith}
use Rattle.std.specs.List.{list_all, list_any, flat_map, count_by}
use Rattle.std.proofs.lemmas.List.Folds.{list_all-append, list_any-append}
use Rattle.std.proofs.lemmas.List.Sums.{sum_by-cons, sum_by-append}
use Rattle.capnp_model.specs.Trees.{size_bits, size_of_width}
use Rattle.capnp_model.specs.Schemas.{width, Ty, void, plain, text, blob, untyped, interface, struct, list, BaseType, base_type, lists_of, type_of, Value, FieldKind, slot, group, Field, StructNode, NodeKind, struct_node, enum_node, Node, Shape, shape, Fields, Body}
use Rattle.capnp_model.specs.Accepted.{Area, bit_area, pointer_area, union_area, areas_of, areas_of_fields, areas_of_body, find_node, fields_of_kind, on_struct, slot_types, types_in, groups_of_field, groups_used, is_group_node, names_a, slot_body, field_body, fields_from, union_place, no_shape, shape_of_node, shape_in, schema_of, annotations_in, names_its_sort, has_good_ids, uses_of, holder_of, sizes_of, fits_in, meets_below, is_good_group, members_of, are_once, has_good_union, is_inside, has_its_place, has_places, IsAccepted}
use Rattle.capnp_model.proofs.lemmas.KeptRules.{and_three, behind, no_break, found_passes}
use Rattle.capnp_model.proofs.lemmas.SoundRules.{RulesKept, rules_kept, no_group, found_id}
use Rattle.capnp_model.proofs.lemmas.ListElements.{IsReal, HasRoom}
use Rattle.capnp_model.proofs.lemmas.ReachedStructs.{AreReal, FieldsReal, BodyReal, AllInside, IsWithin}
use Rattle.capnp_model.proofs.lemmas.Tests.{number_is, lt_is, le_is, or_right, and_left, and_right}

-- ---- types

-- an id of a struct that is no group
abbrev pub IsNoGroup : List Node → ℕ → Type 0
IsNoGroup nodes id = names_a is_group_node nodes id ≡ false

real_base : (nodes : List Node) (b : BaseType) → names_its_sort nodes b ≡ true → IsReal (IsNoGroup nodes) (base_type b)
real_base nodes BaseType.Void h = tt
real_base nodes BaseType.Boolean h = refl
real_base nodes BaseType.Int8 h = refl
real_base nodes BaseType.Int16 h = refl
real_base nodes BaseType.Int32 h = refl
real_base nodes BaseType.Int64 h = refl
real_base nodes BaseType.UInt8 h = refl
real_base nodes BaseType.UInt16 h = refl
real_base nodes BaseType.UInt32 h = refl
real_base nodes BaseType.UInt64 h = refl
real_base nodes BaseType.Float32 h = tt
real_base nodes BaseType.Float64 h = tt
real_base nodes BaseType.Text h = tt
real_base nodes BaseType.Data h = tt
real_base nodes (BaseType.Enum i) h = refl
real_base nodes (BaseType.Struct i) h = no_group nodes i h
real_base nodes BaseType.AnyPointer h = tt
real_base nodes BaseType.Capability h = tt

real_type : (nodes : List Node) (c : ℕ) (b : BaseType) → names_its_sort nodes b ≡ true → IsReal (IsNoGroup nodes) (lists_of c (base_type b))
real_type nodes zero b h = real_base nodes b h
real_type nodes (suc c) b h = real_type nodes c b h

-- ---- areas

-- an area lies in the first word or behind it
abbrev pub AllStraight : List Area → Type 0
AllStraight [] = Unit {0}
AllStraight (bit_area a n ∷ ys) = ((a + n ≤ 64) ⊎ (64 ≤ a)) × AllStraight ys
AllStraight (pointer_area i ∷ ys) = AllStraight ys

inside_append : (w p : ℕ) (xs ys : List Area) → AllInside w p xs → AllInside w p ys → AllInside w p (xs ++ ys)
inside_append w p [] ys h k = k
inside_append w p (bit_area a n ∷ xs) ys h k = (h.0, inside_append w p xs ys h.1 k)
inside_append w p (pointer_area i ∷ xs) ys h k = (h.0, inside_append w p xs ys h.1 k)

inside_wider : (w p v q : ℕ) (ys : List Area) → w ≤ v → p ≤ q → AllInside w p ys → AllInside v q ys
inside_wider w p v q [] e f h = tt
inside_wider w p v q (bit_area a n ∷ ys) e f h = let l = h.0 in (omega arith, inside_wider w p v q ys e f h.1)
inside_wider w p v q (pointer_area i ∷ ys) e f h = let l = h.0 in (omega arith, inside_wider w p v q ys e f h.1)

straight_append : (xs ys : List Area) → AllStraight xs → AllStraight ys → AllStraight (xs ++ ys)
straight_append [] ys h k = k
straight_append (bit_area a n ∷ xs) ys h k = (h.0, straight_append xs ys h.1 k)
straight_append (pointer_area i ∷ xs) ys h k = straight_append xs ys h k

straight_width : (w : ℕ) → size_bits (size_of_width w) ≡ w → (o : ℕ) → (w * o + w ≤ 64) ⊎ (64 ≤ w * o)
straight_width w h o = by (w == 1) (w == 8) (w == 16) (w == 32) refl refl refl refl h
  where
    eq_is : (a b : ℕ) → (a == b) ≡ true → a ≡ b
    eq_is a b e = grind arith

    at : (q : ℕ) (v : ℕ) → v * q ≡ 64 → (nat_lt o q ≡ true → v * o + v ≤ 64) → (nat_lt o q ≡ false → 64 ≤ v * o) → (v * o + v ≤ 64) ⊎ (64 ≤ v * o)
    at q v e f g = by_order (nat_lt o q) refl
      where
        by_order : (b : Bool) → nat_lt o q ≡ b → (v * o + v ≤ 64) ⊎ (64 ≤ v * o)
        by_order true l = inl (f l)
        by_order false l = inr (g l)

    below : (q : ℕ) → nat_lt o q ≡ true → o < q
    below q l = grind arith

    above : (q : ℕ) → nat_lt o q ≡ false → q ≤ o
    above q l = grind arith

    by : (a b c d : Bool) → (w == 1) ≡ a → (w == 8) ≡ b → (w == 16) ≡ c → (w == 32) ≡ d → size_bits (if a then 1 else (if b then 2 else (if c then 3 else (if d then 4 else 5)))) ≡ w → (w * o + w ≤ 64) ⊎ (64 ≤ w * o)
    by true b c d e f g i k = subst (λ z. (z * o + z ≤ 64) ⊎ (64 ≤ z * o)) k (at 64 1 refl (λ l. let m = below 64 l in omega arith) (λ l. let m = above 64 l in omega arith))
    by false true c d e f g i k = subst (λ z. (z * o + z ≤ 64) ⊎ (64 ≤ z * o)) k (at 8 8 refl (λ l. let m = below 8 l in omega arith) (λ l. let m = above 8 l in omega arith))
    by false false true d e f g i k = subst (λ z. (z * o + z ≤ 64) ⊎ (64 ≤ z * o)) k (at 4 16 refl (λ l. let m = below 4 l in omega arith) (λ l. let m = above 4 l in omega arith))
    by false false false true e f g i k = subst (λ z. (z * o + z ≤ 64) ⊎ (64 ≤ z * o)) k (at 2 32 refl (λ l. let m = below 2 l in omega arith) (λ l. let m = above 2 l in omega arith))
    by false false false false e f g i k = subst (λ z. (z * o + z ≤ 64) ⊎ (64 ≤ z * o)) k (at 1 64 refl (λ l. let m = below 1 l in omega arith) (λ l. let m = above 1 l in omega arith))

-- ---- slots

plain_inside : (w o words : ℕ) → nat_le (w * (o + 1)) (64 * words) ≡ true → w * o + w ≤ 64 * words
plain_inside w o words h = let e : w * (o + 1) ≡ w * o + w = omega arith in subst (λ z. z ≤ 64 * words) e (le_is (w * (o + 1)) (64 * words) h)

-- what a slot is
pub record IsSoundSlot (nodes : List Node) (words pointers : ℕ) (b : Body) : Type 0 where
  real : BodyReal (IsNoGroup nodes) b
  inside : AllInside words pointers (areas_of_body b)
  straight : AllStraight (areas_of_body b)

slot_sound : (nodes : List Node) (n : StructNode) (offset : ℕ) (ty : Ty) (d : Option Value) → IsReal (IsNoGroup nodes) ty → is_inside n offset ty ≡ true → IsSoundSlot nodes n.words n.pointers (slot_body offset ty d)
unfolding areas_of
slot_sound nodes n offset void d real h = record { real = tt; inside = tt; straight = tt }
slot_sound nodes n offset (plain p) d real h = record { real = tt; inside = (plain_inside (width p) offset n.words h, tt); straight = (straight_width (width p) real offset, tt) }
slot_sound nodes n offset text d real h = record { real = real; inside = (lt_is offset n.pointers h, tt); straight = tt }
slot_sound nodes n offset blob d real h = record { real = real; inside = (lt_is offset n.pointers h, tt); straight = tt }
slot_sound nodes n offset untyped d real h = record { real = real; inside = (lt_is offset n.pointers h, tt); straight = tt }
slot_sound nodes n offset interface d real h = record { real = real; inside = (lt_is offset n.pointers h, tt); straight = tt }
slot_sound nodes n offset (struct id) d real h = record { real = real; inside = (lt_is offset n.pointers h, tt); straight = tt }
slot_sound nodes n offset (list ty) d real h = record { real = real; inside = (lt_is offset n.pointers h, tt); straight = tt }

-- ---- the one holder of a group

uses_group : ℕ → Node → Bool
uses_group g m = list_any (λ x. x == g) (groups_used m)

count_append : (p : ℕ → Bool) (xs ys : List ℕ) → count_by p (xs ++ ys) ≡ count_by p xs + count_by p ys
count_append p xs ys = sum_by-append (λ x. cond (p x) 1 0) xs ys

some_counted : (p : ℕ → Bool) (xs : List ℕ) → list_any p xs ≡ true → 1 ≤ count_by p xs
some_counted p [] h = absurd (cc h)
some_counted p (x ∷ xs) h = subst (λ z. 1 ≤ z) (sym (sum_by-cons (λ y. cond (p y) 1 0) x xs)) (by (p x) h (λ k. some_counted p xs k))
  where
    by : (b : Bool) → (b || list_any p xs) ≡ true → (list_any p xs ≡ true → 1 ≤ count_by p xs) → 1 ≤ cond b 1 0 + count_by p xs
    by true k more = omega arith
    by false k more = let l = more k in omega arith

-- a found node that uses the group is counted
found_counted : (ns : List Node) (id g : ℕ) (n : Node) → find_node ns id ≡ Some n → list_any (λ x. x == g) (groups_used n) ≡ true → 1 ≤ count_by (λ x. x == g) (flat_map groups_used ns)
found_counted [] id g n e u = absurd (cc e)
found_counted (m ∷ ns) id g n e u = subst (λ z. 1 ≤ z) (sym (count_append (λ x. x == g) (groups_used m) (flat_map groups_used ns))) (by (m.id == id) e (λ k. found_counted ns id g n k u))
  where
    by : (b : Bool) → (if b then Some m else find_node ns id) ≡ Some n → (find_node ns id ≡ Some n → 1 ≤ count_by (λ x. x == g) (flat_map groups_used ns))
        → 1 ≤ count_by (λ x. x == g) (groups_used m) + count_by (λ x. x == g) (flat_map groups_used ns)
    by true k more =
        let same : m ≡ n = cc k in
        let some = some_counted (λ x. x == g) (groups_used m) (ap (λ z. list_any (λ x. x == g) (groups_used z)) same ∙ u) in omega arith
    by false k more = let l = more k in omega arith

holder_is : (ns : List Node) (id g : ℕ) (n : Node) → find_node ns id ≡ Some n → list_any (λ x. x == g) (groups_used n) ≡ true → count_by (λ x. x == g) (flat_map groups_used ns) ≤ 1 → holder_of ns g ≡ Some n
holder_is [] id g n e u few = absurd (cc e)
holder_is (m ∷ ns) id g n e u few =
    let sums = count_append (λ x. x == g) (groups_used m) (flat_map groups_used ns) in
    by (m.id == id) (list_any (λ x. x == g) (groups_used m)) refl e (subst (λ z. z ≤ 1) sums few) (λ k l. holder_is ns id g n k u l)
  where
    by : (b c : Bool) → list_any (λ x. x == g) (groups_used m) ≡ c → (if b then Some m else find_node ns id) ≡ Some n
        → count_by (λ x. x == g) (groups_used m) + count_by (λ x. x == g) (flat_map groups_used ns) ≤ 1
        → (find_node ns id ≡ Some n → count_by (λ x. x == g) (flat_map groups_used ns) ≤ 1 → holder_of ns g ≡ Some n) → cond c (Some m) (holder_of ns g) ≡ Some n
    by true true uses k l more = k
    by true false uses k l more = let same : m ≡ n = cc k in absurd (cc (uses, ap (λ z. list_any (λ x. x == g) (groups_used z)) same ∙ u))
    by false true uses k l more =
        let first = some_counted (λ x. x == g) (groups_used m) uses in
        let second = found_counted ns id g n k u in absurd (omega arith)
    by false false uses k l more = more k (omega arith)

-- ---- shapes

-- the rules that this stands on
pub record MoreRules (nodes : List Node) : Type 0 where
  kept : RulesKept nodes
  groups : list_all (is_good_group nodes) nodes ≡ true
  places : list_all (on_struct has_places) nodes ≡ true

pub more_rules : (nodes : List Node) → IsAccepted nodes → MoreRules nodes
more_rules nodes h =
    let a = behind nodes 1 11 h in
    let b = behind nodes 2 10 a.1 in
    let c = behind nodes 3 9 b.1 in
    let d = behind nodes 4 8 c.1 in
    let e = behind nodes 5 7 d.1 in
    let f = behind nodes 6 6 e.1 in
    let g = behind nodes 7 5 f.1 in
    let i = behind nodes 8 4 g.1 in
    record { kept = rules_kept nodes h; groups = no_break (is_good_group nodes) [] 0 nodes f.0; places = no_break (on_struct has_places) [] 0 nodes i.0 }

-- a group's sections are no larger than its holder's
room_inside : (g : Shape) (words pointers : ℕ) → IsWithin g → HasRoom g words pointers → AllInside words pointers (areas_of g)
room_inside (shape nid w p u fs) words pointers h k = inside_wider w p words pointers (areas_of (shape nid w p u fs)) k.0 k.1 h

pub record IsSoundShape (nodes : List Node) (g : Shape) : Type 0 where
  pub real : AreReal (IsNoGroup nodes) g
  pub within : IsWithin g
  pub straight : AllStraight (areas_of g)

pub record AreSoundFields (nodes : List Node) (words pointers : ℕ) (fs : Fields) : Type 0 where
  real : FieldsReal (IsNoGroup nodes) fs
  inside : AllInside words pointers (areas_of_fields fs)
  straight : AllStraight (areas_of_fields fs)

module _ (nodes : List Node) (n : StructNode) (groups : ℕ → Shape) (sound : (g : ℕ) → IsSoundShape nodes (groups g)) where
  kind_sound : (k : FieldKind) → list_all (λ t. names_its_sort nodes t.base) (slot_types k) ≡ true → has_its_place n k ≡ true
      → ((g : ℕ) → list_any (λ x. x == g) (groups_of_field k) ≡ true → HasRoom (groups g) n.words n.pointers) → IsSoundSlot nodes n.words n.pointers (field_body groups k)
  unfolding areas_of
  kind_sound (slot offset ty d) h place each = slot_sound nodes n offset (type_of ty) d (real_type nodes ty.list_count ty.base (and_left (names_its_sort nodes ty.base) true h)) place
  kind_sound (group g) h place each =
      let s = sound g in
      record { real = s.real; inside = room_inside (groups g) n.words n.pointers s.within (each g (ap (λ z. z || false) (number_is g))); straight = s.straight }

  any_left : (g : ℕ) (xs ys : List ℕ) → list_any (λ x. x == g) xs ≡ true → list_any (λ x. x == g) (xs ++ ys) ≡ true
  any_left g xs ys h = list_any-append (λ x. x == g) xs ys ∙ ap (λ z. z || list_any (λ x. x == g) ys) h

  any_right : (g : ℕ) (xs ys : List ℕ) → list_any (λ x. x == g) ys ≡ true → list_any (λ x. x == g) (xs ++ ys) ≡ true
  any_right g xs ys h = list_any-append (λ x. x == g) xs ys ∙ or_right (list_any (λ x. x == g) xs) (list_any (λ x. x == g) ys) h

  fields_sound : (fs : List Field) → list_all (λ t. names_its_sort nodes t.base) (flat_map (λ (f : Field). slot_types f.kind) fs) ≡ true → list_all (λ (f : Field). has_its_place n f.kind) fs ≡ true
      → ((g : ℕ) → list_any (λ x. x == g) (flat_map (λ (f : Field). groups_of_field f.kind) fs) ≡ true → HasRoom (groups g) n.words n.pointers) → AreSoundFields nodes n.words n.pointers (fields_from groups fs)
  unfolding areas_of
  fields_sound [] types places each = record { real = tt; inside = tt; straight = tt }
  fields_sound (f ∷ fs) types places each =
      let rest = flat_map (λ (g : Field). slot_types g.kind) fs in
      let mine = groups_of_field f.kind in
      let others = flat_map (λ (g : Field). groups_of_field g.kind) fs in
      let both : (list_all (λ t. names_its_sort nodes t.base) (slot_types f.kind) && list_all (λ t. names_its_sort nodes t.base) rest) ≡ true = sym (list_all-append (λ t. names_its_sort nodes t.base) (slot_types f.kind) rest) ∙ types in
      let here = kind_sound f.kind (and_left (list_all (λ t. names_its_sort nodes t.base) (slot_types f.kind)) (list_all (λ t. names_its_sort nodes t.base) rest) both) (and_left (has_its_place n f.kind) (list_all (λ (g : Field). has_its_place n g.kind) fs) places) (λ g h. each g (any_left g mine others h)) in
      let later = fields_sound fs (and_right (list_all (λ t. names_its_sort nodes t.base) (slot_types f.kind)) (list_all (λ t. names_its_sort nodes t.base) rest) both) (and_right (has_its_place n f.kind) (list_all (λ (g : Field). has_its_place n g.kind) fs) places) (λ g h. each g (any_right g mine others h)) in
      record {
        real = (here.real, later.real);
        inside = inside_append n.words n.pointers (areas_of_body (field_body groups f.kind)) (areas_of_fields (fields_from groups fs)) here.inside later.inside;
        straight = straight_append (areas_of_body (field_body groups f.kind)) (areas_of_fields (fields_from groups fs)) here.straight later.straight;
      }

  union_sound : has_good_union n ≡ true → AllInside n.words n.pointers (union_area (union_place n)) × AllStraight (union_area (union_place n))
  union_sound h =
      let three = and_three (length (members_of n) == n.discriminant_count) (list_all (λ m. nat_lt m n.discriminant_count) (members_of n) && are_once (members_of n)) (n.discriminant_count == 0 || nat_le (16 * (n.discriminant_offset + 1)) (64 * n.words)) h in
      by (n.discriminant_count == 0) three.2
    where
      by : (b : Bool) → (b || nat_le (16 * (n.discriminant_offset + 1)) (64 * n.words)) ≡ true
          → AllInside n.words n.pointers (union_area (if b then None else Some (16 * n.discriminant_offset))) × AllStraight (union_area (if b then None else Some (16 * n.discriminant_offset)))
      by true e = (tt, tt)
      by false e = let l = le_is (16 * (n.discriminant_offset + 1)) (64 * n.words) e in ((omega arith, tt), (straight_width 16 refl n.discriminant_offset, tt))

  struct_sound : (own : ℕ) → list_all (λ t. names_its_sort nodes t.base) (flat_map (λ (f : Field). slot_types f.kind) n.fields) ≡ true → has_places n ≡ true → has_good_union n ≡ true
      → ((g : ℕ) → list_any (λ x. x == g) (flat_map (λ (f : Field). groups_of_field f.kind) n.fields) ≡ true → HasRoom (groups g) n.words n.pointers)
      → IsSoundShape nodes (shape own n.words n.pointers (union_place n) (fields_from groups n.fields))
  unfolding areas_of
  struct_sound own types places union each =
      let u = union_sound union in
      let f = fields_sound n.fields types places each in
      record {
        real = f.real;
        within = inside_append n.words n.pointers (union_area (union_place n)) (areas_of_fields (fields_from groups n.fields)) u.0 f.inside;
        straight = straight_append (union_area (union_place n)) (areas_of_fields (fields_from groups n.fields)) u.1 f.straight;
      }

no_shape_sound : (nodes : List Node) → IsSoundShape nodes no_shape
unfolding areas_of
no_shape_sound nodes = record { real = tt; within = tt; straight = tt }

pub all_pass : (test : ℕ → Bool) (xs : List ℕ) (g : ℕ) → list_all test xs ≡ true → list_any (λ x. x == g) xs ≡ true → test g ≡ true
all_pass test [] g h k = absurd (cc k)
all_pass test (x ∷ xs) g h k = by (x == g) refl k (λ l. all_pass test xs g (and_right (test x) (list_all test xs) h) l)
  where
    eq_is : (a b : ℕ) → (a == b) ≡ true → a ≡ b
    eq_is a b e = grind arith

    by : (b : Bool) → (x == g) ≡ b → (b || list_any (λ x. x == g) xs) ≡ true → (list_any (λ x. x == g) xs ≡ true → test g ≡ true) → test g ≡ true
    by true e l more = ap test (sym (eq_is x g e)) ∙ and_left (test x) (list_all test xs) h
    by false e l more = more l

-- the sizes of what a node is
room_of_node : (groups : ℕ → Shape) (m : Node) (k : NodeKind) (own words pointers : ℕ) → (elim k as (λ (x : NodeKind). ℕ × ℕ) [ struct_node s ↦ (s.words, s.pointers) | enum_node es ↦ (0, 0) ]).0 ≤ words
    → (elim k as (λ (x : NodeKind). ℕ × ℕ) [ struct_node s ↦ (s.words, s.pointers) | enum_node es ↦ (0, 0) ]).1 ≤ pointers
    → HasRoom (elim k as (λ (x : NodeKind). Shape) [ struct_node s ↦ shape own s.words s.pointers (union_place s) (fields_from groups s.fields) | enum_node es ↦ no_shape ]) words pointers
room_of_node groups m (struct_node s) own words pointers h k = (h, k)
room_of_node groups m (enum_node es) own words pointers h k = (omega arith, omega arith)

module _ (nodes : List Node) (r : MoreRules nodes) where
  group_fits : (id : ℕ) (n : Node) (g : ℕ) (m : Node) → find_node nodes id ≡ Some n → list_any (λ x. x == g) (groups_used n) ≡ true → find_node nodes g ≡ Some m → fits_in m (Some n) ≡ true
  group_fits id n g m e u f =
      let ids = found_passes (has_good_ids nodes) nodes id n r.kept.ids e in
      let is_group : names_a is_group_node nodes g ≡ true = all_pass (names_a is_group_node nodes) (groups_used n) g (and_right (list_all (λ t. names_its_sort nodes t.base) (types_in n)) (list_all (names_a is_group_node nodes) (groups_used n)) ids) u in
      let group_m : is_group_node m ≡ true = ap (λ (o : Option Node). elim o as (λ (x : Option Node). Bool) [ None ↦ false | Some k ↦ is_group_node k ]) (sym f) ∙ is_group in
      let good : (not (is_group_node m) || (uses_of nodes m.id == 1 && not (meets_below nodes (length nodes) m.id (Some m)) && fits_in m (holder_of nodes m.id))) ≡ true = found_passes (is_good_group nodes) nodes g m r.groups f in
      let three = and_three (uses_of nodes m.id == 1) (not (meets_below nodes (length nodes) m.id (Some m))) (fits_in m (holder_of nodes m.id))
      (ap (λ b. not b || (uses_of nodes m.id == 1 && not (meets_below nodes (length nodes) m.id (Some m)) && fits_in m (holder_of nodes m.id))) (sym group_m) ∙ good) in
      let number = found_id nodes g m f in
      let few : uses_of nodes g ≤ 1 = subst (λ z. uses_of nodes z ≤ 1) number (once (uses_of nodes m.id) three.0) in
      let holder : holder_of nodes m.id ≡ Some n = ap (holder_of nodes) number ∙ holder_is nodes id g n e u few in
      ap (fits_in m) (sym holder) ∙ three.2
    where
      once : (k : ℕ) → (k == 1) ≡ true → k ≤ 1
      once k h = grind arith

  pub group_room : (levels id : ℕ) (n : Node) (words pointers g : ℕ) → find_node nodes id ≡ Some n → (sizes_of n).0 ≡ words → (sizes_of n).1 ≡ pointers → list_any (λ x. x == g) (groups_used n) ≡ true → HasRoom (shape_in nodes levels g) words pointers
  unfolding shape_in
  group_room zero id n words pointers g e a b u = (omega arith, omega arith)
  group_room (suc levels) id n words pointers g e a b u = by (find_node nodes g) refl
    where
      by : (o : Option Node) → find_node nodes g ≡ o → HasRoom (shape_of_node (λ g. shape_in nodes levels g) o) words pointers
      by None f = (omega arith, omega arith)
      by (Some m) f =
          let fits = group_fits id n g m e u f in
          let w = le_is (sizes_of m).0 (sizes_of n).0 (and_left (nat_le (sizes_of m).0 (sizes_of n).0) (nat_le (sizes_of m).1 (sizes_of n).1) fits) in
          let p = le_is (sizes_of m).1 (sizes_of n).1 (and_right (nat_le (sizes_of m).0 (sizes_of n).0) (nat_le (sizes_of m).1 (sizes_of n).1) fits) in
          room_of_node (λ g. shape_in nodes levels g) m m.kind m.id words pointers (subst (λ z. (sizes_of m).0 ≤ z) a w) (subst (λ z. (sizes_of m).1 ≤ z) b p)

  node_sound : (levels id : ℕ) (n : Node) → find_node nodes id ≡ Some n → ((g : ℕ) → IsSoundShape nodes (shape_in nodes levels g)) → (k : NodeKind) → n.kind ≡ k
      → IsSoundShape nodes (elim k as (λ (x : NodeKind). Shape) [ struct_node s ↦ shape n.id s.words s.pointers (union_place s) (fields_from (λ g. shape_in nodes levels g) s.fields) | enum_node es ↦ no_shape ])
  node_sound levels id n e sound (enum_node es) q = no_shape_sound nodes
  node_sound levels id n e sound (struct_node s) q =
      let ids = found_passes (has_good_ids nodes) nodes id n r.kept.ids e in
      let types = and_left (list_all (λ t. names_its_sort nodes t.base) (types_in n)) (list_all (names_a is_group_node nodes) (groups_used n)) ids in
      let slots = flat_map (λ f. slot_types f.kind) (fields_of_kind n.kind) in
      let others = map (λ a. a.type) (annotations_in n) in
      let both : (list_all (λ t. names_its_sort nodes t.base) slots && list_all (λ t. names_its_sort nodes t.base) others) ≡ true = sym (list_all-append (λ t. names_its_sort nodes t.base) slots others) ∙ types in
      let mine : list_all (λ t. names_its_sort nodes t.base) (flat_map (λ (f : Field). slot_types f.kind) s.fields) ≡ true =
      ap (λ k. list_all (λ t. names_its_sort nodes t.base) (flat_map (λ (f : Field). slot_types f.kind) (fields_of_kind k))) (sym q) ∙ and_left (list_all (λ t. names_its_sort nodes t.base) slots) (list_all (λ t. names_its_sort nodes t.base) others) both in
      let places : has_places s ≡ true = ap (λ k. elim k as (λ (x : NodeKind). Bool) [ struct_node s ↦ has_places s | enum_node es ↦ true ]) (sym q) ∙ found_passes (on_struct has_places) nodes id n r.places e in
      let unions : has_good_union s ≡ true = ap (λ k. elim k as (λ (x : NodeKind). Bool) [ struct_node s ↦ has_good_union s | enum_node es ↦ true ]) (sym q) ∙ found_passes (on_struct has_good_union) nodes id n r.kept.unions e in
      let sizes = ap (λ k. elim k as (λ (x : NodeKind). ℕ × ℕ) [ struct_node s ↦ (s.words, s.pointers) | enum_node es ↦ (0, 0) ]) q in
      struct_sound nodes s (λ g. shape_in nodes levels g) sound n.id mine places unions
      (λ g u. group_room levels id n s.words s.pointers g e (ap (λ z. z.0) sizes) (ap (λ z. z.1) sizes)
      (ap (λ k. list_any (λ x. x == g) (flat_map (λ (f : Field). groups_of_field f.kind) (fields_of_kind k))) q ∙ u))

  pub shape_sound : (levels id : ℕ) → IsSoundShape nodes (shape_in nodes levels id)
  unfolding shape_in
  shape_sound zero id = no_shape_sound nodes
  shape_sound (suc levels) id = by (find_node nodes id) refl (shape_sound levels)
    where
      by : (o : Option Node) → find_node nodes id ≡ o → ((g : ℕ) → IsSoundShape nodes (shape_in nodes levels g)) → IsSoundShape nodes (shape_of_node (λ g. shape_in nodes levels g) o)
      by None e sound = no_shape_sound nodes
      by (Some n) e sound = node_sound levels id n e sound n.kind refl

pub accepted_sound : (nodes : List Node) → IsAccepted nodes → (id : ℕ) → IsSoundShape nodes ((schema_of nodes).shape_of id)
unfolding schema_of
accepted_sound nodes h id = shape_sound nodes (more_rules nodes h) (length nodes) id
