-- Groups are in no cycle, so as many levels as there are nodes write a shape out.
use Rattle.std.proofs.Common.{◌≡◌, ℕ, zero, suc, ◌+◌, ◌<◌, ◌≤◌, Bool, true, false, not, ◌&&◌, ◌||◌, ◌==◌, if◌then◌else◌, Option, Some, None, List, [], ◌∷◌, ◌++◌, map, length, refl, sym, ◌∙◌, ap, arith}
use Rattle.std.specs.List.{list_all, list_any, flat_map}
use Rattle.capnp_model.specs.Schemas.{FieldKind, slot, group, Field, StructNode, NodeKind, struct_node, enum_node, Node, Shape, shape, Fields, no_fields, field, Body}
use Rattle.capnp_model.specs.Accepted.{find_node, groups_of_field, groups_used, types_in, names_its_sort, has_good_ids, is_group_node, names_a, fields_of_kind, field_body, fields_from, union_place, no_shape, shape_of_node, shape_in, schema_of, meets_below, uses_of, fits_in, holder_of, is_good_group, IsAccepted}
use Rattle.capnp_model.proofs.lemmas.KeptRules.{behind, no_break, found_passes}
use Rattle.capnp_model.proofs.lemmas.SoundRules.{rules_kept, found_id}
use Rattle.capnp_records.proofs.lemmas.ListTests.{list_any-append}
use Rattle.capnp_model.proofs.lemmas.Tests.{same_number, number_is, never_true, or_right, and_left, and_right, or_left}

-- ---- tests over lists

or_cases : (a b : Bool) → (a || b) ≡ true → {P : Type 0} → (a ≡ true → P) → (b ≡ true → P) → P
or_cases true b h l r = l refl
or_cases false b h l r = r h

any_mono : (p q : ℕ → Bool) → ((x : ℕ) → p x ≡ true → q x ≡ true) → (xs : List ℕ) → list_any p xs ≡ true → list_any q xs ≡ true
any_mono p q h [] e = e
any_mono p q h (x ∷ xs) e = or_cases (p x) (list_any p xs) e (λ a. or_left (q x) (list_any q xs) (h x a)) (λ b. or_right (q x) (list_any q xs) (any_mono p q h xs b))

-- a number of the list passes
any_in : (p : ℕ → Bool) (g : ℕ) (xs : List ℕ) → list_any (λ x. x == g) xs ≡ true → p g ≡ true → list_any p xs ≡ true
any_in p g xs e h = any_mono (λ x. x == g) p (λ x a. ap p (same_number x g a) ∙ h) xs e

all_in : (p : ℕ → Bool) (g : ℕ) (xs : List ℕ) → list_all p xs ≡ true → list_any (λ x. x == g) xs ≡ true → p g ≡ true
all_in p g [] a e = absurd (cc e)
all_in p g (x ∷ xs) a e = or_cases (x == g) (list_any (λ y. y == g) xs) e (λ h. ap p (sym (same_number x g h)) ∙ and_left (p x) (list_all p xs) a) (λ h. all_in p g xs (and_right (p x) (list_all p xs) a) h)

bool_cases : (b : Bool) → {P : Type 0} → (b ≡ true → P) → (b ≡ false → P) → P
bool_cases true t f = t refl
bool_cases false t f = f refl

-- ---- nodes whose ids are not among those seen

abbrev seen_in : List ℕ → ℕ → Bool
seen_in seen id = list_any (λ s. s == id) seen

one_unless : Bool → ℕ
one_unless true = 0
one_unless false = 1

unseen : List ℕ → List Node → ℕ
unseen seen [] = 0
unseen seen (n ∷ ns) = one_unless (seen_in seen n.id) + unseen seen ns

one_or_none : (b : Bool) → one_unless b ≤ 1
unfolding one_unless
one_or_none true = omega arith
one_or_none false = omega arith

unseen_short : (seen : List ℕ) (ns : List Node) → unseen seen ns ≤ length ns
unfolding unseen
unseen_short seen [] = omega arith
unseen_short seen (n ∷ ns) = let h = unseen_short seen ns in let o = one_or_none (seen_in seen n.id) in omega (arith, h, o)

less_left : (a b : Bool) → one_unless (a || b) ≤ one_unless b
unfolding one_unless
less_left true true = omega arith
less_left true false = omega arith
less_left false b = let h : one_unless b ≡ one_unless b = refl in omega (arith, h)

unseen_less : (id : ℕ) (seen : List ℕ) (ns : List Node) → unseen (id ∷ seen) ns ≤ unseen seen ns
unfolding unseen
unseen_less id seen [] = omega arith
unseen_less id seen (n ∷ ns) = let h = unseen_less id seen ns in let l = less_left (id == n.id) (seen_in seen n.id) in omega (arith, h, l)

-- a node that is now seen
unseen_fewer : (id : ℕ) (seen : List ℕ) (ns : List Node) (n : Node) → find_node ns id ≡ Some n → seen_in seen id ≡ false → unseen (id ∷ seen) ns + 1 ≤ unseen seen ns
unfolding unseen one_unless
unseen_fewer id seen [] n e h = absurd (cc e)
unseen_fewer id seen (m ∷ ns) n e h = by (m.id == id) refl (unseen_fewer id seen ns n) e
  where
    by : (b : Bool) → (m.id == id) ≡ b → (find_node ns id ≡ Some n → seen_in seen id ≡ false → unseen (id ∷ seen) ns + 1 ≤ unseen seen ns) → (if b then Some m else find_node ns id) ≡ Some n → one_unless ((id == m.id) || seen_in seen m.id) + unseen (id ∷ seen) ns + 1 ≤ one_unless (seen_in seen m.id) + unseen seen ns
    by true is more f =
        let here : m.id ≡ id = same_number m.id id is in
        let now : one_unless ((id == m.id) || seen_in seen m.id) ≡ 0 = ap (λ b. one_unless (b || seen_in seen m.id)) (ap (λ i. id == i) here ∙ number_is id) in
        let before : one_unless (seen_in seen m.id) ≡ 1 = ap (λ i. one_unless (seen_in seen i)) here ∙ ap one_unless h in
        let rest = unseen_less id seen ns in
        omega (arith, now, before, rest)
    by false is more f = let rest = more f h in let l = less_left (id == m.id) (seen_in seen m.id) in omega (arith, rest, l)

-- ---- shapes by groups

fields_same : (groups others : ℕ → Shape) (fs : List Field) → ((g : ℕ) → list_any (λ x. x == g) (flat_map (λ f. groups_of_field f.kind) fs) ≡ true → groups g ≡ others g) → fields_from groups fs ≡ fields_from others fs
fields_same groups others [] h = refl
fields_same groups others (f ∷ fs) h =
    let first : field_body groups f.kind ≡ field_body others f.kind = by f.kind (λ g e. h g (list_any-append (λ x. x == g) (groups_of_field f.kind) (flat_map (λ k. groups_of_field k.kind) fs) ∙ or_left (list_any (λ x. x == g) (groups_of_field f.kind)) (list_any (λ x. x == g) (flat_map (λ k. groups_of_field k.kind) fs)) e)) in
    ap (λ b. field f.name f.member b (fields_from groups fs)) first
    ∙ ap (λ rest. field f.name f.member (field_body others f.kind) rest) (fields_same groups others fs (λ g e. h g (list_any-append (λ x. x == g) (groups_of_field f.kind) (flat_map (λ k. groups_of_field k.kind) fs) ∙ or_right (list_any (λ x. x == g) (groups_of_field f.kind)) (list_any (λ x. x == g) (flat_map (λ k. groups_of_field k.kind) fs)) e)))
  where
    by : (k : FieldKind) → ((g : ℕ) → list_any (λ x. x == g) (groups_of_field k) ≡ true → groups g ≡ others g) → field_body groups k ≡ field_body others k
    by (slot offset ty d) same = refl
    by (group id) same = ap (λ s. group_of s) (same id (ap (λ b. b || false) (number_is id)))
      where
        group_of : Shape → Body
        group_of s = field_body (λ _. s) (group id)

kind_same : (groups others : ℕ → Shape) (n : Node) → ((g : ℕ) → list_any (λ x. x == g) (groups_used n) ≡ true → groups g ≡ others g) → shape_of_node groups (Some n) ≡ shape_of_node others (Some n)
kind_same groups others n h = by n.kind h
  where
    by : (k : NodeKind) → ((g : ℕ) → list_any (λ x. x == g) (flat_map (λ f. groups_of_field f.kind) (fields_of_kind k)) ≡ true → groups g ≡ others g)
        → (elim k as (λ (x : NodeKind). Shape) [ struct_node s ↦ shape n.id s.words s.pointers (union_place s) (fields_from groups s.fields) | enum_node es ↦ no_shape ])
        ≡ (elim k as (λ (x : NodeKind). Shape) [ struct_node s ↦ shape n.id s.words s.pointers (union_place s) (fields_from others s.fields) | enum_node es ↦ no_shape ])
    by (struct_node s) same = ap (λ fs. shape n.id s.words s.pointers (union_place s) fs) (fields_same groups others s.fields same)
    by (enum_node es) same = refl

-- ---- going down

meets_mono : (nodes : List Node) (m k t : ℕ) (o : Option Node) → m ≤ k → meets_below nodes m t o ≡ true → meets_below nodes k t o ≡ true
meets_mono nodes m k t None le e = absurd (cc e)
meets_mono nodes zero k t (Some n) le e = absurd (cc e)
meets_mono nodes (suc m) zero t (Some n) le e = absurd (omega arith)
meets_mono nodes (suc m) (suc k) t (Some n) le e =
    any_mono (λ g. g == t || meets_below nodes m t (find_node nodes g)) (λ g. g == t || meets_below nodes k t (find_node nodes g))
    (λ g h. or_cases (g == t) (meets_below nodes m t (find_node nodes g)) h (λ a. or_left (g == t) (meets_below nodes k t (find_node nodes g)) a) (λ b. or_right (g == t) (meets_below nodes k t (find_node nodes g)) (meets_mono nodes m k t (find_node nodes g) (omega arith) b)))
    (groups_used n) e

module _ (nodes : List Node) (accepted : IsAccepted nodes) where
  -- a group's own id is not met below it
  no_cycle : (g : ℕ) → names_a is_group_node nodes g ≡ true → meets_below nodes (length nodes) g (find_node nodes g) ≡ true → ⊥
  no_cycle g is h = by (find_node nodes g) refl is h
    where
      good : list_all (is_good_group nodes) nodes ≡ true
      good =
          let a = behind nodes 1 11 accepted in
          let b = behind nodes 2 10 a.1 in
          let c = behind nodes 3 9 b.1 in
          let d = behind nodes 4 8 c.1 in
          let e = behind nodes 5 7 d.1 in
          let f = behind nodes 6 6 e.1 in
          no_break (is_good_group nodes) [] 0 nodes f.0

      none : (b m u f : Bool) → b ≡ true → m ≡ true → (not b || (u && not m && f)) ≡ true → ⊥
      none true true u f p q k = let no : (u && false) ≡ false = and_false u in absurd (cc (sym no ∙ and_left (u && false) f (and_group u f k)))
        where
          and_false : (a : Bool) → (a && false) ≡ false
          and_false true = refl
          and_false false = refl

          and_group : (a c : Bool) → (a && false && c) ≡ true → ((a && false) && c) ≡ true
          and_group true c j = j
          and_group false c j = j
      none true false u f p q k = absurd (cc q)
      none false m u f p q k = absurd (cc p)

      by : (o : Option Node) → find_node nodes g ≡ o → (elim o as (λ (x : Option Node). Bool) [ None ↦ false | Some n ↦ is_group_node n ]) ≡ true → meets_below nodes (length nodes) g o ≡ true → ⊥
      by None e k m = absurd (cc k)
      by (Some n) e k m =
          let id : n.id ≡ g = found_id nodes g n e in
          none (is_group_node n) (meets_below nodes (length nodes) n.id (Some n)) (uses_of nodes n.id == 1) (fits_in n (holder_of nodes n.id)) k (ap (λ i. meets_below nodes (length nodes) i (Some n)) id ∙ m) (found_passes (is_good_group nodes) nodes g n good e)

  -- what a node uses is a group
  used_is_group : (id : ℕ) (n : Node) → find_node nodes id ≡ Some n → (g : ℕ) → list_any (λ x. x == g) (groups_used n) ≡ true → names_a is_group_node nodes g ≡ true
  used_is_group id n e g h =
      let r = rules_kept nodes accepted in
      let ids = found_passes (has_good_ids nodes) nodes id n r.ids e in
      all_in (names_a is_group_node nodes) g (groups_used n) (and_right (list_all (λ t. names_its_sort nodes t.base) (types_in n)) (list_all (names_a is_group_node nodes) (groups_used n)) ids) h

  -- from each id that is seen what is met at an id is met
  abbrev Leads : List ℕ → ℕ → Type 0
  Leads seen id = (s : ℕ) → seen_in seen s ≡ true → (t m : ℕ) → m + length seen ≤ length nodes → meets_below nodes m t (find_node nodes id) ≡ true → meets_below nodes (length nodes) t (find_node nodes s) ≡ true

  one_more : (m t : ℕ) (id : ℕ) (n : Node) → find_node nodes id ≡ Some n → (g : ℕ) → list_any (λ x. x == g) (groups_used n) ≡ true → meets_below nodes m t (find_node nodes g) ≡ true → meets_below nodes (suc m) t (find_node nodes id) ≡ true
  one_more m t id n e g u h = ap (meets_below nodes (suc m) t) e ∙ any_in (λ x. x == t || meets_below nodes m t (find_node nodes x)) g (groups_used n) u (or_right (g == t) (meets_below nodes m t (find_node nodes g)) h)

  leads_on : (seen : List ℕ) (id : ℕ) (n : Node) → find_node nodes id ≡ Some n → Leads seen id → (g : ℕ) → list_any (λ x. x == g) (groups_used n) ≡ true → Leads (id ∷ seen) g
  leads_on seen id n e leads g u s is t m le h =
      let up = one_more m t id n e g u h in
      or_cases (id == s) (seen_in seen s) is
      (λ here. ap (λ i. meets_below nodes (length nodes) t (find_node nodes i)) (sym (same_number id s here)) ∙ meets_mono nodes (suc m) (length nodes) t (find_node nodes id) (omega arith) up)
      (λ before. leads s before t (suc m) (omega arith) up)

  not_again : (seen : List ℕ) (id : ℕ) (n : Node) → find_node nodes id ≡ Some n → Leads seen id → suc (length seen) ≤ length nodes → (g : ℕ) → list_any (λ x. x == g) (groups_used n) ≡ true → seen_in (id ∷ seen) g ≡ true → ⊥
  not_again seen id n e leads le g u is =
      let here : meets_below nodes 1 g (find_node nodes id) ≡ true = ap (meets_below nodes 1 g) e ∙ any_in (λ x. x == g || meets_below nodes 0 g (find_node nodes x)) g (groups_used n) u (or_left (g == g) (meets_below nodes 0 g (find_node nodes g)) (number_is g)) in
      no_cycle g (used_is_group id n e g u)
      (or_cases (id == g) (seen_in seen g) is
      (λ same. ap (λ i. meets_below nodes (length nodes) g (find_node nodes i)) (sym (same_number id g same)) ∙ meets_mono nodes 1 (length nodes) g (find_node nodes id) (omega arith) here)
      (λ before. leads g before g 1 (omega arith) here))

  -- one level more changes nothing
  stable : (levels : ℕ) (seen : List ℕ) (id : ℕ) → unseen seen nodes ≤ levels → levels + length seen ≤ length nodes → seen_in seen id ≡ false → Leads seen id → shape_in nodes levels id ≡ shape_in nodes (suc levels) id
  unfolding shape_in
  stable zero seen id few le new leads = by (find_node nodes id) refl
    where
      by : (o : Option Node) → find_node nodes id ≡ o → no_shape ≡ shape_of_node (λ g. shape_in nodes zero g) o
      by None e = refl
      by (Some n) e = let less = unseen_fewer id seen nodes n e new in absurd (omega (arith, less, few))
  stable (suc levels) seen id few le new leads = by (find_node nodes id) refl (λ g f l w d. stable levels (id ∷ seen) g f l w d)
    where
      by : (o : Option Node) → find_node nodes id ≡ o
          → ((g : ℕ) → unseen (id ∷ seen) nodes ≤ levels → levels + length (id ∷ seen) ≤ length nodes → seen_in (id ∷ seen) g ≡ false → Leads (id ∷ seen) g → shape_in nodes levels g ≡ shape_in nodes (suc levels) g)
          → shape_of_node (λ g. shape_in nodes levels g) o ≡ shape_of_node (λ g. shape_in nodes (suc levels) g) o
      by None e more = refl
      by (Some n) e more =
          let less = unseen_fewer id seen nodes n e new in
          kind_same (λ g. shape_in nodes levels g) (λ g. shape_in nodes (suc levels) g) n (λ g u. more g (omega (arith, less, few)) (omega (arith, le)) (never_true (seen_in (id ∷ seen) g) (not_again seen id n e leads (omega (arith, le)) g u)) (leads_on seen id n e leads g u))

  -- the shape of a node is made of the shapes of its groups
  pub shape_fixed : (id : ℕ) → shape_in nodes (length nodes) id ≡ shape_of_node (λ g. shape_in nodes (length nodes) g) (find_node nodes id)
  unfolding shape_in
  shape_fixed id = stable (length nodes) [] id (unseen_short [] nodes) (omega arith) refl (λ s is. absurd (cc is))
