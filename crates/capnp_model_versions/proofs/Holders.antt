-- In accepted node records a group is no larger than the struct or the group that has it.
use Rattle.std.proofs.Common.{◌≡◌, ℕ, ◌+◌, ◌≤◌, Bool, true, false, not, ◌||◌, ◌==◌, cond, nat_le, if◌then◌else◌, Option, Some, None, List, [], ◌∷◌, ◌++◌, length, refl, sym, ◌∙◌, ap, subst, arith}
use Rattle.std.specs.List.{list_all, list_any, flat_map, count_by}
use Rattle.std.proofs.lemmas.List.Recursion.{is_count_by}
use Rattle.capnp_model.specs.Schemas.{Node}
use Rattle.capnp_model.specs.Accepted.{find_node, fields_of_kind, groups_used, names_a, is_group_node, names_its_sort, types_in, has_good_ids, uses_of, holder_of, sizes_of, fits_in, meets_below, is_good_group, has_places, on_struct, default_reads, IsAccepted}
use Rattle.capnp_model.proofs.lemmas.KeptRules.{and_three, behind, no_break, found_passes}
use Rattle.capnp_model.proofs.lemmas.Tests.{same_number, le_is, and_left, and_right}
use Rattle.capnp_model.proofs.lemmas.SoundRules.{found_id}

-- what each node keeps
pub record PlacesKept (nodes : List Node) : Type 0 where
  pub groups : list_all (is_good_group nodes) nodes ≡ true
  pub places : list_all (on_struct has_places) nodes ≡ true
  pub reads : list_all (λ n. list_all (λ f. default_reads f.kind) (fields_of_kind n.kind)) nodes ≡ true

pub places_kept : (nodes : List Node) → IsAccepted nodes → PlacesKept nodes
places_kept nodes h =
    let a = behind nodes 1 11 h in
    let b = behind nodes 2 10 a.1 in
    let c = behind nodes 3 9 b.1 in
    let d = behind nodes 4 8 c.1 in
    let e = behind nodes 5 7 d.1 in
    let f = behind nodes 6 6 e.1 in
    let g = behind nodes 7 5 f.1 in
    let i = behind nodes 8 4 g.1 in
    let j = behind nodes 9 3 i.1 in
    let k = behind nodes 10 2 j.1 in
    let l = behind nodes 11 1 k.1 in
    record {
      groups = no_break (is_good_group nodes) [] 0 nodes f.0;
      places = no_break (on_struct has_places) [] 0 nodes i.0;
      reads = no_break (λ n. list_all (λ f. default_reads f.kind) (fields_of_kind n.kind)) [] 0 nodes l.0;
    }

-- ---- how often an id is used

counted : ℕ → List ℕ → ℕ
counted g [] = 0
counted g (x ∷ xs) = cond (x == g) (1 + counted g xs) (counted g xs)

counted_is : (g : ℕ) (xs : List ℕ) → counted g xs ≡ count_by (λ x. x == g) xs
unfolding counted
counted_is g xs = is_count_by (counted g) (λ x. x == g) refl (λ x ys. refl) xs

counted_append : (g : ℕ) (xs ys : List ℕ) → counted g (xs ++ ys) ≡ counted g xs + counted g ys
unfolding counted
counted_append g [] ys = omega arith
counted_append g (x ∷ xs) ys = by (x == g) (counted_append g xs ys)
  where
    by : (b : Bool) → counted g (xs ++ ys) ≡ counted g xs + counted g ys → cond b (1 + counted g (xs ++ ys)) (counted g (xs ++ ys)) ≡ cond b (1 + counted g xs) (counted g xs) + counted g ys
    by true e = omega arith
    by false e = e

counted_some : (g : ℕ) (xs : List ℕ) → list_any (λ x. x == g) xs ≡ true → 1 ≤ counted g xs
unfolding counted
counted_some g [] h = absurd (cc h)
counted_some g (x ∷ xs) h = by (x == g) (counted_some g xs) h
  where
    by : (b : Bool) → (list_any (λ z. z == g) xs ≡ true → 1 ≤ counted g xs) → (b || list_any (λ z. z == g) xs) ≡ true → 1 ≤ cond b (1 + counted g xs) (counted g xs)
    by true more k = omega arith
    by false more k = more k

-- the id is that of a group of the node's
abbrev pub uses : Node → ℕ → Bool
uses n g = list_any (λ x. x == g) (groups_used n)

found_uses : (ns : List Node) (id : ℕ) (h : Node) (g : ℕ) → find_node ns id ≡ Some h → uses h g ≡ true → 1 ≤ counted g (flat_map groups_used ns)
found_uses [] id h g e k = absurd (cc e)
found_uses (m ∷ ns) id h g e k = let more = found_uses ns id h g in by (m.id == id) more e
  where
    by : (b : Bool) → (find_node ns id ≡ Some h → uses h g ≡ true → 1 ≤ counted g (flat_map groups_used ns)) → (if b then Some m else find_node ns id) ≡ Some h → 1 ≤ counted g (groups_used m ++ flat_map groups_used ns)
    by true more e =
        let is : m ≡ h = cc in
        let some : 1 ≤ counted g (groups_used m) = counted_some g (groups_used m) (ap (λ z. uses z g) is ∙ k) in
        let s = counted_append g (groups_used m) (flat_map groups_used ns) in omega arith
    by false more e = let some = more e k in let s = counted_append g (groups_used m) (flat_map groups_used ns) in omega arith

-- where an id is used once, the one that uses it is found
holder : (ns : List Node) (id : ℕ) (h : Node) (g : ℕ) → find_node ns id ≡ Some h → uses h g ≡ true → counted g (flat_map groups_used ns) ≤ 1 → holder_of ns g ≡ Some h
holder [] id h g e k le = absurd (cc e)
holder (m ∷ ns) id h g e k le = by (m.id == id) (uses m g) refl (holder ns id h g) e
  where
    by : (a b : Bool) → uses m g ≡ b → (find_node ns id ≡ Some h → uses h g ≡ true → counted g (flat_map groups_used ns) ≤ 1 → holder_of ns g ≡ Some h) → (if a then Some m else find_node ns id) ≡ Some h → (if b then Some m else holder_of ns g) ≡ Some h
    by true true u more x = x
    by true false u more x = let is : m ≡ h = cc in absurd (cc (sym u ∙ ap (λ z. uses z g) is ∙ k))
    by false true u more x =
        let here : 1 ≤ counted g (groups_used m) = counted_some g (groups_used m) u in
        let there : 1 ≤ counted g (flat_map groups_used ns) = found_uses ns id h g x k in
        let s = counted_append g (groups_used m) (flat_map groups_used ns) in absurd (omega arith)
    by false false u more x = let s = counted_append g (groups_used m) (flat_map groups_used ns) in more x k (omega arith)

-- ---- sizes

not_or : (a b : Bool) → (not a || b) ≡ true → a ≡ true → b ≡ true
not_or true b h e = h
not_or false b h e = absurd (cc e)

each_is_group : (nodes : List Node) (gs : List ℕ) (g : ℕ) → list_all (names_a is_group_node nodes) gs ≡ true → list_any (λ x. x == g) gs ≡ true → names_a is_group_node nodes g ≡ true
each_is_group nodes [] g h k = absurd (cc k)
each_is_group nodes (x ∷ xs) g h k = by (x == g) refl (each_is_group nodes xs g (and_right (names_a is_group_node nodes x) _ h)) k
  where
    by : (b : Bool) → (x == g) ≡ b → (list_any (λ z. z == g) xs ≡ true → names_a is_group_node nodes g ≡ true) → (b || list_any (λ z. z == g) xs) ≡ true → names_a is_group_node nodes g ≡ true
    by true e more l = let same : x ≡ g = grind arith in subst (λ z. names_a is_group_node nodes z ≡ true) same (and_left (names_a is_group_node nodes x) _ h)
    by false e more l = more l

-- a group is no larger than its holder
pub group_fits : (nodes : List Node) → PlacesKept nodes → list_all (has_good_ids nodes) nodes ≡ true → (id : ℕ) (h : Node) (g : ℕ) (n : Node) → find_node nodes id ≡ Some h → uses h g ≡ true → find_node nodes g ≡ Some n → ((sizes_of n).0 ≤ (sizes_of h).0) × ((sizes_of n).1 ≤ (sizes_of h).1)
group_fits nodes r ids id h g n e k f =
    let good : is_good_group nodes n ≡ true = found_passes (is_good_group nodes) nodes g n r.groups f in
    let named = and_right (list_all (λ t. names_its_sort nodes t.base) (types_in h)) (list_all (names_a is_group_node nodes) (groups_used h)) (found_passes (has_good_ids nodes) nodes id h ids e) in
    let a_group : names_a is_group_node nodes g ≡ true = each_is_group nodes (groups_used h) g named k in
    let is_group : is_group_node n ≡ true = sym (ap (λ o. elim o as (λ (x : Option Node). Bool) [ None ↦ false | Some m ↦ is_group_node m ]) f) ∙ a_group in
    let three = and_three (uses_of nodes n.id == 1) (not (meets_below nodes (length nodes) n.id (Some n))) (fits_in n (holder_of nodes n.id)) (not_or (is_group_node n) _ good is_group) in
    let same : n.id ≡ g = found_id nodes g n f in
    let once : uses_of nodes g ≡ 1 = same_number (uses_of nodes g) 1 (ap (λ z. uses_of nodes z == 1) (sym same) ∙ three.0) in
    let counts : counted g (flat_map groups_used nodes) ≤ 1 = let c = counted_is g (flat_map groups_used nodes) in omega arith in
    let held : holder_of nodes n.id ≡ Some h = ap (holder_of nodes) same ∙ holder nodes id h g e k counts in
    let fits : fits_in n (Some h) ≡ true = ap (fits_in n) (sym held) ∙ three.2 in
    (le_is (sizes_of n).0 (sizes_of h).0 (and_left (nat_le (sizes_of n).0 (sizes_of h).0) (nat_le (sizes_of n).1 (sizes_of h).1) fits), le_is (sizes_of n).1 (sizes_of h).1 (and_right (nat_le (sizes_of n).0 (sizes_of h).0) (nat_le (sizes_of n).1 (sizes_of h).1) fits))
