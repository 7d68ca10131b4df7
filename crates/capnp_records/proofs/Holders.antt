-- Groups that fields are: looked up by id, and apart from what holds them.
use Rattle.std.proofs.Common.{◌≡◌, ℕ, zero, suc, ◌+◌, ◌<◌, ◌≤◌, Bool, true, false, not, ◌||◌, ◌==◌, nat_lt, if◌then◌else◌, cond, Option, Some, None, List, [], ◌∷◌, map, length, take, drop, get_or, slice_get, drop-cons, refl, sym, ◌∙◌, ap, arith}
use Rattle.std.specs.List.{list_all, list_any, count_by}
use Rattle.std.specs.Option.{is_some}
use Rattle.std.proofs.lemmas.List.Sums.{count_by_more_no, count_by_more_yes}
use Rattle.std.proofs.lemmas.Bool.Decides.{nat_tests}
use Rattle.capnp_model.specs.Schemas.{Node}
use Rattle.capnp_model.specs.Accepted.{find_node, groups_used, holder_of, meets_below}
use Rattle.capnp_model.proofs.lemmas.SoundRules.{found_id}
use Rattle.capnp_model.proofs.lemmas.Tests.{and_left, and_right}
use Rattle.capnp_records.specs.NodeViews.{node_of}
use Rattle.capnp_records.specs.Tables.{node_place}
use Rattle.capnp_records.specs.Uses.{once_in, holder_place, holds_deeper}
use Rattle.capnp_records.specs.declared.node.NodeRecord.{NodeRecord}

-- ---- the first of an id

-- The place is this one.
abbrev pub is_place : ℕ → Option ℕ → Bool
is_place p None = false
is_place p (Some k) = k == p

first_at : (i j id : ℕ) (xs : List NodeRecord) (x : NodeRecord) → j < length xs → x ≡ get_or xs j x → x.id ≡ id → is_place (i + j) (node_place id i (map node_of xs)) ≡ not (list_any (λ n. n.id == id) (map node_of (take j xs)))
first_at i j id [] x lt e is = absurd (omega arith)
first_at i zero id (y ∷ ys) x lt e is =
    let own : y.id ≡ id = ap (λ (z : NodeRecord). z.id) (sym e) ∙ is in
    let same : (y.id == id) ≡ true = grind (arith, nat_tests) in
    let here : (i == i + 0) ≡ true = grind (arith, nat_tests) in
    ap (λ b. is_place (i + 0) (if b then Some i else node_place id (suc i) (map node_of ys))) same ∙ here
first_at i (suc j) id (y ∷ ys) x lt e is = by (y.id == id) (first_at (suc i) j id ys x (omega arith) e is)
  where
    by : (b : Bool) → is_place (suc i + j) (node_place id (suc i) (map node_of ys)) ≡ not (list_any (λ n. n.id == id) (map node_of (take j ys)))
        → is_place (i + suc j) (if b then Some i else node_place id (suc i) (map node_of ys)) ≡ not (b || list_any (λ n. n.id == id) (map node_of (take j ys)))
    by true h = let other : (i == i + suc j) ≡ false = grind (arith, nat_tests) in other
    by false h = let next : i + suc j ≡ suc i + j = omega arith in ap (λ p. is_place p (node_place id (suc i) (map node_of ys))) next ∙ h

-- what was found of an id is the place of its node, or another
pub is_first_at : (place id : ℕ) (ns : List NodeRecord) (x : NodeRecord) (found : Option ℕ) → place < length ns → x ≡ get_or ns place x → x.id ≡ id → found ≡ node_place id 0 (map node_of ns)
    → is_place place found ≡ not (list_any (λ n. n.id == id) (map node_of (take place ns)))
is_first_at place id ns x found lt e is there =
    let from : place ≡ 0 + place = omega arith in
    ap (is_place place) there ∙ ap (λ p. is_place p (node_place id 0 (map node_of ns))) from ∙ first_at 0 place id ns x lt e is

-- ---- the first holder of a group

pub holder_back : (ns : List NodeRecord) (left id : ℕ) (x : NodeRecord) → left < length ns → x ≡ get_or ns left x → holder_place id left (map node_of (drop left ns)) ≡ (if list_any (λ g. g == id) (groups_used (node_of x)) then Some left else holder_place id (suc left) (map node_of (drop (suc left) ns)))
holder_back ns left id x lt e = ap (λ ys. holder_place id left (map node_of ys)) (drop-cons ns left x lt ∙ ap (λ y. y ∷ drop (suc left) ns) (sym e))

pub no_holder : (id i : ℕ) (ns : List Node) → holder_place id i ns ≡ None → holder_of ns id ≡ None
no_holder id i [] h = refl
no_holder id i (n ∷ ns) h = by (list_any (λ g. g == id) (groups_used n)) (no_holder id (suc i) ns) h
  where
    by : (b : Bool) → (holder_place id (suc i) ns ≡ None → holder_of ns id ≡ None) → (if b then Some i else holder_place id (suc i) ns) ≡ None → (if b then Some n else holder_of ns id) ≡ None
    by true more k = absurd (cc k)
    by false more k = more k

pub record PlacedHolder (ns : List Node) (id i k : ℕ) : Type 0 where
  pub steps : ℕ
  pub place : k ≡ i + steps
  pub inside : steps < length ns
  pub found : holder_of ns id ≡ slice_get ns steps

pub holder_placed : (id i k : ℕ) (ns : List Node) → holder_place id i ns ≡ Some k → PlacedHolder ns id i k
holder_placed id i k [] h = absurd (cc h)
holder_placed id i k (n ∷ ns) h = by (list_any (λ g. g == id) (groups_used n)) refl (holder_placed id (suc i) k ns) h
  where
    by : (b : Bool) → list_any (λ g. g == id) (groups_used n) ≡ b → (holder_place id (suc i) ns ≡ Some k → PlacedHolder ns id (suc i) k) → (if b then Some i else holder_place id (suc i) ns) ≡ Some k → PlacedHolder (n ∷ ns) id i k
    by true e more q = let is : i ≡ k = cc q in record { steps = 0; place = omega (arith, is); inside = omega arith; found = ap (λ b. if b then Some n else holder_of ns id) e }
    by false e more q = let p = more q in let place = p.place in let inside = p.inside in record { steps = suc p.steps; place = omega (arith, place); inside = omega (arith, inside); found = ap (λ b. if b then Some n else holder_of ns id) e ∙ p.found }

-- ---- once, or more often

pub seen_once : (n : ℕ) (b : Bool) → Some b ≡ once_in n → b ≡ (n == 1)
seen_once zero b h = absurd (cc h)
seen_once (suc n) b h = let is : b ≡ (n == 0) = cc in let one : (n == 0) ≡ (suc n == 1) = grind (arith, nat_tests) in is ∙ one

pub not_seen : (n : ℕ) → None ≡ once_in n → false ≡ (n == 1)
not_seen zero h = refl
not_seen (suc n) h = absurd (cc h)

-- ---- groups that stand deeper than what holds them

module _ (nodes : List Node) (depth : ℕ → ℕ) where
  found_deeper : (ns : List Node) (g : ℕ) (n : Node) → list_all (holds_deeper depth) ns ≡ true → find_node ns g ≡ Some n → holds_deeper depth n ≡ true
  found_deeper [] g n h e = absurd (cc e)
  found_deeper (m ∷ ns) g n h e = by (m.id == g) (found_deeper ns g n (and_right (holds_deeper depth m) (list_all (holds_deeper depth) ns) h)) e
    where
      by : (b : Bool) → (find_node ns g ≡ Some n → holds_deeper depth n ≡ true) → (if b then Some m else find_node ns g) ≡ Some n → holds_deeper depth n ≡ true
      by true more q = let is : m ≡ n = cc q in ap (holds_deeper depth) (sym is) ∙ and_left (holds_deeper depth m) (list_all (holds_deeper depth) ns) h
      by false more q = more q

  deeper : (a b : ℕ) → nat_lt a b ≡ true → a < b
  deeper a b h = grind (arith, nat_tests)

  differ : (g id at : ℕ) → at < depth g → depth id ≤ at → (g == id) ≡ false
  differ g id at lt le = by (g == id) refl
    where
      by : (b : Bool) → (g == id) ≡ b → (g == id) ≡ false
      by true q =
          let same : g ≡ id = grind (arith, nat_tests) in
          let level : depth g ≡ depth id = ap depth same in
          absurd (omega (arith, lt, le, level))
      by false q = q

  -- the ids of such groups aren't met, where nothing is met below their nodes
  not_in : (below : ℕ → Bool) (id at : ℕ) (gs : List ℕ) → ((g : ℕ) → at < depth g → below g ≡ false) → list_all (λ g. nat_lt at (depth g)) gs ≡ true → depth id ≤ at → list_any (λ g. g == id || below g) gs ≡ false
  not_in below id at [] none h le = refl
  not_in below id at (g ∷ gs) none h le =
      let lt : at < depth g = deeper at (depth g) (and_left (nat_lt at (depth g)) (list_all (λ k. nat_lt at (depth k)) gs) h) in
      ap (λ b. (b || below g) || list_any (λ k. k == id || below k) gs) (differ g id at lt le)
      ∙ ap (λ b. b || list_any (λ k. k == id || below k) gs) (none g lt)
      ∙ not_in below id at gs none (and_right (nat_lt at (depth g)) (list_all (λ k. nat_lt at (depth k)) gs) h) le

  found_below : list_all (holds_deeper depth) nodes ≡ true → (levels id at : ℕ) → depth id ≤ at → ((m : Node) → holds_deeper depth m ≡ true → depth id ≤ depth m.id → meets_below nodes levels id (Some m) ≡ false)
      → (g : ℕ) (o : Option Node) → find_node nodes g ≡ o → at < depth g → meets_below nodes levels id o ≡ false
  found_below all zero id at le none g None e lt = refl
  found_below all (suc levels) id at le none g None e lt = refl
  found_below all levels id at le none g (Some m) e lt =
      let own : m.id ≡ g = found_id nodes g m e in
      let level : depth m.id ≡ depth g = ap depth own in
      none m (found_deeper nodes g m all e) (omega (arith, lt, le, level))

  -- an id that stands no deeper than a node isn't met below it
  pub not_below : list_all (holds_deeper depth) nodes ≡ true → (levels id : ℕ) (n : Node) → holds_deeper depth n ≡ true → depth id ≤ depth n.id → meets_below nodes levels id (Some n) ≡ false
  not_below all zero id n h le = refl
  not_below all (suc levels) id n h le =
      not_in (λ g. meets_below nodes levels id (find_node nodes g)) id (depth n.id) (groups_used n)
      (λ g lt. found_below all levels id (depth n.id) le (λ m own low. not_below all levels id m own low) g (find_node nodes g) refl lt) h le

-- ---- ids seen one after the other

is_new : (n : ℕ) → not (is_some (once_in n)) ≡ (n == 0)
is_new zero = refl
is_new (suc n) = let other : (suc n == 0) ≡ false = grind (arith, nat_tests) in sym other

pub once_more : (old new : ℕ → Option Bool) (gs : List ℕ) (i x : ℕ) (b : Bool) → i < length gs → x ≡ get_or gs i x → ((id : ℕ) → old id ≡ once_in (count_by (λ g. g == id) (take i gs))) → b ≡ not (is_some (old x))
    → ((id : ℕ) → new id ≡ cond (x == id) (Some b) (old id)) → (id : ℕ) → new id ≡ once_in (count_by (λ g. g == id) (take (i + 1) gs))
once_more old new gs i x b lt e seen is put id = by (x == id) refl
  where
    n : ℕ
    n = count_by (λ g. g == id) (take i gs)

    by : (t : Bool) → (x == id) ≡ t → new id ≡ once_in (count_by (λ g. g == id) (take (i + 1) gs))
    by true q =
        let same : x ≡ id = grind (arith, nat_tests) in
        let one : count_by (λ g. g == id) (take (i + 1) gs) ≡ n + 1 = count_by_more_yes (λ g. g == id) gs i x lt (ap (λ y. y == id) (sym e) ∙ q) in
        let next : n + 1 ≡ suc n = omega arith in
        let first : b ≡ (n == 0) = is ∙ ap (λ y. not (is_some (old y))) same ∙ ap (λ o. not (is_some o)) (seen id) ∙ is_new n in
        put id ∙ ap (λ t. cond t (Some b) (old id)) q ∙ ap Some first ∙ sym (ap once_in (one ∙ next))
    by false q = put id ∙ ap (λ t. cond t (Some b) (old id)) q ∙ seen id ∙ ap once_in (sym (count_by_more_no (λ g. g == id) gs i x lt (ap (λ y. y == id) (sym e) ∙ q)))
