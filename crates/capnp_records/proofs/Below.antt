-- What is met below, level by level.
use Rattle.std.proofs.Common.{◌≡◌, ℕ, zero, suc, ◌+◌, ◌-◌, ◌<◌, ◌≤◌, Bool, true, false, ◌||◌, ◌==◌, Option, Some, None, List, [], ◌∷◌, ◌++◌, length, take, get_or, refl, sym, ◌∙◌, ap, arith}
use Rattle.std.specs.List.{list_any, flat_map}
use Rattle.std.specs.List.Sorted.{IsPermutation}
use Rattle.std.proofs.lemmas.List.Sorted.{list_any-IsPermutation}
use Rattle.std.proofs.lemmas.Grind.{common_steps, flat_map-append}
use Rattle.std.proofs.lemmas.Bool.Decides.{nat_tests}
use Rattle.capnp_model.specs.Schemas.{Node}
use Rattle.capnp_model.specs.Accepted.{find_node, groups_used, meets_below}
use Rattle.capnp_model.proofs.lemmas.Tests.{or_assoc}
use Rattle.capnp_records.specs.Levels.{groups_below, PassSame, PassMore}
use Rattle.capnp_records.proofs.lemmas.ListTests.{list_any-append, list_any-flat_map, list_any-same}

or_false : (b : Bool) → (b || false) ≡ b
or_false true = refl
or_false false = refl

or_swap : (a b : Bool) → (a || b) ≡ (b || a)
or_swap true true = refl
or_swap true false = refl
or_swap false true = refl
or_swap false false = refl

-- ---- ids that pass

-- an id that is there passes as one of those there
there_passes : (x : ℕ) (xs : List ℕ) → list_any (λ k. x == k) xs ≡ true → (test : ℕ → Bool) → list_any test xs ≡ (list_any test xs || (test x || false))
there_passes x xs h test = by (test x) refl
  where
    found : (ys : List ℕ) → list_any (λ k. x == k) ys ≡ true → test x ≡ true → list_any test ys ≡ true
    found [] g t = absurd (cc g)
    found (y ∷ ys) g t = cases (x == y) refl (λ more. found ys more t)
      where
        itself : (x == y) ≡ true → x ≡ y
        itself e = grind (arith, nat_tests)

        or_here : (a b : Bool) → a ≡ true → (a || b) ≡ true
        or_here true b e = refl
        or_here false b e = absurd (cc e)

        or_there : (a b : Bool) → b ≡ true → (a || b) ≡ true
        or_there true b e = refl
        or_there false b e = e

        cases : (b : Bool) → (x == y) ≡ b → (list_any (λ k. x == k) ys ≡ true → list_any test ys ≡ true) → (test y || list_any test ys) ≡ true
        cases true e more = or_here (test y) (list_any test ys) (sym (ap test (itself e)) ∙ t)
        cases false e more = or_there (test y) (list_any test ys) (more (ap (λ b. b || list_any (λ k. x == k) ys) (sym e) ∙ g))

    by : (b : Bool) → test x ≡ b → list_any test xs ≡ (list_any test xs || (test x || false))
    by true e = found xs h e ∙ sym (ap (λ b. b || (test x || false)) (found xs h e))
    by false e = sym (ap (λ b. list_any test xs || (b || false)) e ∙ or_false (list_any test xs))

pub kept_same : (seen ids : List ℕ) (new : List ℕ) → PassSame seen ids → new ≡ seen → PassSame new ids
kept_same seen ids new h e test = ap (list_any test) e ∙ h test

pub old_passes : (seen ids : List ℕ) (x : ℕ) → PassSame seen ids → list_any (λ k. x == k) seen ≡ true → PassMore ids ids (x ∷ [])
old_passes seen ids x h there test = there_passes x ids (sym (h (λ k. x == k)) ∙ there) test

pub new_passes : (ids : List ℕ) (x : ℕ) → PassMore ids (ids ++ x ∷ []) (x ∷ [])
new_passes ids x test = list_any-append test ids (x ∷ [])

pub new_same : (seen ids new : List ℕ) (x : ℕ) → PassSame seen ids → IsPermutation (x ∷ seen) new → PassSame new (ids ++ x ∷ [])
new_same seen ids new x h moved test =
    sym (list_any-IsPermutation test (x ∷ seen) new moved)
    ∙ ap (λ b. test x || b) (h test)
    ∙ or_swap (test x) (list_any test ids)
    ∙ ap (λ b. list_any test ids || b) (sym (or_false (test x)))
    ∙ sym (list_any-append test ids (x ∷ []))

pub passes_one_more : (old ids new more : List ℕ) (i x : ℕ) → i < length more → x ≡ get_or more i x → PassMore old ids (take i more) → PassMore ids new (x ∷ []) → PassMore old new (take (i + 1) more)
passes_one_more old ids new more i x lt is h g test =
    let grown : take (i + 1) more ≡ take i more ++ x ∷ [] = grind (arith, common_steps) in
    g test
    ∙ ap (λ b. b || (test x || false)) (h test)
    ∙ or_assoc (list_any test old) (list_any test (take i more)) (test x || false)
    ∙ ap (λ b. list_any test old || b) (sym (list_any-append test (take i more) (x ∷ [])) ∙ ap (list_any test) (sym grown))

pub level_one_more : (below : ℕ → List ℕ) (next new ids : List ℕ) (i x : ℕ) → i < length ids → x ≡ get_or ids i x → PassSame next (flat_map below (take i ids)) → PassMore next new (below x) → PassSame new (flat_map below (take (i + 1) ids))
level_one_more below next new ids i x lt is h g test =
    let grown : take (i + 1) ids ≡ take i ids ++ x ∷ [] = grind (arith, common_steps) in
    g test
    ∙ ap (λ b. b || list_any test (below x)) (h test)
    ∙ sym (ap (list_any test) (ap (flat_map below) grown ∙ flat_map-append below (take i ids) (x ∷ [])) ∙ list_any-append test (flat_map below (take i ids)) (below x ++ []) ∙ ap (λ b. list_any test (flat_map below (take i ids)) || b) (list_any-append test (below x) [] ∙ or_false (list_any test (below x))))

-- ---- levels

module _ (nodes : List Node) (id : ℕ) where
  abbrev pub meets_in : ℕ → List ℕ → Bool
  meets_in levels gs = list_any (λ g. g == id || meets_below nodes levels id (find_node nodes g)) gs

  below_node : (levels : ℕ) (o : Option Node) → meets_below nodes (suc levels) id o ≡ meets_in levels (elim o as (λ (x : Option Node). List ℕ) [ None ↦ [] | Some n ↦ groups_used n ])
  below_node levels None = refl
  below_node levels (Some n) = refl

  nothing_below : (o : Option Node) → meets_below nodes 0 id o ≡ false
  nothing_below None = refl
  nothing_below (Some n) = refl

  any_or : (p q : ℕ → Bool) (gs : List ℕ) → list_any (λ g. p g || q g) gs ≡ (list_any p gs || list_any q gs)
  any_or p q [] = refl
  any_or p q (g ∷ gs) = ap (λ b. (p g || q g) || b) (any_or p q gs) ∙ cross (p g) (q g) (list_any p gs) (list_any q gs)
    where
      cross : (a b c d : Bool) → ((a || b) || (c || d)) ≡ ((a || c) || (b || d))
      cross true b c d = refl
      cross false true true d = refl
      cross false true false d = refl
      cross false false c d = refl

  next_levels : (levels : ℕ) (gs : List ℕ) → meets_in (suc levels) gs ≡ (list_any (λ g. g == id) gs || meets_in levels (flat_map (groups_below nodes) gs))
  next_levels levels gs =
      any_or (λ g. g == id) (λ g. meets_below nodes (suc levels) id (find_node nodes g)) gs
      ∙ ap (λ b. list_any (λ g. g == id) gs || b)
      (list_any-same (λ g. meets_below nodes (suc levels) id (find_node nodes g)) (λ g. meets_in levels (groups_below nodes g)) (λ g. below_node levels (find_node nodes g)) gs
      ∙ sym (list_any-flat_map (λ g. g == id || meets_below nodes levels id (find_node nodes g)) (groups_below nodes) gs))

  last_level : (gs : List ℕ) → meets_in 0 gs ≡ list_any (λ g. g == id) gs
  last_level gs = list_any-same (λ g. g == id || meets_below nodes 0 id (find_node nodes g)) (λ g. g == id) (λ g. ap (λ b. g == id || b) (nothing_below (find_node nodes g)) ∙ or_false (g == id)) gs

  -- the first level
  pub from_node : (n : Node) (len : ℕ) → 0 < len → meets_in (len - 1) (groups_used n) ≡ meets_below nodes len id (Some n)
  from_node n zero h = absurd (omega arith)
  from_node n (suc k) h = let less : suc k - 1 ≡ k = omega arith in ap (λ (l : ℕ). meets_in l (groups_used n)) less

  pub no_levels : (n : Node) (len : ℕ) → len ≡ 0 → false ≡ meets_below nodes len id (Some n)
  no_levels n len h = sym (ap (λ (l : ℕ). meets_below nodes l id (Some n)) h)

  -- the id is met here
  pub met_here : (left : ℕ) (gs : List ℕ) (all : Bool) → 0 < left → list_any (λ g. g == id) gs ≡ true → meets_in left gs ≡ all → true ≡ all
  met_here zero gs all lt h e = absurd (omega arith)
  met_here (suc l) gs all lt h e = sym (next_levels l gs ∙ ap (λ b. b || meets_in l (flat_map (groups_below nodes) gs)) h) ∙ e

  -- one level down
  pub one_down : (left : ℕ) (gs next : List ℕ) (all : Bool) → 0 < left → list_any (λ g. g == id) gs ≡ false → PassSame next (flat_map (groups_below nodes) gs) → meets_in left gs ≡ all → meets_in (left - 1) next ≡ all
  one_down zero gs next all lt h same e = absurd (omega arith)
  one_down (suc l) gs next all lt h same e =
      let less : suc l - 1 ≡ l = omega arith in
      ap (λ (k : ℕ). meets_in k next) less
      ∙ same (λ g. g == id || meets_below nodes l id (find_node nodes g))
      ∙ sym (next_levels l gs ∙ ap (λ b. b || meets_in l (flat_map (groups_below nodes) gs)) h)
      ∙ e

  -- nothing is below
  pub no_more_below : (left : ℕ) (gs next : List ℕ) (all : Bool) → 0 < left → list_any (λ g. g == id) gs ≡ false → PassSame next (flat_map (groups_below nodes) gs) → next ≡ [] → meets_in left gs ≡ all → false ≡ all
  no_more_below left gs next all lt h same none e = sym (ap (meets_in (left - 1)) none) ∙ one_down left gs next all lt h same e

  pub at_the_end : (left : ℕ) (gs : List ℕ) (all : Bool) → left ≤ 0 → meets_in left gs ≡ all → list_any (λ g. g == id) gs ≡ all
  at_the_end zero gs all le e = sym (last_level gs) ∙ e
  at_the_end (suc l) gs all le e = absurd (omega arith)
