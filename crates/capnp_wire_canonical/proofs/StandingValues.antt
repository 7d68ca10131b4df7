-- Whether the value of a pointer stands that was followed.
use Rattle.std.proofs.Common.{◌≡◌, ℕ, zero, suc, ◌+◌, true, false, List, [], ◌∷◌, Option, Some, None, Result, Ok, refl, ap, sym, ◌∙◌, subst, arith}
use Rattle.std.specs.Option.{ok_or}
use Rattle.capnp_model.specs.Kinds.{OutOfBounds}
use Rattle.capnp_model.specs.Segments.{Segments, Place, words_at}
use Rattle.capnp_model.specs.Pointers as model
use Rattle.capnp_model.specs.Trees.{Tree, null, capability, has_capability}
use Rattle.capnp_model.specs.Traversal.{tree_at, leaf_of, list_kind, list_words}
use Rattle.capnp_model.specs.Trimming.{trim}
use Rattle.capnp_model.specs.Visits.{Visit, visits}
use Rattle.capnp_model.proofs.lemmas.Chaining.{bind_ok, ok_is, some_is}
use Rattle.capnp_units.specs.declared.errors.Error.{Error}
use Rattle.capnp_units.specs.declared.limiter.ReadLimiter.{ReadLimiter}
use Rattle.capnp_wire_objects.specs.declared.object.Object.{Object}
use Rattle.capnp_wire_objects.specs.declared.object.Object.TheVariants as object
use Rattle.capnp_wire_objects.specs.Objects.{whole}
use Rattle.capnp_wire_objects.specs.Follow.{own_cost, suffice_for, Pays, levels_suffice}
use Rattle.capnp_wire_objects.specs.Inside.{tree_in, met_in}
use Rattle.capnp_wire_objects.proofs.lemmas.Walking.{object_found, link_tree, link_visits, leaf_visited}
use Rattle.capnp_wire_objects.proofs.lemmas.Walks.{walked_none, walked_one}
use Rattle.capnp_wire_canonical.specs.Reaches.{reach}
use Rattle.capnp_wire_canonical.specs.Standing.{Stands, IsSmall, HasHead, LeadsToObject}
use Rattle.capnp_wire_canonical.specs.Checks.{Tests, value_test, object_test}
use Rattle.capnp_wire_canonical.proofs.lemmas.Checking.{paid_then, read_as, differs_at}
use Rattle.capnp_wire_canonical.proofs.StandingObjects.{null_stands, null_word}
use Rattle.capnp_wire_canonical.proofs.Steps.{list_followed, no_levels}

-- ---- what takes no level

pub null_tests : (s : Segments) (p : Place) (head : ℕ) (l : ReadLimiter) → LeadsToObject s p object.Null → HasHead s p 1 head → Tests (record { there = Some null; deeper = λ more. Some null; bad = has_capability; stands = λ t. Stands s p head (trim t); premise = IsSmall s p; path = [] }) l (Ok (Some head)) l
unfolding has_capability
null_tests s p head l lead given =
    let there = given.there in
    let near = there.1 in
    record { what = null; there_is = refl; clean = refl; stand = null_stands s p head (null_word s p lead) given; near = omega arith; walked = walked_none l }

pub capability_tests : (s : Segments) (p : Place) (head i : ℕ) (l : ReadLimiter) → Tests (record { there = Some (capability i); deeper = λ more. Some (capability i); bad = has_capability; stands = λ t. Stands s p head (trim t); premise = IsSmall s p; path = [] }) l (Ok None) l
unfolding has_capability
capability_tests s p head i l = differs_at (record { there = Some (capability i); deeper = λ more. Some (capability i); bad = has_capability; stands = λ t. Stands s p head (trim t); premise = IsSmall s p; path = [] }) l
    (λ small more t end is clean stand. let met : has_capability (capability i) ≡ false = ap has_capability (some_is _ _ is) ∙ clean in absurd cc)

-- Nothing is below.
abbrev pub no_trees : Place → Option Tree
no_trees p = None

abbrev pub no_visits : Place → List Visit
no_visits p = []

pub leaf_object : (s : Segments) (m : model.Object) (o : Object) → whole s m ≡ Ok o → levels_suffice 0 o ≡ true → (leaf_of m ≡ tree_in s no_trees o) × (suffice_for 0 m ≡ true) × (met_in no_visits o ≡ [])
leaf_object s model.nothing o e h = (ap (tree_in s no_trees) (ok_is _ _ e), refl, sym (ap (met_in no_visits) (ok_is _ _ e)))
leaf_object s (model.a_capability i) o e h = (ap (tree_in s no_trees) (ok_is _ _ e), refl, sym (ap (met_in no_visits) (ok_is _ _ e)))
leaf_object s (model.a_struct p d k) o e h = let a = bind_ok (ok_or (words_at s p (d + k)) OutOfBounds) _ o e in absurd (no_levels _ h (ap (levels_suffice 0) (sym (ok_is _ _ a.2))))
leaf_object s (model.a_list p size c) o e h = let a = bind_ok (ok_or (words_at s p (list_words (list_kind size) size c)) OutOfBounds) _ o e in absurd (no_levels _ h (list_followed p (list_kind size) size c a.0 o a.2))

leaf_read : (s : Segments) (p : Place) (g : model.Found) → model.found_at s p ≡ Ok g → tree_at 0 s p ≡ leaf_of g.object
unfolding tree_at
leaf_read s p g e = rw e refl

-- with any levels
leaf_same : (s : Segments) (f : Place → Option Tree) (o : Object) → levels_suffice 0 o ≡ true → tree_in s f o ≡ tree_in s no_trees o
leaf_same s f object.Null h = refl
leaf_same s f (object.Capability i) h = refl
leaf_same s f (object.Struct q d k) h = absurd (no_levels _ h refl)
leaf_same s f (object.List q size c) h = absurd (no_levels _ h refl)
leaf_same s f (object.PointerList q c) h = absurd (no_levels _ h refl)
leaf_same s f (object.StructList q words c d k) h = absurd (no_levels _ h refl)

leaf_there : (j : ℕ) (s : Segments) (p : Place) (g : model.Found) (o : Object) → model.found_at s p ≡ Ok g → whole s g.object ≡ Ok o → levels_suffice 0 o ≡ true → tree_at j s p ≡ tree_in s no_trees o
leaf_there zero s p g o e is h = leaf_read s p g e ∙ (leaf_object s g.object o is h).0
leaf_there (suc i) s p g o e is h = link_tree s p g e o is i ∙ leaf_same s (tree_at i s) o h

module _ (n : ℕ) (s : Segments) (p : Place) (head : ℕ) (o : Object) (l k m : ReadLimiter) (r : Result (Option ℕ) Error) (pay : Pays s p l o k) where
  leaf_tests : n ≡ 0 → levels_suffice n o ≡ true → Tests (record { there = tree_in s no_trees o; deeper = λ more. tree_in s no_trees o; bad = has_capability; stands = λ t. Stands s p head (trim t); premise = IsSmall s p; path = met_in no_visits o }) k r m → Tests (value_test (reach n s) p head) l r m
  leaf_tests z within x =
      let found = object_found s p (record { pads = pay.pads; object = o }) pay.is in
      let bare : levels_suffice 0 o ≡ true = subst (λ (j : ℕ). levels_suffice j o ≡ true) z within in
      let leaf = leaf_object s found.0.object o found.2 bare in
      let cost : ℕ = pay.pads + own_cost o in
      let path : visits 0 s p ≡ Ok cost ∷ met_in no_visits o = leaf_visited s p found.0 found.1 o found.2 leaf.1 ∙ ap (λ (j : ℕ). Ok (j + own_cost o) ∷ []) found.3 ∙ ap (λ (vs : List Visit). Ok cost ∷ vs) (sym leaf.2) in
      let here : Tests (record { there = tree_in s no_trees o; deeper = λ more. tree_in s no_trees o; bad = has_capability; stands = λ t. Stands s p head (trim t); premise = IsSmall s p; path = Ok cost ∷ met_in no_visits o }) l r m =
      paid_then (tree_in s no_trees o) (λ more. tree_in s no_trees o) has_capability (λ t. Stands s p head (trim t)) (IsSmall s p) (Ok cost ∷ []) (met_in no_visits o) l k m r (walked_one cost l k pay.spends pay.follows) x in
      let one : Tests (record { there = tree_at 0 s p; deeper = λ more. tree_at (more + 0) s p; bad = has_capability; stands = λ t. Stands s p head (trim t); premise = IsSmall s p; path = Ok cost ∷ met_in no_visits o }) l r m =
      read_as (tree_in s no_trees o) (tree_at 0 s p) (λ more. tree_in s no_trees o) (λ more. tree_at (more + 0) s p) has_capability (λ t. Stands s p head (trim t)) (IsSmall s p) (Ok cost ∷ met_in no_visits o) l m r (leaf_there 0 s p found.0 o found.1 found.2 bare) (λ more. leaf_there (more + 0) s p found.0 o found.1 found.2 bare) here in
      let two : Tests (value_test (reach 0 s) p head) l r m = subst (λ (vs : List Visit). Tests (record { there = tree_at 0 s p; deeper = λ more. tree_at (more + 0) s p; bad = has_capability; stands = λ t. Stands s p head (trim t); premise = IsSmall s p; path = vs }) l r m) (sym path) one in
      subst (λ (j : ℕ). Tests (value_test (reach j s) p head) l r m) (sym z) two

  pub deep_tests : (i : ℕ) → n ≡ suc i → Tests (object_test (reach i s) p head o) k r m → Tests (value_test (reach n s) p head) l r m
  deep_tests i z x =
      let found = object_found s p (record { pads = pay.pads; object = o }) pay.is in
      let cost : ℕ = pay.pads + own_cost o in
      let rest = met_in (visits i s) o in
      let path : visits (suc i) s p ≡ Ok cost ∷ rest = link_visits s p found.0 found.1 o found.2 i ∙ ap (λ (j : ℕ). Ok (j + own_cost o) ∷ rest) found.3 in
      let tree : (more : ℕ) → tree_at (more + suc i) s p ≡ tree_in s (tree_at (more + i) s) o = λ more. (let next : more + suc i ≡ suc (more + i) = omega arith in ap (λ (j : ℕ). tree_at j s p) next) ∙ link_tree s p found.0 found.1 o found.2 (more + i) in
      let here : Tests (record { there = tree_in s (tree_at i s) o; deeper = λ more. tree_in s (tree_at (more + i) s) o; bad = has_capability; stands = λ t. Stands s p head (trim t); premise = IsSmall s p; path = Ok cost ∷ rest }) l r m =
      paid_then (tree_in s (tree_at i s) o) (λ more. tree_in s (tree_at (more + i) s) o) has_capability (λ t. Stands s p head (trim t)) (IsSmall s p) (Ok cost ∷ []) rest l k m r (walked_one cost l k pay.spends pay.follows) x in
      let one : Tests (record { there = tree_at (suc i) s p; deeper = λ more. tree_at (more + suc i) s p; bad = has_capability; stands = λ t. Stands s p head (trim t); premise = IsSmall s p; path = Ok cost ∷ rest }) l r m =
      read_as (tree_in s (tree_at i s) o) (tree_at (suc i) s p) (λ more. tree_in s (tree_at (more + i) s) o) (λ more. tree_at (more + suc i) s p) has_capability (λ t. Stands s p head (trim t)) (IsSmall s p) (Ok cost ∷ rest) l m r (link_tree s p found.0 found.1 o found.2 i) tree here in
      let two : Tests (value_test (reach (suc i) s) p head) l r m = subst (λ (vs : List Visit). Tests (record { there = tree_at (suc i) s p; deeper = λ more. tree_at (more + suc i) s p; bad = has_capability; stands = λ t. Stands s p head (trim t); premise = IsSmall s p; path = vs }) l r m) (sym path) one in
      subst (λ (j : ℕ). Tests (value_test (reach j s) p head) l r m) (sym z) two

-- null where no level is left, and a capability
pub null_leaf : (n : ℕ) (s : Segments) (p : Place) (head : ℕ) (o : Object) (l k : ReadLimiter) → Pays s p l o k → n ≡ 0 → levels_suffice n o ≡ true → o ≡ object.Null → HasHead s p 1 head → Tests (value_test (reach n s) p head) l (Ok (Some head)) k
null_leaf n s p head o l k pay z within is given =
    leaf_tests n s p head o l k k (Ok (Some head)) pay z within
    (subst (λ (x : Object). Tests (record { there = tree_in s no_trees x; deeper = λ more. tree_in s no_trees x; bad = has_capability; stands = λ t. Stands s p head (trim t); premise = IsSmall s p; path = met_in no_visits x }) k (Ok (Some head)) k) (sym is)
    (null_tests s p head k (subst (LeadsToObject s p) is (pay.pads, pay.is)) given))

pub other_leaf : (n : ℕ) (s : Segments) (p : Place) (head : ℕ) (o : Object) (l k : ReadLimiter) → Pays s p l o k → n ≡ 0 → levels_suffice n o ≡ true → (o ≡ object.Null → ⊥) → Tests (value_test (reach n s) p head) l (Ok None) k
other_leaf n s p head o l k pay z within some = leaf_tests n s p head o l k k (Ok None) pay z within (by o (subst (λ (j : ℕ). levels_suffice j o ≡ true) z within) some)
  where
    by : (x : Object) → levels_suffice 0 x ≡ true → (x ≡ object.Null → ⊥) → Tests (record { there = tree_in s no_trees x; deeper = λ more. tree_in s no_trees x; bad = has_capability; stands = λ t. Stands s p head (trim t); premise = IsSmall s p; path = met_in no_visits x }) k (Ok None) k
    by object.Null w h = absurd (h refl)
    by (object.Capability i) w h = capability_tests s p head i k
    by (object.Struct q d c) w h = absurd (no_levels _ w refl)
    by (object.List q size c) w h = absurd (no_levels _ w refl)
    by (object.PointerList q c) w h = absurd (no_levels _ w refl)
    by (object.StructList q words c d j) w h = absurd (no_levels _ w refl)
