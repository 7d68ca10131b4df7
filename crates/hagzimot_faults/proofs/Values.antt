-- Walks over values that are there, and over those that aren't.
use Rattle.std.proofs.Common.{◌≡◌, ℕ, ◌+◌, ◌-◌, ◌^◌, ◌≤◌, min, Bool, true, false, not, ◌&&◌, pos, Option, Some, None, List, [], ◌∷◌, ◌++◌, Ok, Err, refl, ap, sym, ◌∙◌, subst, arith}
use Rattle.std.proofs.lemmas.Bool.Decides.{nat_tests}
use Rattle.capnp_model.specs.Chains.{◌>>=◌, ◌provided◌}
use Rattle.capnp_model.specs.Segments.{Segments, Place, root}
use Rattle.capnp_model.specs.Trees.{Tree, has_capability}
use Rattle.capnp_model.specs.Messages.{within}
use Rattle.capnp_model.specs.Sizes.{object_words, capability_count}
use Rattle.capnp_model.specs.Traversal.{tree_at, cost_at}
use Rattle.capnp_model.specs.Visits.{Visit, visits, visits_cost}
use Rattle.capnp_model.specs.Answers.{value_within}
use Rattle.capnp_model.proofs.lemmas.Chaining.{bind_some, some_is}
use Rattle.capnp_model.proofs.lemmas.Tests.{and_right_false}
use Rattle.capnp_units.specs.Limits.{limit_of, left_of, granted_of, less, Allows, IsPassed}
use Rattle.capnp_units.specs.declared.errors.Error.{Error}
use Rattle.capnp_units.specs.declared.limiter.ReadLimiter.{ReadLimiter}
use Rattle.capnp_units.specs.declared.sizes.MessageSize.{MessageSize}
use Rattle.capnp_wire_objects.specs.Walks.{Stopped, CannotPass, SizeGives}

-- The value of a message, n levels deep and within a limit of words, without a capability.
abbrev pub value_to : ℕ → Option ℕ → Segments → Option Tree
value_to n limit s = tree_at n s root >>= λ t. t provided (not (has_capability t) && within (cost_at n s root) limit)

pub value_is : (n w : ℕ) (s : Segments) → value_within (record { words = Some w; nesting = pos n }) s ≡ value_to n (Some w) s
unfolding value_within
value_is n w s = refl

-- ---- costs

first_cost : (a b : List Visit) (c : ℕ) → visits_cost (a ++ b) ≡ Some c → (m : ℕ) → visits_cost a ≡ Some m → (k : ℕ) × (visits_cost b ≡ Some k) × (c ≡ m + k)
first_cost [] b c e m h = let none : 0 ≡ m = some_is _ _ h in (c, e, let same : c ≡ m + c = omega (arith, none) in same)
first_cost (Err kind ∷ a) b c e m h = absurd cc
first_cost (Ok n ∷ a) b c e m h =
    let x = bind_some (visits_cost a) _ m h in
    let y = bind_some (visits_cost (a ++ b)) _ c e in
    let r = first_cost a b y.0 y.1 x.0 x.1 in
    let p = some_is _ _ x.2 in
    let q = some_is _ _ y.2 in
    (r.0, r.1, let same : c ≡ m + r.0 = omega (arith, p, q, r.2) in same)

begun : (a b : List Visit) (c m : ℕ) → visits_cost (a ++ b) ≡ Some c → visits_cost a ≡ Some m → m ≤ c
begun a b c m e h = let r = first_cost a b c e m h in omega (arith, r.2)

stopped_late : (a rest : List Visit) (last : Visit) (c m : ℕ) (left : Option ℕ) (l : ReadLimiter) (e : Error) → visits_cost (a ++ last ∷ rest) ≡ Some c → visits_cost a ≡ Some m → CannotPass left m last e.kind → IsPassed left c
stopped_late a rest (Err kind) c m left l e all paid why = let r = first_cost a (Err kind ∷ rest) c all m paid in absurd (cc r.1)
stopped_late a rest (Ok n) c m left l e all paid why =
    let r = first_cost a (Ok n ∷ rest) c all m paid in
    let x = bind_some (visits_cost rest) _ r.0 r.1 in
    let p = some_is _ _ x.2 in
    by left why.1 (let le : m + n ≤ c = omega (arith, r.2, p) in le)
  where
    by : (o : Option ℕ) → IsPassed o (m + n) → m + n ≤ c → IsPassed o c
    by None h le = h
    by (Some k) h le = omega arith

-- ---- budgets

-- A limiter of so many words, from which nothing was granted.
pub record IsFresh (limit : Option ℕ) (l : ReadLimiter) : Type 0 where
  pub limit_is : limit_of l ≡ limit
  pub none : granted_of l ≡ 0

fresh_left : (limit : Option ℕ) (l : ReadLimiter) → IsFresh limit l → left_of l ≡ less limit 0
fresh_left limit l f = ap (λ o. less o l.granted) f.limit_is ∙ ap (less limit) f.none

too_dear : (limit : Option ℕ) (c : ℕ) → IsPassed (less limit 0) c → within c limit ≡ false
too_dear None c h = absurd h
too_dear (Some k) c h = grind (arith, nat_tests)

paid_within : (limit : Option ℕ) (c : ℕ) → Allows (less limit 0) c → within c limit ≡ true
paid_within None c h = refl
paid_within (Some k) c h = grind (arith, nat_tests)

-- ---- values

-- What walks cost.
abbrev pub Costs : Type 0
Costs = (n : ℕ) (s : Segments) (p : Place) (t : Tree) → tree_at n s p ≡ Some t → visits_cost (visits n s p) ≡ Some (cost_at n s p)

no_value_in : (n : ℕ) (limit : Option ℕ) (s : Segments) (t : Tree) → tree_at n s root ≡ Some t → (not (has_capability t) && within (cost_at n s root) limit) ≡ false → value_to n limit s ≡ None
no_value_in n limit s t there h =
    ap (λ (o : Option Tree). o >>= λ x. x provided (not (has_capability x) && within (cost_at n s root) limit)) there ∙ ap (λ (b : Bool). t provided b) h

pub a_value_in : (n : ℕ) (limit : Option ℕ) (s : Segments) (t : Tree) → tree_at n s root ≡ Some t → has_capability t ≡ false → within (cost_at n s root) limit ≡ true → value_to n limit s ≡ Some t
a_value_in n limit s t there clean h =
    ap (λ (o : Option Tree). o >>= λ x. x provided (not (has_capability x) && within (cost_at n s root) limit)) there
    ∙ ap (λ (b : Bool). t provided (not b && within (cost_at n s root) limit)) clean ∙ ap (λ (b : Bool). t provided b) h

module _ (costs : Costs) (n : ℕ) (limit : Option ℕ) (s : Segments) where
  stopped_past : (t : Tree) (l m : ReadLimiter) (e : Error) → tree_at n s root ≡ Some t → IsFresh limit l → Stopped (visits n s root) l e m → within (cost_at n s root) limit ≡ false
  stopped_past t l m e there fresh stop =
      let all = costs n s root t there in
      let c = cost_at n s root in
      let past = stopped_late stop.before stop.behind stop.last c stop.paid (left_of l) l e (ap visits_cost (sym stop.path_is) ∙ all) stop.cost_is stop.why in
      too_dear limit c (subst (λ (o : Option ℕ). IsPassed o c) (fresh_left limit l fresh) past)

  pub stopped_none : (l m : ReadLimiter) (e : Error) → IsFresh limit l → Stopped (visits n s root) l e m → value_to n limit s ≡ None
  stopped_none l m e fresh stop = by (tree_at n s root) refl
    where
      by : (o : Option Tree) → tree_at n s root ≡ o → value_to n limit s ≡ None
      by None there = ap (λ (o : Option Tree). o >>= λ x. x provided (not (has_capability x) && within (cost_at n s root) limit)) there
      by (Some t) there = no_value_in n limit s t there (and_right_false (not (has_capability t)) (within (cost_at n s root) limit) (stopped_past t l m e there fresh stop))

  -- What a walk that wasn't refused tells of the value.
  pub record IsSized (size : MessageSize) (granted : ℕ) (t : Tree) : Type 0 where
    pub there : tree_at n s root ≡ Some t
    pub capabilities : size.cap_count ≡ min (capability_count t) (2 ^ 32 - 1)
    pub within_limit : within (cost_at n s root) limit ≡ true
    pub paid : min granted (2 ^ 64 - 1) ≡ min (cost_at n s root) (2 ^ 64 - 1)

  pub sized : (l m : ReadLimiter) (size : MessageSize) → IsFresh limit l → SizeGives object_words capability_count (tree_at n s root) (visits n s root) l (Ok size) m → (t : Tree) × IsSized size (granted_of m) t
  sized l m size fresh (t, there, counts, walked) =
      let same : walked.cost ≡ cost_at n s root = some_is _ _ (sym walked.cost_is ∙ costs n s root t there) in (
        t,
        record {
          there = there;
          capabilities = counts.capabilities_is;
          within_limit = paid_within limit (cost_at n s root) (subst (λ c. Allows (less limit 0) c) same (subst (λ (o : Option ℕ). Allows o walked.cost) (fresh_left limit l fresh) walked.spends.allowed));
          paid = walked.spends.granted ∙ ap (λ g. min (g + walked.cost) (2 ^ 64 - 1)) fresh.none ∙ (let zero : 0 + walked.cost ≡ walked.cost = omega arith in ap (λ g. min g (2 ^ 64 - 1)) zero) ∙ ap (λ c. min c (2 ^ 64 - 1)) same;
        },
      )

  module _ (no_count : (t : Tree) → has_capability t ≡ false → capability_count t ≡ 0) where
    pub counted_none : (size : MessageSize) (granted : ℕ) (t : Tree) → IsSized size granted t → (size.cap_count ≡ 0 → ⊥) → value_to n limit s ≡ None
    counted_none size granted t is some = by (has_capability t) refl
      where
        by : (b : Bool) → has_capability t ≡ b → value_to n limit s ≡ None
        by true e = no_value_in n limit s t is.there (ap (λ (b : Bool). not b && within (cost_at n s root) limit) e)
        by false e = absurd (some (is.capabilities ∙ ap (λ c. min c (2 ^ 32 - 1)) (no_count t e)))

    pub counted_has : (size : MessageSize) (granted : ℕ) (t : Tree) → IsSized size granted t → (size.cap_count ≡ 0 → ⊥) → has_capability t ≡ true
    counted_has size granted t is some = by (has_capability t) refl
      where
        by : (b : Bool) → has_capability t ≡ b → has_capability t ≡ true
        by true e = e
        by false e = absurd (some (is.capabilities ∙ ap (λ c. min c (2 ^ 32 - 1)) (no_count t e)))

  module _ (none : (t : Tree) → capability_count t ≡ 0 → has_capability t ≡ false) where
    pub clean : (size : MessageSize) (granted : ℕ) (t : Tree) → IsSized size granted t → size.cap_count ≡ 0 → has_capability t ≡ false
    clean size granted t is e = none t (let same = is.capabilities in let zero : capability_count t ≡ 0 = omega (arith, same, e) in zero)

    pub counted_some : (size : MessageSize) (granted : ℕ) (t : Tree) → IsSized size granted t → size.cap_count ≡ 0 → value_to n limit s ≡ Some t
    counted_some size granted t is e = a_value_in n limit s t is.there (clean size granted t is e) is.within_limit
