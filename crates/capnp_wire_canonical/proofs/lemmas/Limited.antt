-- A canonical copy under a limit is made of a value within it, and stopped only where there is none.
use Rattle.std.proofs.Common.{◌≡◌, ℕ, pos, ◌+◌, ◌≤◌, Bool, true, false, Option, Some, None, List, [], ◌∷◌, ◌++◌, Ok, Err, refl, ap, sym, ◌∙◌, subst, arith}
use Rattle.std.specs.Prelude.{nat_le}
use Rattle.std.proofs.lemmas.Bool.Decides.{nat_tests}
use Rattle.capnp_model.specs.Segments.{Segments, Place, root}
use Rattle.capnp_model.specs.Trees.{Tree, has_capability}
use Rattle.capnp_model.specs.Traversal.{tree_at, cost_at}
use Rattle.capnp_model.specs.Answers.{Limits, value_within}
use Rattle.capnp_model.specs.Visits.{Visit, visits, visits_cost}
use Rattle.capnp_model.proofs.lemmas.Chaining.{bind_some, some_is}
use Rattle.capnp_units.specs.Limits.{left_of, Allows}
use Rattle.capnp_units.specs.declared.errors.Error.{Error}
use Rattle.capnp_units.specs.declared.limiter.ReadLimiter.{ReadLimiter}
use Rattle.capnp_wire_objects.specs.Walks.{Walked, Stopped, CannotPass}
use Rattle.capnp_wire_canonical.specs.Reaches.{reach}
use Rattle.capnp_wire_canonical.specs.Copies.{copy_visits, Written, copy_state}
use Rattle.capnp_wire_canonical.specs.Objects.{canonical_copy}

-- what the laws say of walks
pub record WalkLaws : Type 0 where
  pub cost : (n : ℕ) (s : Segments) (p : Place) (t : Tree) → tree_at n s p ≡ Some t → visits_cost (visits n s p) ≡ Some (cost_at n s p)
  pub walks : (n : ℕ) (s : Segments) (p : Place) (t : Tree) → tree_at n s p ≡ Some t → has_capability t ≡ false → copy_visits n s p ≡ visits n s p

-- so many words and levels
abbrev pub limits : ℕ → ℕ → Limits
limits words n = record { words = Some words; nesting = pos n }

-- visits with a fault among them cost nothing that can be told
pub no_cost : (a b : List Visit) (k : _) (c : ℕ) → visits_cost (a ++ Err k ∷ b) ≡ Some c → ⊥
no_cost [] b k c h = absurd cc
no_cost (Err kind ∷ a) b k c h = absurd cc
no_cost (Ok n ∷ a) b k c h = let x = bind_some (visits_cost (a ++ Err k ∷ b)) _ c h in no_cost a b k x.0 x.1

some_more : (n m c : ℕ) → Some (n + m) ≡ Some c → c ≡ n + m
some_more n m c e = cc

-- visits before one that can be paid, and that one, cost no more than all
costs_more : (a b : List Visit) (n paid c : ℕ) → visits_cost a ≡ Some paid → visits_cost (a ++ Ok n ∷ b) ≡ Some c → paid + n ≤ c
costs_more [] b n paid c h all =
    let x = bind_some (visits_cost b) _ c all in
    let is : paid ≡ 0 = sym (some_is _ _ h) in
    let sum = some_more n x.0 c x.2 in
    omega (arith, is, sum)
costs_more (Err kind ∷ a) b n paid c h all = absurd cc
costs_more (Ok m ∷ a) b n paid c h all =
    let x = bind_some (visits_cost a) _ paid h in
    let y = bind_some (visits_cost (a ++ Ok n ∷ b)) _ c all in
    let low = costs_more a b n x.0 y.0 x.1 y.1 in
    let first = some_more m x.0 paid x.2 in
    let sum = some_more m y.0 c y.2 in
    omega (arith, low, first, sum)

module _ (laws : WalkLaws) (s : Segments) (words n : ℕ) where
  -- a copy isn't stopped at a value without a capability that costs no more than is left
  not_stopped : (t : Tree) (l m : ReadLimiter) (e : Error) → tree_at n s root ≡ Some t → has_capability t ≡ false → cost_at n s root ≤ words → left_of l ≡ Some words → Stopped (copy_visits n s root) l e m → ⊥
  not_stopped t l m e there clean low left stop = last stop.last refl stop.why
    where
      path : visits n s root ≡ stop.before ++ stop.last ∷ stop.behind
      path = sym (laws.walks n s root t there clean) ∙ stop.path_is

      cost : (v : Visit) → stop.last ≡ v → visits_cost (stop.before ++ v ∷ stop.behind) ≡ Some (cost_at n s root)
      cost v is = sym (ap visits_cost (path ∙ ap (λ x. stop.before ++ x ∷ stop.behind) is)) ∙ laws.cost n s root t there

      last : (v : Visit) → stop.last ≡ v → CannotPass (left_of l) stop.paid v e.kind → ⊥
      last (Err k) is why = no_cost stop.before stop.behind k (cost_at n s root) (cost (Err k) is)
      last (Ok n') is why =
          let past = (subst (λ o. CannotPass o stop.paid (Ok n') e.kind) left why).1 in
          let sum = costs_more stop.before stop.behind n' stop.paid (cost_at n s root) stop.cost_is (cost (Ok n') is) in
          absurd (omega (arith, past, sum, low))

  some_within : (t : Tree) → tree_at n s root ≡ Some t → has_capability t ≡ false → nat_le (cost_at n s root) words ≡ true → value_within (limits words n) s ≡ Some t
  unfolding value_within
  some_within t at clean low = rw (at, clean, low) refl

  none_within : tree_at n s root ≡ None → value_within (limits words n) s ≡ None
  unfolding value_within
  none_within at = rw at refl

  unclean_within : (t : Tree) → tree_at n s root ≡ Some t → has_capability t ≡ true → value_within (limits words n) s ≡ None
  unfolding value_within
  unclean_within t at bad = rw (at, bad) refl

  far_within : (t : Tree) → tree_at n s root ≡ Some t → has_capability t ≡ false → nat_le (cost_at n s root) words ≡ false → value_within (limits words n) s ≡ None
  unfolding value_within
  far_within t at clean far = rw (at, clean, far) refl

  -- where a copy is stopped there is no value
  pub stopped_none : (l m : ReadLimiter) (e : Error) → left_of l ≡ Some words → Stopped (copy_visits n s root) l e m → value_within (limits words n) s ≡ None
  stopped_none l m e left stop = by (tree_at n s root) refl
    where
      by_cost : (t : Tree) (c : Bool) → tree_at n s root ≡ Some t → has_capability t ≡ false → nat_le (cost_at n s root) words ≡ c → value_within (limits words n) s ≡ None
      by_cost t false at clean far = far_within t at clean far
      by_cost t true at clean near =
          let low : cost_at n s root ≤ words = grind (arith, nat_tests) in
          absurd (not_stopped t l m e at clean low left stop)

      by_capability : (t : Tree) (c : Bool) → tree_at n s root ≡ Some t → has_capability t ≡ c → value_within (limits words n) s ≡ None
      by_capability t true at bad = unclean_within t at bad
      by_capability t false at clean = by_cost t (nat_le (cost_at n s root) words) at clean refl

      by : (o : Option Tree) → tree_at n s root ≡ o → value_within (limits words n) s ≡ None
      by None at = none_within at
      by (Some t) at = by_capability t (has_capability t) at refl

  -- a value over which a whole walk went, without a capability, is within the limits
  pub walked_within : (l m : ReadLimiter) (t : Tree) → left_of l ≡ Some words → Walked (visits n s root) l m → tree_at n s root ≡ Some t → has_capability t ≡ false → value_within (limits words n) s ≡ Some t
  walked_within l m t left walked there clean =
      let cost : cost_at n s root ≡ walked.cost = some_is _ _ (sym (laws.cost n s root t there) ∙ walked.cost_is) in
      let allowed : walked.cost ≤ words = subst (λ o. Allows o walked.cost) left walked.spends.allowed in
      let low : nat_le (cost_at n s root) words ≡ true = grind (arith, nat_tests) in
      some_within t there clean low

  -- and so is one of which a copy is made
  pub written_within : (l m : ReadLimiter) (old new : List (List ℕ)) (end : ℕ) → left_of l ≡ Some words
      → (w : Written (canonical_copy (reach n s) root) (copy_state old l) end (copy_state new m)) → value_within (limits words n) s ≡ Some w.what
  written_within l m old new end left w =
      walked_within l m w.what left (subst (λ (path : List Visit). Walked path l m) (laws.walks n s root w.what w.there_is w.clean) w.walked) w.there_is w.clean
