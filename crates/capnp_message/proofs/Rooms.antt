-- What a canonical copy may cost, by a walk that measured it.
use Rattle.std.proofs.Common.{◌≡◌, ◌⊎◌, Bool, true, false, ltb, append-nil, subst, ℕ, zero, suc, ◌+◌, ◌-◌, ◌^◌, ◌<◌, ◌≤◌, min, List, [], ◌∷◌, ◌++◌, Option, Some, None, Result, Ok, Err, refl, sym, ◌∙◌, inl, inr, arith}
use Rattle.std.specs.Bool.{⊤, OnTrue, OnFalse}
use Rattle.std.proofs.lemmas.Bool.{ltb-true, ltb-false}
use Rattle.std.specs.Option.{ok_or}
use Rattle.capnp_model.specs.Kinds.{Kind, OutOfBounds}
use Rattle.capnp_model.specs.Segments.{Segments, Place, root, after, words_at}
use Rattle.capnp_model.specs.Pointers.{Object, nothing, a_struct, a_list, a_capability, found_at}
use Rattle.capnp_model.specs.Traversal.{ListKind, of_bits, of_pointers, of_structs, list_kind, list_words, tag_in, tree_at}
use Rattle.capnp_model.specs.Coverage.{from_each, from_elements}
use Rattle.capnp_model.specs.Visits.{Visit, visits_of, list_visits, object_visits, leaf_visits, visits, visits_cost}
use Rattle.capnp_model.proofs.lemmas.Chaining.{bind_some, some_is}
use Rattle.capnp_model.specs.Sizes.{object_words, capability_count}
use Rattle.capnp_units.specs.declared.errors.Error.{Error}
use Rattle.capnp_units.specs.declared.kinds.ErrorKind.{ErrorKind}
use Rattle.capnp_units.specs.declared.limiter.ReadLimiter.{ReadLimiter}
use Rattle.capnp_units.specs.declared.sizes.MessageSize.{MessageSize}
use Rattle.capnp_units.specs.Limits.{limit_of, left_of, granted_of, less, Allows, IsPassed}
use Rattle.capnp_wire_objects.specs.Walks.{CannotPass, Stopped, SizeGives}
use Rattle.capnp_wire_canonical.specs.Copies.{unless_capability, copy_visits}
use Rattle.capnp_message.specs.Canonical.{most_cost, IsAsked, Suffices, TellsWhole}

-- ---- a copy visits what a walk does, up to its first fault

-- the same visits up to a fault of the first
abbrev Cut : List Visit → List Visit → Type 0
Cut [] [] = ⊤
Cut [] (y ∷ ys) = ⊥
Cut (Err k ∷ xs) ys = ⊤
Cut (Ok c ∷ xs) [] = ⊥
Cut (Ok c ∷ xs) (Err k ∷ ys) = ⊥
Cut (Ok c ∷ xs) (Ok d ∷ ys) = (c ≡ d) × Cut xs ys

cut_same : (xs : List Visit) → Cut xs xs
cut_same [] = tt
cut_same (Err k ∷ xs) = tt
cut_same (Ok c ∷ xs) = (refl, cut_same xs)

cut_both : (xs ys us vs : List Visit) → Cut xs ys → Cut us vs → Cut (xs ++ us) (ys ++ vs)
cut_both [] [] us vs a b = b
cut_both [] (y ∷ ys) us vs a b = absurd a
cut_both (Err k ∷ xs) ys us vs a b = tt
cut_both (Ok c ∷ xs) [] us vs a b = absurd a
cut_both (Ok c ∷ xs) (Err k ∷ ys) us vs a b = absurd a
cut_both (Ok c ∷ xs) (Ok d ∷ ys) us vs a b = (a.0, cut_both xs ys us vs a.1 b)

cut_step : {A : Type 0} (r : Result A Kind) (g h : A → List Visit) → ((x : A) → Cut (g x) (h x)) → Cut (visits_of g r) (visits_of h r)
cut_step (Ok x) g h k = k x
cut_step (Err d) g h k = tt

cut_there : {A : Type 0} (o : Option A) (g h : A → List Visit) → ((x : A) → Cut (g x) (h x)) → Cut (visits_of g (ok_or o OutOfBounds)) (visits_of h (ok_or o OutOfBounds))
cut_there (Some x) g h k = k x
cut_there None g h k = tt

cut_row : (v w : Place → List Visit) → ((p : Place) → Cut (v p) (w p)) → (p : Place) (k : ℕ) → Cut (from_each v p k) (from_each w p k)
cut_row v w c p zero = tt
cut_row v w c p (suc k) = cut_both (v p) (w p) _ _ (c p) (cut_row v w c (after p 1) k)

cut_elements : (v w : Place → List Visit) → ((p : Place) → Cut (v p) (w p)) → (p : Place) (d k n : ℕ) → Cut (from_elements v p d k n) (from_elements w p d k n)
cut_elements v w c p d k zero = tt
cut_elements v w c p d k (suc n) = cut_both (from_each v (after p d) k) (from_each w (after p d) k) _ _ (cut_row v w c (after p d) k) (cut_elements v w c (after p (d + k)) d k n)

cut_list : (v w : Place → List Visit) → ((p : Place) → Cut (v p) (w p)) → (pads : ℕ) (p : Place) (kind : ListKind) (size n : ℕ) (ws : List ℕ) → Cut (list_visits v pads p kind size n ws) (list_visits w pads p kind size n ws)
cut_list v w c pads p of_bits size n ws = (refl, tt)
cut_list v w c pads p of_pointers size n ws = (refl, cut_row v w c p n)
cut_list v w c pads p of_structs size n ws = cut_step (tag_in ws) _ _ (λ t. (refl, cut_elements v w c (after p 1) t.data_words t.pointers t.count))

cut_object : (s : Segments) (v w : Place → List Visit) → ((p : Place) → Cut (v p) (w p)) → (pads : ℕ) (o : Object) → Cut (unless_capability o (object_visits s v pads o)) (object_visits s w pads o)
cut_object s v w c pads nothing = (refl, tt)
cut_object s v w c pads (a_capability i) = tt
cut_object s v w c pads (a_struct p d k) = cut_there (words_at s p (d + k)) _ _ (λ ws. (refl, cut_row v w c (after p d) k))
cut_object s v w c pads (a_list p size n) = cut_there (words_at s p (list_words (list_kind size) size n)) _ _ (λ ws. cut_list v w c pads p (list_kind size) size n ws)

cut_leaf : (pads : ℕ) (o : Object) → Cut (unless_capability o (leaf_visits pads o)) (leaf_visits pads o)
cut_leaf pads nothing = (refl, tt)
cut_leaf pads (a_capability i) = tt
cut_leaf pads (a_struct p d k) = tt
cut_leaf pads (a_list p size n) = tt

cut_visits : (n : ℕ) (s : Segments) (p : Place) → Cut (copy_visits n s p) (visits n s p)
unfolding visits copy_visits
cut_visits zero s p = cut_step (found_at s p) _ _ (λ x. cut_leaf x.pads x.object)
cut_visits (suc n) s p = cut_step (found_at s p) _ _ (λ x. cut_object s (copy_visits n s) (visits n s) (cut_visits n s) x.pads x.object)

-- ---- what the first visits cost

-- where the first of these are paid, the others cost as much at least
front_costs : (xs ys before rest : List Visit) (paid cost : ℕ) → Cut xs ys → xs ≡ before ++ rest → visits_cost before ≡ Some paid → visits_cost ys ≡ Some cost → paid ≤ cost
front_costs xs ys [] rest paid cost c e f g = let z : 0 ≡ paid = some_is _ _ f in omega (arith, z)
front_costs xs ys (Err k ∷ before) rest paid cost c e f g = absurd cc
front_costs [] ys (Ok b ∷ before) rest paid cost c e f g = absurd cc
front_costs (Err k ∷ xs) ys (Ok b ∷ before) rest paid cost c e f g = absurd cc
front_costs (Ok x ∷ xs) [] (Ok b ∷ before) rest paid cost c e f g = absurd c
front_costs (Ok x ∷ xs) (Err k ∷ ys) (Ok b ∷ before) rest paid cost c e f g = absurd c
front_costs (Ok x ∷ xs) (Ok y ∷ ys) (Ok b ∷ before) rest paid cost c e f g =
    let p = bind_some (visits_cost before) _ paid f in
    let q = bind_some (visits_cost ys) _ cost g in
    let sum : b + p.0 ≡ paid = some_is _ _ p.2 in
    let all : y + q.0 ≡ cost = some_is _ _ q.2 in
    let same : x ≡ b = cc in
    let like : x ≡ y = c.0 in
    let is : xs ≡ before ++ rest = cc in
    let few = front_costs xs ys before rest p.0 q.0 c.1 is p.1 q.1 in
    omega (arith, sum, all, same, like, few)

-- The next visit is paid too, and what is paid is as much at least.
abbrev GoesOn : ℕ → ℕ → Visit → Type 0
GoesOn paid cost (Ok w) = paid + w ≤ cost
GoesOn paid cost (Err k) = ⊥

further : (v : Visit) (i j cost paid b : ℕ) → (i ≤ j) ⊎ GoesOn j i v → b + i ≡ cost → b + j ≡ paid → (cost ≤ paid) ⊎ GoesOn paid cost v
further v i j cost paid b (inl few) s t = inl (omega (arith, few, s, t))
further (Ok w) i j cost paid b (inr more) s t = inr (omega (arith, more, s, t))
further (Err k) i j cost paid b (inr more) s t = absurd more

-- two fronts of such, of which the one stops at a visit: the other costs no more, or goes past it
fronts_differ : (xs ys before rest first behind : List Visit) (last : Visit) (cost paid : ℕ) → Cut xs ys → xs ≡ before ++ rest → visits_cost before ≡ Some cost → ys ≡ first ++ last ∷ behind → visits_cost first ≡ Some paid → (cost ≤ paid) ⊎ GoesOn paid cost last
fronts_differ xs ys [] rest first behind last cost paid c e f g h = let z : 0 ≡ cost = some_is _ _ f in inl (omega (arith, z))
fronts_differ xs ys (Err k ∷ before) rest first behind last cost paid c e f g h = absurd cc
fronts_differ xs ys (Ok b ∷ before) rest (Err k ∷ first) behind last cost paid c e f g h = absurd cc
fronts_differ [] ys (Ok b ∷ before) rest first behind last cost paid c e f g h = absurd cc
fronts_differ (Err k ∷ xs) ys (Ok b ∷ before) rest first behind last cost paid c e f g h = absurd cc
fronts_differ (Ok x ∷ xs) [] (Ok b ∷ before) rest first behind last cost paid c e f g h = absurd c
fronts_differ (Ok x ∷ xs) (Err k ∷ ys) (Ok b ∷ before) rest first behind last cost paid c e f g h = absurd c
fronts_differ (Ok x ∷ xs) (Ok y ∷ ys) (Ok b ∷ before) rest [] behind (Err k) cost paid c e f g h = absurd cc
fronts_differ (Ok x ∷ xs) (Ok y ∷ ys) (Ok b ∷ before) rest [] behind (Ok w) cost paid c e f g h =
    let p = bind_some (visits_cost before) _ cost f in
    let sum : b + p.0 ≡ cost = some_is _ _ p.2 in
    let none : 0 ≡ paid = some_is _ _ h in
    let same : x ≡ b = cc in
    let like : x ≡ y = c.0 in
    let last : y ≡ w = cc in
    inr (omega (arith, sum, none, same, like, last))
fronts_differ (Ok x ∷ xs) (Ok y ∷ ys) (Ok b ∷ before) rest (Ok d ∷ first) behind last cost paid c e f g h =
    let p = bind_some (visits_cost before) _ cost f in
    let q = bind_some (visits_cost first) _ paid h in
    let sum : b + p.0 ≡ cost = some_is _ _ p.2 in
    let all : d + q.0 ≡ paid = some_is _ _ q.2 in
    let same : x ≡ b = cc in
    let like : x ≡ y = c.0 in
    let there : y ≡ d = cc in
    let paid_is : b + q.0 ≡ paid = omega (arith, all, same, like, there) in
    let is : xs ≡ before ++ rest = cc in
    let whole : ys ≡ first ++ last ∷ behind = cc in
    further last p.0 q.0 cost paid b (fronts_differ xs ys before rest first behind last p.0 q.0 c.1 is p.1 whole q.1) sum paid_is

-- ---- room for a copy

-- what was granted, as far as it is counted, is what the visits cost
enough : (g paid cost c : ℕ) → min g (2 ^ 64 - 1) ≡ min (0 + paid) (2 ^ 64 - 1) → cost ≤ paid → min g (2 ^ 29 - 2) + 1 < 1 + cost → 2 ^ 29 - 2 < cost
enough g paid cost c e less room = omega (arith, e, less, room)

within_most : (limit : Option ℕ) (cost : ℕ) → 2 ^ 29 - 2 < cost → most_cost limit < cost
within_most None cost h = h
within_most (Some w) cost h = omega (arith, h)

passes : (o limit : Option ℕ) (g x cost : ℕ) → o ≡ limit → g ≡ 0 → IsPassed (less o g) x → x ≤ cost → most_cost limit < cost
passes None limit g x cost e z h more = absurd h
passes (Some a) None g x cost e z h more = absurd cc
passes (Some a) (Some w) g x cost e z h more = let is : a ≡ w = cc in omega (arith, is, z, h, more)

counted : (old : ℕ) (g paid : ℕ) → old ≡ 0 → min g (2 ^ 64 - 1) ≡ min (old + paid) (2 ^ 64 - 1) → min g (2 ^ 64 - 1) ≡ min (0 + paid) (2 ^ 64 - 1)
counted old g paid z e = omega (arith, z, e)

goes_past : (last : Visit) (limit : Option ℕ) (l : ReadLimiter) (why : ErrorKind) (paid cost : ℕ) → limit_of l ≡ limit → granted_of l ≡ 0 → CannotPass (left_of l) paid last why → GoesOn paid cost last → most_cost limit < cost
goes_past (Ok w) limit l why paid cost e z h more = passes l.limit limit l.granted (paid + w) cost e z h.1 more
goes_past (Err k) limit l why paid cost e z h more = absurd more

-- a walk under a limit tells how much room suffices
pub measured : (n : ℕ) (s : Segments) (limit : Option ℕ) (l m : ReadLimiter) (r : Result MessageSize Error) → limit_of l ≡ limit → granted_of l ≡ 0 → SizeGives object_words capability_count (tree_at n s root) (visits n s root) l r m
    → Suffices (copy_visits n s root) (most_cost limit) (min (granted_of m) (2 ^ 29 - 2) + 1)
measured n s limit l m (Ok size) e z h before rest cost is paid room =
    let w = h.3 in
    let less = front_costs (copy_visits n s root) (visits n s root) before rest cost w.cost (cut_visits n s root) is paid w.cost_is in
    within_most limit cost (enough (granted_of m) w.cost cost 0 (counted (granted_of l) (granted_of m) w.cost z w.spends.granted) less room)
measured n s limit l m (Err k) e z h before rest cost is paid room =
    stops (fronts_differ (copy_visits n s root) (visits n s root) before rest h.before h.behind h.last cost h.paid (cut_visits n s root) is paid h.path_is h.cost_is)
  where
    stops : (cost ≤ h.paid) ⊎ GoesOn h.paid cost h.last → most_cost limit < cost
    stops (inl few) = within_most limit cost (enough (granted_of m) h.paid cost 0 (counted (granted_of l) (granted_of m) h.paid z h.spends.granted) few room)
    stops (inr more) = goes_past h.last limit l k.kind h.paid cost e z h.why more

-- ---- whether all is within the most

-- the same visits without a fault cost the same
same_cost : (xs ys : List Visit) (cost paid : ℕ) → Cut xs ys → visits_cost xs ≡ Some cost → visits_cost ys ≡ Some paid → cost ≡ paid
same_cost [] [] cost paid c e f = some_is _ _ (sym e ∙ f)
same_cost [] (y ∷ ys) cost paid c e f = absurd c
same_cost (Err k ∷ xs) ys cost paid c e f = absurd cc
same_cost (Ok x ∷ xs) [] cost paid c e f = absurd c
same_cost (Ok x ∷ xs) (Err k ∷ ys) cost paid c e f = absurd c
same_cost (Ok x ∷ xs) (Ok y ∷ ys) cost paid c e f =
    let p = bind_some (visits_cost xs) _ cost e in
    let q = bind_some (visits_cost ys) _ paid f in
    let one : x + p.0 ≡ cost = some_is _ _ p.2 in
    let other : y + q.0 ≡ paid = some_is _ _ q.2 in
    let like : x ≡ y = c.0 in
    let rest = same_cost xs ys p.0 q.0 c.1 p.1 q.1 in
    omega (arith, one, other, like, rest)

more_goes : (v : Visit) (b paid cost all whole : ℕ) → GoesOn paid cost v → b + paid ≡ all → b + cost ≡ whole → GoesOn all whole v
more_goes (Ok w) b paid cost all whole more s t = omega (arith, more, s, t)
more_goes (Err k) b paid cost all whole more s t = absurd more

-- where visits without a fault stop at none, they go past each
all_goes : (xs ys first behind : List Visit) (last : Visit) (cost paid : ℕ) → Cut xs ys → visits_cost xs ≡ Some cost → ys ≡ first ++ last ∷ behind → visits_cost first ≡ Some paid → GoesOn paid cost last
all_goes [] [] [] behind last cost paid c e h p = absurd cc
all_goes [] [] (y ∷ first) behind last cost paid c e h p = absurd cc
all_goes [] (y ∷ ys) first behind last cost paid c e h p = absurd c
all_goes (Err k ∷ xs) ys first behind last cost paid c e h p = absurd cc
all_goes (Ok x ∷ xs) [] first behind last cost paid c e h p = absurd c
all_goes (Ok x ∷ xs) (Err k ∷ ys) first behind last cost paid c e h p = absurd c
all_goes (Ok x ∷ xs) (Ok y ∷ ys) [] behind (Err k) cost paid c e h p = absurd cc
all_goes (Ok x ∷ xs) (Ok y ∷ ys) [] behind (Ok w) cost paid c e h p =
    let a = bind_some (visits_cost xs) _ cost e in
    let sum : x + a.0 ≡ cost = some_is _ _ a.2 in
    let none : 0 ≡ paid = some_is _ _ p in
    let like : x ≡ y = c.0 in
    let last : y ≡ w = cc in
    omega (arith, sum, none, like, last)
all_goes (Ok x ∷ xs) (Ok y ∷ ys) (Err k ∷ first) behind last cost paid c e h p = absurd cc
all_goes (Ok x ∷ xs) (Ok y ∷ ys) (Ok d ∷ first) behind last cost paid c e h p =
    let a = bind_some (visits_cost xs) _ cost e in
    let b = bind_some (visits_cost first) _ paid p in
    let sum : x + a.0 ≡ cost = some_is _ _ a.2 in
    let all : d + b.0 ≡ paid = some_is _ _ b.2 in
    let like : x ≡ y = c.0 in
    let there : y ≡ d = cc in
    let front : x + b.0 ≡ paid = omega (arith, all, like, there) in
    let whole : ys ≡ first ++ last ∷ behind = cc in
    more_goes last x b.0 a.0 paid cost (all_goes xs ys first behind last a.0 b.0 c.1 a.1 whole b.1) front sum

told_of : (b : Bool) (most cost : ℕ) → (b ≡ true → cost ≤ most) → (b ≡ false → most < cost) → OnTrue b (cost ≤ most) × OnFalse b (most < cost)
told_of true most cost f g = (f refl, tt)
told_of false most cost f g = (tt, g refl)

allows_most : (o limit : Option ℕ) (g x : ℕ) → o ≡ limit → g ≡ 0 → Allows (less o g) x → x < 2 ^ 29 - 1 → x ≤ most_cost limit
allows_most None None g x e z h few = omega (arith, few)
allows_most None (Some w) g x e z h few = absurd cc
allows_most (Some a) None g x e z h few = absurd cc
allows_most (Some a) (Some w) g x e z h few = let is : a ≡ w = cc in omega (arith, is, z, h, few)

module _ (n : ℕ) (s : Segments) (limit : Option ℕ) (l m : ReadLimiter) (of : limit_of l ≡ limit) (none : granted_of l ≡ 0) where
  room_most : (g paid : ℕ) → min g (2 ^ 64 - 1) ≡ min (0 + paid) (2 ^ 64 - 1) → min g (2 ^ 29 - 2) + 1 ≤ paid + 1
  room_most g paid e = omega (arith, e)

  -- a walk that was made
  pub whole_told : (size : MessageSize) → SizeGives object_words capability_count (tree_at n s root) (visits n s root) l (Ok size) m → (b : Bool) → b ≡ ltb (granted_of m) (2 ^ 29 - 1) → TellsWhole (copy_visits n s root) (most_cost limit) b
  whole_told size h b is cost costs =
      let w = h.3 in
      let same = same_cost (copy_visits n s root) (visits n s root) cost w.cost (cut_visits n s root) costs w.cost_is in
      let count = counted (granted_of l) (granted_of m) w.cost none w.spends.granted in
      told_of b (most_cost limit) cost
      (λ yes. allows_most (limit_of l) limit (granted_of l) cost of none (subst (Allows (left_of l)) (sym same) w.spends.allowed) (few_of (granted_of m) w.cost cost same count (ltb-true (granted_of m) (2 ^ 29 - 1) (sym is ∙ yes))))
      (λ no. within_most limit cost (many_of (granted_of m) w.cost cost same count (ltb-false (granted_of m) (2 ^ 29 - 1) (sym is ∙ no))))
    where
      few_of : (g paid cost : ℕ) → cost ≡ paid → min g (2 ^ 64 - 1) ≡ min (0 + paid) (2 ^ 64 - 1) → g < 2 ^ 29 - 1 → cost < 2 ^ 29 - 1
      few_of g paid cost same e few = omega (arith, same, e, few)

      many_of : (g paid cost : ℕ) → cost ≡ paid → min g (2 ^ 64 - 1) ≡ min (0 + paid) (2 ^ 64 - 1) → 2 ^ 29 - 1 ≤ g → 2 ^ 29 - 2 < cost
      many_of g paid cost same e many = omega (arith, same, e, many)

  pub whole_asked : (size : MessageSize) → SizeGives object_words capability_count (tree_at n s root) (visits n s root) l (Ok size) m → IsAsked (visits n s root) (min (granted_of m) (2 ^ 29 - 2) + 1)
  whole_asked size h = let w = h.3 in (visits n s root, [], w.cost, sym (append-nil (visits n s root)), w.cost_is, room_most (granted_of m) w.cost (counted (granted_of l) (granted_of m) w.cost none w.spends.granted))

  -- a walk that was stopped
  pub stopped_told : (e : Error) → Stopped (visits n s root) l e m → TellsWhole (copy_visits n s root) (most_cost limit) false
  stopped_told e h cost costs = (tt, goes_past h.last limit l e.kind h.paid cost of none h.why (all_goes (copy_visits n s root) (visits n s root) h.before h.behind h.last cost h.paid (cut_visits n s root) costs h.path_is h.cost_is))

  pub stopped_asked : (e : Error) → Stopped (visits n s root) l e m → IsAsked (visits n s root) (min (granted_of m) (2 ^ 29 - 2) + 1)
  stopped_asked e h = (h.before, h.last ∷ h.behind, h.paid, h.path_is, h.cost_is, room_most (granted_of m) h.paid (counted (granted_of l) (granted_of m) h.paid none h.spends.granted))
