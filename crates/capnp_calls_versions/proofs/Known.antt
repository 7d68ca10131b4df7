-- The pairs that are reached, and those that are known.
use Rattle.std.proofs.Common.{◌≡◌, ℕ, Bool, true, false, cond, ◌&&◌, ◌||◌, ◌==◌, [], ◌∷◌, ◌++◌, refl, sym, ◌∙◌, ap}
use Rattle.std.proofs.lemmas.List.Folds.{list_all-append}
use Rattle.capnp_model.specs.Compatible.{Pairs, has_pair}
use Rattle.capnp_model.proofs.lemmas.Tests.{same_number, and_true, and_left, and_right}
use Rattle.capnp_calls_versions.specs.Pairs.{has_each}

-- one among pairs that are all there is there
there : (pairs more : Pairs) (i j : ℕ) → has_pair more i j ≡ true → has_each pairs more ≡ true → has_pair pairs i j ≡ true
there pairs [] i j h k = absurd (cc h)
there pairs (p ∷ more) i j h k = by (p.0 == i && p.1 == j) refl h (λ g. there pairs more i j g (and_right (has_pair pairs p.0 p.1) (has_each pairs more) k))
  where
    by : (b : Bool) → (p.0 == i && p.1 == j) ≡ b → (b || has_pair more i j) ≡ true → (has_pair more i j ≡ true → has_pair pairs i j ≡ true) → has_pair pairs i j ≡ true
    by true e g next =
        let first : p.0 ≡ i = same_number p.0 i (and_left (p.0 == i) (p.1 == j) e) in
        let second : p.1 ≡ j = same_number p.1 j (and_right (p.0 == i) (p.1 == j) e) in
        ap (λ a. has_pair pairs a j) (sym first) ∙ ap (λ b. has_pair pairs p.0 b) (sym second) ∙ and_left (has_pair pairs p.0 p.1) (has_each pairs more) k
    by false e g next = next g

-- a pair that was reached adds nothing
pub reached_before : (pairs more : Pairs) (i j : ℕ) → has_pair more i j ≡ true → (has_each pairs more && has_pair pairs i j) ≡ has_each pairs more
reached_before pairs more i j h = by (has_each pairs more) refl
  where
    by : (b : Bool) → has_each pairs more ≡ b → (b && has_pair pairs i j) ≡ b
    by true e = there pairs more i j h e
    by false e = refl

-- a pair that is new is one more
pub reached_now : (pairs more : Pairs) (i j : ℕ) → has_each pairs (more ++ (i, j) ∷ []) ≡ (has_each pairs more && has_pair pairs i j)
reached_now pairs more i j = list_all-append (λ p. has_pair pairs p.0 p.1) more ((i, j) ∷ []) ∙ ap (λ b. has_each pairs more && b) (and_true (has_pair pairs i j))

or_swap : (a b : Bool) → (a || (b || false)) ≡ (b || a)
or_swap true true = refl
or_swap true false = refl
or_swap false true = refl
or_swap false false = refl

pub one_more : (more : Pairs) (i j a b : ℕ) → has_pair (more ++ (i, j) ∷ []) a b ≡ ((i == a && j == b) || has_pair more a b)
one_more [] i j a b = refl
one_more (p ∷ more) i j a b = ap (λ c. (p.0 == a && p.1 == b) || c) (one_more more i j a b) ∙ turned (p.0 == a && p.1 == b) (i == a && j == b) (has_pair more a b)
  where
    turned : (x y z : Bool) → (x || (y || z)) ≡ (y || (x || z))
    turned true true z = refl
    turned true false z = refl
    turned false y z = refl

pub either : (b c : Bool) → cond b true c ≡ (b || c)
either true c = refl
either false c = refl
