-- Pairs that are known.
use Rattle.std.proofs.Common.{◌≡◌, ℕ, Bool, true, false, cond, ◌&&◌, ◌||◌, ◌==◌, [], ◌∷◌, ◌++◌, refl, ◌∙◌, ap}
use Rattle.capnp_model.specs.Compatible.{Pairs, has_pair}

-- one more is there
pub one_more : (more : Pairs) (i j a b : ℕ) → has_pair (more ++ (i, j) ∷ []) a b ≡ ((i == a && j == b) || has_pair more a b)
one_more [] i j a b = refl
one_more (p ∷ more) i j a b = ap (λ c. (p.0 == a && p.1 == b) || c) (one_more more i j a b) ∙ turned (p.0 == a && p.1 == b) (i == a && j == b) (has_pair more a b)
  where
    turned : (x y z : Bool) → (x || (y || z)) ≡ (y || (x || z))
    turned true true z = refl
    turned true false z = refl
    turned false y z = refl

pub either : (b c : Bool) → cond b true c ≡ (b || c)
either true c = refl
either false c = refl
