-- Fronts and ends of lists.
use Rattle.std.proofs.Common.{ℕ, zero, suc, ◌≤◌, List, [], ◌∷◌, length, take, arith, ◌≡◌, refl, ap, drop, ◌+◌, ◌++◌}
use Rattle.capnp_model.specs.Visits.{Visit}

pub length-take-short : (n : ℕ) (ws : List ℕ) → length (take n ws) ≤ n
length-take-short zero ws = omega arith
length-take-short (suc n) [] = omega arith
length-take-short (suc n) (x ∷ ws) = let rest = length-take-short n ws in omega arith

pub take-all : {A : Type 0} (xs : List A) (n : ℕ) → length xs ≤ n → take n xs ≡ xs
take-all [] zero h = refl
take-all [] (suc n) h = refl
take-all (x ∷ xs) zero h = absurd (omega arith)
take-all (x ∷ xs) (suc n) h = ap (λ ys. x ∷ ys) (take-all xs n (omega arith))

pub drop-all : {A : Type 0} (vs : List A) (i : ℕ) → length vs ≤ i → drop i vs ≡ []
drop-all [] zero h = refl
drop-all [] (suc i) h = refl
drop-all (v ∷ vs) zero h = absurd (omega arith)
drop-all (v ∷ vs) (suc i) h = drop-all vs i (omega arith)

pub only_is : (a b : List ℕ) → a ∷ [] ≡ b ∷ [] → a ≡ b
only_is a b e = cc

pub last_of : (v : Visit) (vs : List Visit) → (before : List Visit) × (last : Visit) × (v ∷ vs ≡ before ++ last ∷ [])
last_of v [] = ([], v, refl)
last_of v (w ∷ vs) = let x = last_of w vs in (v ∷ x.0, x.1, ap (λ (ws : List Visit). v ∷ ws) x.2)
