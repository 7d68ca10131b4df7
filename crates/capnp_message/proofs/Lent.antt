-- What a message over the heap was lent: nothing.
use Rattle.std.proofs.Common.{◌≡◌, ◌≤◌, ◌++◌, ℕ, List, [], ◌∷◌, length, refl, sym, subst, arith}
use Rattle.std.specs.List.{flat_map}

-- What an item is lent.
abbrev pub nothing : {X : Type 0} → X → List ℕ
nothing x = []

no_loans : {X : Type 0} (xs : List X) → flat_map nothing xs ≡ []
no_loans [] = refl
no_loans (x ∷ xs) = no_loans xs

pub few_loans : {X : Type 0} (xs : List X) → length (flat_map nothing xs ++ []) ≤ 1
few_loans xs =
    let few : 0 ≤ 1 = omega arith in
    subst (λ (l : List ℕ). length (l ++ []) ≤ 1) (sym (no_loans xs)) few
